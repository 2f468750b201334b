use Rattle.std.proofs.Common.{sym, subst, arith}
use Rattle.std.specs.Str.{IsUtf8}
use Rattle.sb_members.specs.Ranges.{IsDuration}
use Rattle.sb_members.proofs.DurationBytes.{duration_utf8, zero_is_duration}
use Rattle.sb_members.proofs.members.duration_value.Goals as goal

pub returns-then-nanos-eq0-clause-range : goal.returns-then-nanos-eq0-clause-range
returns-then-nanos-eq0-clause-range c = subst IsDuration (omega arith) zero_is_duration

pub unwrap-text-requires : goal.unwrap-text-requires
unwrap-text-requires c =
    c.from_utf8.ensures.succeeds
    (subst IsUtf8 (sym c.into_vec.ensures) (duration_utf8 (λ text nanos. (c.durations_are_their_digits.ensures text nanos).0) _ _ c.in_ok-bytes.ensures.read_again))
