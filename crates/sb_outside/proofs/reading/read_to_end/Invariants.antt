use Rattle.std.proofs.Common.{◌≡◌, ◌+◌, ◌-◌, length, vec_len}
use Rattle.sb_outside.specs.Outside.{GivesFront}
use Rattle.sb_outside.proofs.reading.read_to_end.Given as goal

abbrev pub invariant-loop-source : goal.invariant-loop-source
invariant-loop-source g l =
    record {
      gives : GivesFront l.text (g.S.Source.left l.initial.source) (g.S.Source.left l.source);
      faults : g.S.Source.faults l.source ≡ g.S.Source.faults l.initial.source;
      other : g.S.Source.back l.source ≡ g.S.Source.back l.initial.source;
      buffer : vec_len l.buffer ≡ 262144;
    }

abbrev pub decreases-loop-source : goal.decreases-loop-source
decreases-loop-source g l = l.limit + 1 - length l.text
