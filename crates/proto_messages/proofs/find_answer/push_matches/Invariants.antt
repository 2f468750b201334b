use Rattle.std.proofs.Common.{◌≡◌, ◌++◌, map, length}
use Rattle.proto_wire.specs.Spelling.{written_fields}
use Rattle.proto_messages.specs.Writing.{match_field}
use Rattle.proto_messages.proofs.find_answer.push_matches.Given as goal

abbrev pub invariant-loop-found : goal.invariant-loop-found
invariant-loop-found l =
    l.fn.out ++ written_fields (map (match_field l.social) l.matches) ≡ l.out ++ written_fields (map (match_field l.social) l.rest)

abbrev pub decreases-loop-found : goal.decreases-loop-found
decreases-loop-found l = length l.rest
