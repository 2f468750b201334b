use Rattle.std.proofs.Common.{◌≡◌, ◌-◌, ℕ, List, ◌++◌, length}
use Rattle.sb_outside.specs.Outside.{GivesFront}
use Rattle.http_edge.specs.SessionBytes.{ReadsWhile, IsShort}
use Rattle.http_edge.proofs.receiving.receive_body.Given as goal

abbrev pub invariant-pieces : goal.invariant-pieces
invariant-pieces g l =
    record {
      room : length l.buffer ≡ 65536;
      so_far : (given : List ℕ) × GivesFront given (g.S.Source.left l.initial.source) (g.S.Source.left l.source) × (l.body ≡ l.initial.body ++ given)
          × ReadsWhile (IsShort l.initial.body l.wanted) given;
      faults : g.S.Source.faults l.source ≡ g.S.Source.faults l.initial.source;
      other : g.S.Source.back l.source ≡ g.S.Source.back l.initial.source;
    }

abbrev pub decreases-pieces : goal.decreases-pieces
decreases-pieces g l = l.wanted - length l.body
