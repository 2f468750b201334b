use Rattle.std.proofs.Common.{◌≡◌, ◌-◌, ℕ, List, ◌++◌, length, false}
use Rattle.http_edge.specs.SessionBytes.{Receives, ReadsWhile, IsShort}
use Rattle.http_edge.proofs.session_bytes.receive_body.Given as goal

abbrev pub invariant-pieces : goal.invariant-pieces
invariant-pieces g l =
    record {
      room : length l.buffer ≡ 65536;
      so_far : (given : List ℕ) × Receives given false false (g.L.Link.log l.initial.link) (g.L.Link.log l.link) × (l.body ≡ l.initial.body ++ given)
          × ReadsWhile (IsShort l.initial.body l.wanted) given;
      faults : g.L.Link.faults l.link ≡ g.L.Link.faults l.initial.link;
    }

abbrev pub decreases-pieces : goal.decreases-pieces
decreases-pieces g l = l.wanted - length l.body
