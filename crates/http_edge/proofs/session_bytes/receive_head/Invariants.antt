use Rattle.std.proofs.Common.{◌≡◌, ◌-◌, length, vec_len, false}
use Rattle.http_edge.specs.SessionBytes.{Receives, ReadsWhile, IsOpenHead}
use Rattle.http_edge.proofs.session_bytes.receive_head.Given as goal

abbrev pub invariant-pieces : goal.invariant-pieces
invariant-pieces g l =
    record {
      buffer : length l.buffer ≡ 65536;
      room : vec_len l.room ≡ 5461;
      so_far : Receives l.text false false (g.L.Link.log l.initial.link) (g.L.Link.log l.link);
      reads : ReadsWhile IsOpenHead l.text;
      faults : g.L.Link.faults l.link ≡ g.L.Link.faults l.initial.link;
    }

abbrev pub decreases-pieces : goal.decreases-pieces
decreases-pieces g l = 16384 - length l.text
