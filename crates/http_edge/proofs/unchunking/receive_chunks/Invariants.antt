use Rattle.std.proofs.Common.{◌≡◌, ◌-◌, ℕ, List, ◌++◌, length, vec_len, false}
use Rattle.http_edge.specs.ChunkSteps.{IsReadTo, IsOpenBodyWith}
use Rattle.http_edge.specs.SessionBytes.{Receives, ReadsWhile}
use Rattle.http_edge.proofs.unchunking.receive_chunks.Given as goal

abbrev pub invariant-chunks : goal.invariant-chunks
invariant-chunks g l =
    record {
      buffer : length l.buffer ≡ 65536;
      room : vec_len l.room ≡ 5461;
      so_far : (given : List ℕ) × Receives given false false (g.L.Link.log l.initial.link) (g.L.Link.log l.link) × IsReadTo (l.fn.body ++ given) l.text l.place
          × ReadsWhile (IsOpenBodyWith l.fn.body) given;
      faults : g.L.Link.faults l.link ≡ g.L.Link.faults l.initial.link;
    }

abbrev pub decreases-chunks : goal.decreases-chunks
decreases-chunks g l = 1048576 - l.place.count
