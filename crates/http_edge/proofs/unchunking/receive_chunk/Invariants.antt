use Rattle.std.proofs.Common.{◌≡◌, ◌≤◌, ◌-◌, ◌+◌, length, false}
use Rattle.http_edge.specs.ChunkSteps.{IsOpenWith}
use Rattle.http_edge.specs.SessionBytes.{ReceivesOn}
use Rattle.http_edge.proofs.unchunking.receive_chunk.Given as goal

abbrev pub invariant-pieces : goal.invariant-pieces
invariant-pieces g l =
    record {
      buffer : length l.buffer ≡ 65536;
      room : length l.room ≡ 5461;
      within : l.place.at ≤ length l.text;
      so_far : ReceivesOn (IsOpenWith l.initial.text l.place) l.initial.text l.text false (g.L.Link.log l.initial.link) (g.L.Link.log l.link);
      faults : g.L.Link.faults l.link ≡ g.L.Link.faults l.initial.link;
    }

abbrev pub decreases-pieces : goal.decreases-pieces
decreases-pieces g l = l.place.at + 201327618 - length l.text
