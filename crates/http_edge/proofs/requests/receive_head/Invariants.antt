use Rattle.std.proofs.Common.{◌≡◌, ◌-◌, length}
use Rattle.sb_outside.specs.Outside.{GivesFront}
use Rattle.http_edge.specs.Requests.{NeedsMore}
use Rattle.http_edge.specs.SessionBytes.{ReadsWhile}
use Rattle.http_edge.proofs.requests.receive_head.Given as goal

abbrev pub invariant-pieces : goal.invariant-pieces
invariant-pieces g l =
    record {
      buffer : length l.buffer ≡ 65536;
      so_far : GivesFront l.text (g.S.Source.left l.initial.source) (g.S.Source.left l.source);
      reads : ReadsWhile NeedsMore l.text;
      faults : g.S.Source.faults l.source ≡ g.S.Source.faults l.initial.source;
      other : g.S.Source.back l.source ≡ g.S.Source.back l.initial.source;
    }

abbrev pub decreases-pieces : goal.decreases-pieces
decreases-pieces g l = 16384 - length l.text
