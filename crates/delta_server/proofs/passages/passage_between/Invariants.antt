use Rattle.std.proofs.Common.{◌≡◌, ◌<◌, List, ◌++◌, length}
use Rattle.list_versions.specs.declared.stretch.Stretch.{Stretch}
use Rattle.delta_server.specs.Passages.{HasPassed}
use Rattle.delta_server.specs.Sweeping.{shown_at}
use Rattle.delta_server.proofs.Membership.{In}
use Rattle.delta_server.proofs.passages.passage_between.Given as goal

abbrev pub invariant-loop-first : goal.invariant-loop-first
invariant-loop-first l = record {
  done : List Stretch;
  whole : l.stretches ≡ done ++ l.rest;
  below : (s t : Stretch) → In s done → In t l.rest → s.head < t.head;
  passed : HasPassed l.passage (shown_at l.stretches l.held) (shown_at l.stretches l.version) l.held l.version done;
}

abbrev pub decreases-loop-first : goal.decreases-loop-first
decreases-loop-first l = length l.rest
