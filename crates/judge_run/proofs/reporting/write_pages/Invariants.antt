use Rattle.std.proofs.Common.{◌≡◌, take}
use Rattle.std.specs.List.{concat}
use Rattle.sb_outside.specs.Outside.{appended}
use Rattle.judge_run.proofs.reporting.write_pages.Given as goal

-- those so far are written
abbrev pub invariant-loop-page : goal.invariant-loop-page
invariant-loop-page g l = record {
  text : g.O.Sink.contents l.out ≡ appended (g.O.Sink.contents l.initial.out) (concat (take l.page-index l.pages));
  kept : g.O.Sink.faults l.out ≡ g.O.Sink.faults l.initial.out;
}
