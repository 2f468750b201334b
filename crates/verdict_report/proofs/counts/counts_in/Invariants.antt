use Rattle.std.proofs.Common.{◌≡◌, take}
use Rattle.verdict_report.specs.Printed.{counts_of}
use Rattle.verdict_report.proofs.counts.counts_in.Given as goal

-- those so far
abbrev pub invariant-loop-one : goal.invariant-loop-one
invariant-loop-one l = l.counts ≡ counts_of (take l.one-index l.all)
