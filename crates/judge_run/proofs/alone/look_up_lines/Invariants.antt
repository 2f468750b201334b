use Rattle.std.proofs.Common.{◌≡◌, ◌≤◌, ◌+◌, ℕ, List, [], ◌∷◌, ◌++◌, length}
use Rattle.input_lines.specs.Lines.{lines_of}
use Rattle.verdict_report.specs.declared.verdicts.Judged.{Judged}
use Rattle.judge_run.specs.Judging.{JudgesLines}
use Rattle.judge_run.specs.Reporting.{IsReport}
use Rattle.judge_run.proofs.alone.look_up_lines.Given as goal

-- the lines so far were judged, and the others are left
abbrev pub invariant-loop-rest : goal.invariant-loop-rest
invariant-loop-rest g l =
    (lines : List (List ℕ))
    × (all : List Judged)
    × (lines ++ lines_of l.rest ≡ lines_of l.input)
    × IsReport l.report all
    × JudgesLines l.plan (l.lists ∷ []) l.initial.finds l.finds
    (g.N.Line.view l.initial.line).told
    (g.N.Line.view l.line).told lines all
    × ((g.N.Line.view l.initial.line).told.faults ≤ (g.N.Line.view l.line).told.faults)
    × (length all + length l.rest ≤ length l.input)
    × ((g.N.Line.view l.line).objects ≡ (g.N.Line.view l.initial.line).objects)

abbrev pub decreases-loop-rest : goal.decreases-loop-rest
decreases-loop-rest g l = length l.rest
