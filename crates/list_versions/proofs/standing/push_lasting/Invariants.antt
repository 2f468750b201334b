use Rattle.std.proofs.Common.{◌≡◌, ◌++◌, List, map, take}
use Rattle.list_versions.specs.Ends.{Line, lasting}
use Rattle.list_versions.proofs.standing.push_lasting.Given as goal

abbrev pub invariant-loop-i : goal.invariant-loop-i
invariant-loop-i l = (lines : List Line) → map (λ (line : Line). line.0) lines ≡ l.adds → map (λ (line : Line). line.1) lines ≡ l.ends
    → l.found.items ≡ l.initial.found.items ++ lasting l.version l.endless (take l.i lines)
