use Rattle.std.proofs.Common.{◌≡◌, List, map, take, false}
use Rattle.list_versions.specs.Ends.{Line, has_standing}
use Rattle.list_versions.proofs.standing.has_lasting.Given as goal

abbrev pub invariant-loop-i : goal.invariant-loop-i
invariant-loop-i l = (lines : List Line) → map (λ (line : Line). line.0) lines ≡ l.adds → map (λ (line : Line). line.1) lines ≡ l.ends
    → has_standing l.version l.hash (take l.i lines) ≡ false
