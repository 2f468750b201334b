use Rattle.std.proofs.Common.{◌≡◌, List, length, map, take, drop, false}
use Rattle.list_versions.specs.Ends.{Line, adds_of, has_standing}
use Rattle.list_versions.proofs.standing.stands.Given as goal

abbrev pub invariant-loop-change : goal.invariant-loop-change
invariant-loop-change l = record {
  rest : l.rest ≡ drop (length (adds_of l.list (take l.change-index l.changes))) l.ends;
  none : (lines : List Line) → map (λ (line : Line). line.0) lines ≡ adds_of l.list l.changes → map (λ (line : Line). line.1) lines ≡ l.ends
      → has_standing l.version l.hash (take (length (adds_of l.list (take l.change-index l.changes))) lines) ≡ false;
}
