use Rattle.std.proofs.Common.{◌≡◌, List, length, map, take, drop, true}
use Rattle.sb_model.specs.History.{prefix_of}
use Rattle.list_versions.specs.Ends.{Line, adds_of, lasting}
use Rattle.list_versions.specs.Quads.{quads_of}
use Rattle.list_versions.proofs.quads.heads_in.Given as goal

abbrev pub invariant-loop-change : goal.invariant-loop-change
invariant-loop-change l = record {
  rest : l.rest ≡ drop (length (adds_of l.list (take l.change-index l.changes))) l.ends;
  found : (lines : List Line) → map (λ (line : Line). line.0) lines ≡ adds_of l.list l.changes → map (λ (line : Line). line.1) lines ≡ l.ends
      → quads_of l.found.items ≡ map prefix_of (lasting l.version true (take (length (adds_of l.list (take l.change-index l.changes))) lines));
}
