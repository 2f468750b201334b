use Rattle.std.proofs.Common.{◌≡◌, ◌++◌, List, map, take, true}
use Rattle.sb_model.specs.History.{prefix_of}
use Rattle.list_versions.specs.Ends.{Line, lasting}
use Rattle.list_versions.specs.Quads.{quads_of}
use Rattle.list_versions.proofs.quads.push_heads.Given as goal

abbrev pub invariant-loop-i : goal.invariant-loop-i
invariant-loop-i l = (lines : List Line) → map (λ (line : Line). line.0) lines ≡ l.adds → map (λ (line : Line). line.1) lines ≡ l.ends
    → quads_of l.found.items ≡ quads_of l.initial.found.items ++ map prefix_of (lasting l.version true (take l.i lines))
