use Rattle.std.proofs.Common.{◌≡◌, ◌≤◌, List, length, map, take, drop}
use Rattle.std.specs.Prelude.{All}
use Rattle.sb_model.specs.History.{History, version_count}
use Rattle.list_versions.specs.Ends.{Line, adds_of}
use Rattle.list_versions.specs.Showing.{ShowLines}
use Rattle.list_versions.specs.Stretches.{IsStretch}
use Rattle.list_versions.proofs.stretches.stretches_in.Given as goal

abbrev pub invariant-loop-i : goal.invariant-loop-i
invariant-loop-i l = record {
  rest : l.rest ≡ drop (length (adds_of l.list (take l.i l.changes))) l.ends;
  shown : (lines : List Line) → map (λ (line : Line). line.0) lines ≡ adds_of l.list l.changes → map (λ (line : Line). line.1) lines ≡ l.ends
      → ShowLines l.list (take l.i l.changes) lines l.found.items;
  each : (versions : History) → length l.changes ≤ version_count versions → All (IsStretch versions) l.found.items;
}
