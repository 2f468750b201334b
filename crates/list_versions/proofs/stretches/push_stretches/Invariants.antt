use Rattle.std.proofs.Common.{◌≡◌, ℕ, ◌≤◌, ◌&&◌, ◌||◌, nat_le, List, map, take}
use Rattle.std.specs.Prelude.{All}
use Rattle.std.specs.List.{list_any}
use Rattle.sb_model.specs.History.{History, version_count}
use Rattle.list_versions.specs.Ends.{Line}
use Rattle.list_versions.specs.Showing.{is_shown}
use Rattle.list_versions.specs.Stretches.{IsStretch, shows_at}
use Rattle.list_versions.proofs.stretches.push_stretches.Given as goal

abbrev pub invariant-loop-i : goal.invariant-loop-i
invariant-loop-i l = record {
  shown : (lines : List Line) → map (λ (line : Line). line.0) lines ≡ l.adds → map (λ (line : Line). line.1) lines ≡ l.ends → (version : ℕ) (prefix : List ℕ)
      → list_any (shows_at version prefix) l.found.items
      ≡ (list_any (shows_at version prefix) l.initial.found.items || (nat_le l.from version && list_any (is_shown version prefix) (take l.i lines)));
  each : (versions : History) → l.from ≤ version_count versions → All (IsStretch versions) l.initial.found.items → All (IsStretch versions) l.found.items;
}
