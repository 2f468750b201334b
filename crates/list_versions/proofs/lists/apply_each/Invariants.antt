use Rattle.std.proofs.Common.{◌≡◌, ℕ, ◌^◌, ◌<◌, ◌≤◌, List, length, get_or}
use Rattle.std.specs.Prelude.{All}
use Rattle.sb_model.specs.declared.history.Added.{Added}
use Rattle.sb_model.specs.declared.names.ListName.{ListName}
use Rattle.sb_model.specs.History.{after_change}
use Rattle.list_versions.specs.declared.draft.Listed.{Listed}
use Rattle.list_versions.specs.Draft.{declared_of, AppliesLines}
use Rattle.list_versions.specs.Live.{Holds, KeepsEnds}
use Rattle.list_versions.proofs.lists.apply_each.Given as goal

abbrev pub invariant-loop-i : goal.invariant-loop-i
invariant-loop-i l = record {
  names : declared_of l.lists.items ≡ declared_of l.initial.lists.items;
  long : length l.lists.items ≡ length l.initial.lists.items;
  same : (k : ℕ) (d : Listed) → l.i ≤ k → get_or l.lists.items k d ≡ get_or l.initial.lists.items k d;
  held : (sizes : ListName → List Added) → ((name : ListName) → length (sizes name) < 2 ^ 32) → length l.change.adds < 2 ^ 32
      → All (λ (list : Listed). Holds list.live (sizes list.name)) l.initial.lists.items
      → (k : ℕ) (d : Listed) → k < l.i → let list = get_or l.lists.items k d in Holds list.live (after_change list.name (sizes list.name) l.change);
  placed : (k : ℕ) (d : Listed) → k < l.i → AppliesLines l.version l.change (get_or l.initial.lists.items k d) (get_or l.lists.items k d);
  kept : (k : ℕ) (d : Listed) → k < l.i → KeepsEnds l.version (length l.change.adds) (get_or l.initial.lists.items k d).live (get_or l.lists.items k d).live;
}
