use Rattle.std.proofs.Common.{◌≡◌, ℕ, ◌<◌, ◌≤◌, length, get_or}
use Rattle.list_versions.specs.Draft.{declared_of}
use Rattle.list_versions.specs.Folding.{after_changes}
use Rattle.list_versions.specs.Live.{Holds, HasPlaced}
use Rattle.list_versions.specs.declared.draft.Listed.{Listed}
use Rattle.list_versions.proofs.refreshing.refresh_lists.Given as goal

abbrev pub invariant-loop-i : goal.invariant-loop-i
invariant-loop-i l = record {
  names : declared_of l.lists.items ≡ declared_of l.initial.lists.items;
  long : length l.lists.items ≡ length l.initial.lists.items;
  same : (k : ℕ) (d : Listed) → l.i ≤ k → get_or l.lists.items k d ≡ get_or l.initial.lists.items k d;
  held : (k : ℕ) (d : Listed) → k < l.i → let list = get_or l.lists.items k d in Holds list.live (after_changes list.name l.changes);
  placed : (k : ℕ) (d : Listed) → k < l.i → let list = get_or l.lists.items k d in HasPlaced list.name l.changes list.live;
}
