use Rattle.std.proofs.Common.{◌≡◌, ℕ, ◌<◌, ◌≤◌, min, length, get_or}
use Rattle.list_versions.specs.Draft.{declared_of}
use Rattle.list_versions.specs.Ends.{adds_of, most_lines, restored}
use Rattle.list_versions.specs.declared.draft.Listed.{Listed}
use Rattle.list_versions.proofs.lists.restore_each.Given as goal

abbrev pub invariant-loop-i : goal.invariant-loop-i
invariant-loop-i l = record {
  declared : declared_of l.lists.items ≡ declared_of l.initial.lists.items;
  long : length l.lists.items ≡ length l.initial.lists.items;
  same : (k : ℕ) (d : Listed) → l.i ≤ k → get_or l.lists.items k d ≡ get_or l.initial.lists.items k d;
  ends : (k : ℕ) (d : Listed) → k < l.i → (get_or l.lists.items k d).live.ends.items
      ≡ restored (length l.changes) (min (length (adds_of (get_or l.initial.lists.items k d).name l.changes)) most_lines) (get_or l.initial.lists.items k d).live.ends.items;
}
