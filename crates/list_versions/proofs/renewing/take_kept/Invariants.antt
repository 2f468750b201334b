use Rattle.std.proofs.Common.{◌≡◌, ℕ, ◌<◌, ◌≤◌, true, false, length, get_or}
use Rattle.list_versions.specs.Renewing.{stays}
use Rattle.list_versions.specs.declared.newest.Newest.{Newest}
use Rattle.list_versions.proofs.renewing.take_kept.Given as goal

abbrev pub invariant-loop-i : goal.invariant-loop-i
invariant-loop-i l = record {
  long : length l.newest.items ≡ length l.initial.newest.items;
  short : length l.old.items ≡ length l.initial.old.items;
  left : (k : ℕ) (d : Newest) → l.i ≤ k → get_or l.old.items k d ≡ get_or l.initial.old.items k d;
  right : (k : ℕ) (d : Newest) → l.i ≤ k → get_or l.newest.items k d ≡ get_or l.initial.newest.items k d;
  kept : (k : ℕ) (d : Newest) → k < l.i → stays l.changes l.before k (get_or l.initial.old.items k d).name ≡ true → get_or l.newest.items k d ≡ get_or l.initial.old.items k d;
  renewed : (k : ℕ) (d : Newest) → k < l.i → stays l.changes l.before k (get_or l.initial.old.items k d).name ≡ false → get_or l.newest.items k d ≡ get_or l.initial.newest.items k d;
}
