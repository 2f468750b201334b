use Rattle.std.proofs.Common.{◌≡◌, ℕ, ◌<◌, false, length, map, take, get_or}
use Rattle.list_versions.specs.Draft.{history_of}
use Rattle.list_versions.specs.Loaded.{IsNewest}
use Rattle.list_versions.specs.Renewing.{stays}
use Rattle.list_versions.specs.declared.draft.Listed.{Listed}
use Rattle.list_versions.specs.declared.newest.Newest.{Newest}
use Rattle.list_versions.proofs.renewing.renew.Given as goal

abbrev pub invariant-loop-i : goal.invariant-loop-i
invariant-loop-i l = record {
  names : map (λ (newest : Newest). newest.name) l.newest.items ≡ map (λ (listed : Listed). listed.name) (take l.i l.draft.lists.items);
  long : length l.newest.items ≡ l.i;
  newest : (k : ℕ) (d : Newest) → k < l.i → stays l.draft.changes.items l.before k (get_or l.newest.items k d).name ≡ false → IsNewest (history_of l.draft) (get_or l.newest.items k d);
}
