-- As many items as a request may have, or more.
use Rattle.std.proofs.Common.{◌≡◌, ◌≤◌, ◌<◌, List, [], ◌∷◌, length, Some, Ok, refl, arith}
use Rattle.serde_json.specs.View.{items_view}
use Rattle.serde_json.specs.declared.value.Value.{Value}
use Rattle.sb_json.specs.declared.faults.MessageFault.TheVariants.{TooManyItems}
use Rattle.sb_members.specs.Lists.{first_from, item_count}
use Rattle.hash_messages.specs.Faults.{fault_by}
use Rattle.lookup_messages.specs.Messages.{most_urls}
use Rattle.lookup_messages.specs.RequestRows.{url_row}
use Rattle.lookup_messages.specs.Faults.{fault_of_urls}

count_of_items : (xs : List Value) → item_count (items_view xs) ≡ length xs
count_of_items [] = refl
count_of_items (x ∷ xs) = omega (arith, count_of_items xs)

pub few_clean : (xs : List Value) → length xs ≤ most_urls → fault_of_urls (Ok (items_view xs)) ≡ first_from (fault_by url_row) 1 (items_view xs)
few_clean xs le = rw (count_of_items xs) (grind arith)

pub too_many : (xs : List Value) → most_urls < length xs → fault_of_urls (Ok (items_view xs)) ≡ Some (TooManyItems (length xs))
too_many xs lt = rw (count_of_items xs) (grind arith)
