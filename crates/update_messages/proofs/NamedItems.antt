-- Items with names, and how many they are.
use Rattle.std.proofs.Common.{◌≡◌, ℕ, ◌+◌, ◌≤◌, ◌<◌, Bool, true, false, if◌then◌else◌, List, [], ◌∷◌, length, drop, get_or, Option, Some, None, option_map, Ok, refl, ap, ◌∙◌, arith}
use Rattle.std.proofs.Math.ListN.{drop_of_length-le}
use Rattle.serde_json.specs.Data.{Data, Items, no_items, item}
use Rattle.serde_json.specs.View.{view, items_view}
use Rattle.serde_json.specs.declared.value.Value.{Value}
use Rattle.sb_json.specs.declared.faults.MessageFault.TheVariants.{TooManyItems}
use Rattle.sb_members.specs.Lists.{EachReads, first_from}
use Rattle.sb_members.specs.Somes.{somes, ReadsSome, is_something}
use Rattle.sb_model.specs.declared.names.ListName.{ListName}
use Rattle.update_messages.specs.Messages.{AskedItem, AskedList, list_of_item, most_items}
use Rattle.update_messages.specs.RequestRows.{asked_name_row}
use Rattle.update_messages.specs.Reading.{ReadsAskedItem, ReadsAsked}
use Rattle.update_messages.specs.Faults.{fault_of_asked, named_count, fault_of_requests}
use Rattle.update_messages.proofs.Lists.{from_here}

one_if : (b : Bool) (n : ℕ) → (if b then n + 1 else n) ≤ n + 1
one_if true n = omega arith
one_if false n = omega arith

named_below : (xs : List Value) → named_count (items_view xs) ≤ length xs
named_below [] = omega arith
named_below (x ∷ xs) = omega (arith, named_below xs, one_if (is_something (asked_name_row (view x))) (named_count (items_view xs)))

pub few_named : (xs : List Value) → length xs ≤ most_items → named_count (items_view xs) ≤ most_items
few_named xs le = omega (arith, named_below xs)

pub few_clean : (ds : Items) → named_count ds ≤ most_items → fault_of_requests (Ok ds) ≡ first_from fault_of_asked 1 ds
few_clean ds le = grind arith

many_named : (ds : Items) → most_items < named_count ds → fault_of_requests (Ok ds) ≡ Some (TooManyItems (named_count ds))
many_named ds lt = grind arith

pub too_many : (xs : List Value) → most_items < named_count (items_view xs) → fault_of_requests (Ok (items_view xs)) ≡ Some (TooManyItems (named_count (items_view xs)))
too_many xs lt = many_named (items_view xs) lt

-- ---- an item is read as the list that it asks for

pub asked_read : (d : Data) (asked : AskedItem) → ReadsAskedItem d asked → ReadsAsked d (list_of_item asked)
asked_read d asked h = record { item = asked; item_read = h; kept = refl }

-- ---- what is read as nothing has no name, and what is read as something has one

-- the list of an item that has this name
abbrev list_named : AskedItem → ListName → AskedList
list_named asked name = record {
  name = name;
  state = asked.state;
  max_update = asked.max_update;
  max_database = asked.max_database;
  raw = asked.raw;
  rice = asked.rice;
}

of_name : (asked : AskedItem) (name : Option ListName) → asked.name ≡ name → list_of_item asked ≡ option_map (list_named asked) name
of_name asked name e = ap (option_map (list_named asked)) e

asks_none : (asked : AskedItem) (name : Option ListName) → asked.name ≡ name → None ≡ list_of_item asked → name ≡ None
asks_none asked None e h = refl
asks_none asked (Some n) e h = absurd (let at : None ≡ Some (list_named asked n) = h ∙ of_name asked (Some n) e in cc)

asks_some : (asked : AskedItem) (name : Option ListName) (a : AskedList) → asked.name ≡ name → Some a ≡ list_of_item asked → is_something {A = ListName} (Ok name) ≡ true
asks_some asked None a e h = absurd (let at : Some a ≡ None = h ∙ of_name asked None e in cc)
asks_some asked (Some n) a e h = refl

pub no_name : (d : Data) → ReadsAsked d None → asked_name_row d ≡ Ok None
no_name d h = h.item_read.name ∙ ap Ok (asks_none h.item h.item.name refl h.kept)

pub has_name : (d : Data) (a : AskedList) → ReadsAsked d (Some a) → is_something (asked_name_row d) ≡ true
has_name d a h = ap is_something h.item_read.name ∙ asks_some h.item h.item.name a refl h.kept

pub named_are_read : (ds : Items) (all : List (Option AskedList)) → EachReads ReadsAsked ds all → named_count ds ≡ length (somes all)
named_are_read no_items [] h = refl
named_are_read no_items (o ∷ os) h = absurd h
named_are_read (item d ds) [] h = absurd h
named_are_read (item d ds) (None ∷ os) h = rw (no_name d h.0) (named_are_read ds os h.1)
named_are_read (item d ds) (Some a ∷ os) h = rw (has_name d a h.0) (omega (arith, named_are_read ds os h.1))

few_somes : (all : List (Option AskedList)) (xs : List AskedList) → xs ≡ somes all → length (somes all) ≤ most_items → length xs ≤ most_items
few_somes all xs e le = rw e le

-- as many are read as have names
pub few_read : (xs : List Value) (lists : List AskedList) → named_count (items_view xs) ≤ most_items → ReadsSome ReadsAsked (Ok (items_view xs)) lists → length lists ≤ most_items
few_read xs lists few h = few_somes h.all lists h.kept (omega (arith, named_are_read (items_view xs) h.all h.all_read))

-- ---- counting them one after another

pub record IsCountUpTo (xs : List Value) (i count : ℕ) : Type 0 where
  pub so_far : count + named_count (items_view (drop i xs)) ≡ named_count (items_view xs)
  pub few : count ≤ i

pub count_begins : (xs : List Value) → IsCountUpTo xs 0 0
count_begins xs = record { so_far = omega arith; few = omega arith }

name_here : (xs : List Value) (i : ℕ) (x : Value) → i < length xs → x ≡ get_or xs i x → is_something (asked_name_row (view x)) ≡ true
    → named_count (items_view (drop i xs)) ≡ named_count (items_view (drop (i + 1) xs)) + 1
name_here xs i x lt is h = rw (from_here xs i x lt is, h) refl

none_here : (xs : List Value) (i : ℕ) (x : Value) → i < length xs → x ≡ get_or xs i x → is_something (asked_name_row (view x)) ≡ false
    → named_count (items_view (drop i xs)) ≡ named_count (items_view (drop (i + 1) xs))
none_here xs i x lt is h = rw (from_here xs i x lt is, h) refl

pub count_on : (xs : List Value) (i count : ℕ) (x : Value) → i < length xs → x ≡ get_or xs i x → is_something (asked_name_row (view x)) ≡ true → IsCountUpTo xs i count
    → IsCountUpTo xs (i + 1) (count + 1)
count_on xs i count x lt is h c = record { so_far = omega (arith, name_here xs i x lt is h, c.so_far); few = omega arith }

pub count_past : (xs : List Value) (i count : ℕ) (x : Value) → i < length xs → x ≡ get_or xs i x → is_something (asked_name_row (view x)) ≡ false → IsCountUpTo xs i count
    → IsCountUpTo xs (i + 1) count
count_past xs i count x lt is h c = record { so_far = omega (arith, none_here xs i x lt is h, c.so_far); few = omega arith }

pub count_ends : (xs : List Value) (i count : ℕ) → length xs ≤ i → IsCountUpTo xs i count → count ≡ named_count (items_view xs)
count_ends xs i count le c =
    let none : named_count (items_view (drop i xs)) ≡ 0 = rw (drop_of_length-le xs le) refl in
    omega (arith, c.so_far)
