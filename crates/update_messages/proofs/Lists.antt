-- Lists that are read item by item.
use Rattle.std.proofs.Common.{◌≡◌, ℕ, suc, ◌+◌, ◌≤◌, ◌<◌, List, [], ◌∷◌, ◌++◌, length, drop, get_or, Option, Some, None, Result, Ok, refl, sym, ap, ◌∙◌, append_assoc, add-one, drop-cons}
use Rattle.std.proofs.lemmas.List.{append-nil}
use Rattle.std.proofs.Math.ListN.{drop_of_length-le}
use Rattle.serde_json.specs.Data.{Data, Items}
use Rattle.serde_json.specs.View.{view, items_view}
use Rattle.serde_json.specs.declared.value.Value.{Value}
use Rattle.sb_json.specs.declared.faults.FieldFault.{FieldFault}
use Rattle.sb_members.specs.Lists.{EachReads, ReadsList, first, first_of_items}

pub only_one : {F : Type 0} (o : Option F) → first (o ∷ []) ≡ o
only_one None = refl
only_one (Some f) = refl

-- what was read of a list: the first items, and no fault in them
pub record IsReadUpTo {A : Type 0} (Reads : Data → A → Type 0) (xs : List Value) (i : ℕ) (found : List A) : Type 0 where
  pub reads : (rest : List A) → EachReads Reads (items_view (drop i xs)) rest → EachReads Reads (items_view xs) (found ++ rest)

pub record IsCleanUpTo (fault : Data → Option FieldFault) (xs : List Value) (i : ℕ) : Type 0 where
  pub same : first_of_items fault (items_view xs) ≡ first_of_items fault (items_view (drop i xs))

pub from_here : (xs : List Value) (i : ℕ) (x : Value) → i < length xs → x ≡ get_or xs i x → drop i xs ≡ x ∷ drop (i + 1) xs
from_here xs i x lt is = rw (add-one, drop-cons xs i x) (ap (λ (y : Value). y ∷ drop (suc i) xs) (sym is))

pub read_begins : {A : Type 0} (Reads : Data → A → Type 0) (xs : List Value) → IsReadUpTo Reads xs 0 []
read_begins Reads xs = record { reads = λ rest h. h }

pub clean_begins : (fault : Data → Option FieldFault) (xs : List Value) → IsCleanUpTo fault xs 0
clean_begins fault xs = record { same = refl }

pub read_on : {A : Type 0} (Reads : Data → A → Type 0) (xs : List Value) (i : ℕ) (found : List A) (x : Value) (a : A) → i < length xs → x ≡ get_or xs i x → Reads (view x) a
    → IsReadUpTo Reads xs i found → IsReadUpTo Reads xs (i + 1) (found ++ a ∷ [])
read_on Reads xs i found x a lt is h so_far = record {
  reads = λ rest r. rw append_assoc (so_far.reads (a ∷ rest) (rw (from_here xs i x lt is) (h, r)));
}

pub clean_on : (fault : Data → Option FieldFault) (xs : List Value) (i : ℕ) (x : Value) → i < length xs → x ≡ get_or xs i x → fault (view x) ≡ None
    → IsCleanUpTo fault xs i → IsCleanUpTo fault xs (i + 1)
clean_on fault xs i x lt is h so_far = record {
  same = so_far.same ∙ rw (from_here xs i x lt is, h) (only_one (first_of_items fault (items_view (drop (i + 1) xs))));
}

pub clean_stops : (fault : Data → Option FieldFault) (xs : List Value) (i : ℕ) (x : Value) (f : FieldFault) → i < length xs → x ≡ get_or xs i x → fault (view x) ≡ Some f
    → IsCleanUpTo fault xs i → first_of_items fault (items_view xs) ≡ Some f
clean_stops fault xs i x f lt is h so_far = so_far.same ∙ rw (from_here xs i x lt is, h) refl

pub read_ends : {A : Type 0} (Reads : Data → A → Type 0) (xs : List Value) (i : ℕ) (found : List A) → length xs ≤ i → IsReadUpTo Reads xs i found → EachReads Reads (items_view xs) found
read_ends Reads xs i found le so_far =
    let all : EachReads Reads (items_view xs) (found ++ []) = so_far.reads [] (rw (drop_of_length-le xs le) tt) in
    rw append-nil at all

pub clean_ends : (fault : Data → Option FieldFault) (xs : List Value) (i : ℕ) → length xs ≤ i → IsCleanUpTo fault xs i → first_of_items fault (items_view xs) ≡ None
clean_ends fault xs i le so_far = so_far.same ∙ rw (drop_of_length-le xs le) refl

pub list_read : {A : Type 0} (Reads : Data → A → Type 0) (r : Result Items FieldFault) (items : Items) (found : List A) → r ≡ Ok items → EachReads Reads items found → ReadsList Reads r found
list_read Reads r items found e h = rw e h
