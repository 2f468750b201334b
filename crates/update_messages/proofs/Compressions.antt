-- Which compressions the names so far have.
use Rattle.std.proofs.Common.{◌≡◌, ℕ, ◌+◌, ◌≤◌, ◌<◌, ◌||◌, Bool, true, false, List, [], ◌∷◌, ◌++◌, length, get_or, Result, Ok, refl, ap, ◌∙◌}
use Rattle.std.specs.Prelude.{codes}
use Rattle.std.specs.Str.{bytes_eq}
use Rattle.std.proofs.lemmas.List.Folds.{list_any-append}
use Rattle.serde_json.specs.Data.{Items}
use Rattle.serde_json.specs.View.{view, items_view}
use Rattle.serde_json.specs.declared.value.Value.{Value}
use Rattle.sb_json.specs.declared.faults.FieldFault.{FieldFault}
use Rattle.update_messages.specs.RequestRows.{is_among}
use Rattle.update_messages.specs.Reading.{ReadsName, TakesCompressions}
use Rattle.update_messages.proofs.Lists.{IsReadUpTo, read_begins, read_on, read_ends, list_read}

pub record TakesUpTo (xs : List Value) (i : ℕ) (raw rice : Bool) : Type 0 where
  pub names : List (List ℕ)
  pub names_read : IsReadUpTo ReadsName xs i names
  pub raw_taken : raw ≡ is_among names (codes "RAW")
  pub rice_taken : rice ≡ is_among names (codes "RICE")

or_false : (b : Bool) → (b || false) ≡ b
or_false true = refl
or_false false = refl

among_more : (names : List (List ℕ)) (name word : List ℕ) → is_among (names ++ name ∷ []) word ≡ (is_among names word || bytes_eq word name)
among_more names name word =
    list_any-append (bytes_eq word) names (name ∷ []) ∙ ap (λ (b : Bool). is_among names word || b) (or_false (bytes_eq word name))

pub takes_begin : (xs : List Value) → TakesUpTo xs 0 false false
takes_begin xs = record { names = []; names_read = read_begins ReadsName xs; raw_taken = refl; rice_taken = refl }

pub takes_on : (xs : List Value) (i : ℕ) (raw rice raw' rice' : Bool) (x : Value) (name : List ℕ) → i < length xs → x ≡ get_or xs i x → ReadsName (view x) name
    → raw' ≡ (raw || bytes_eq (codes "RAW") name) → rice' ≡ (rice || bytes_eq (codes "RICE") name) → TakesUpTo xs i raw rice → TakesUpTo xs (i + 1) raw' rice'
takes_on xs i raw rice raw' rice' x name lt is h r q so_far = record {
  names = so_far.names ++ name ∷ [];
  names_read = read_on ReadsName xs i so_far.names x name lt is h so_far.names_read;
  raw_taken = r ∙ rw (among_more so_far.names name (codes "RAW"), so_far.raw_taken) refl;
  rice_taken = q ∙ rw (among_more so_far.names name (codes "RICE"), so_far.rice_taken) refl;
}

pub takes_end : (r : Result Items FieldFault) (xs : List Value) (i : ℕ) (raw rice : Bool) → length xs ≤ i → r ≡ Ok (items_view xs) → TakesUpTo xs i raw rice → TakesCompressions r raw rice
takes_end r xs i raw rice le e so_far = record {
  names = so_far.names;
  names_read = list_read ReadsName r (items_view xs) so_far.names e (read_ends ReadsName xs i so_far.names le so_far.names_read);
  raw_taken = so_far.raw_taken;
  rice_taken = so_far.rice_taken;
}
