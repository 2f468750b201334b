-- Items that are written are read item by item.
use Rattle.std.proofs.Common.{◌≡◌, ℕ, ◌+◌, ◌<◌, ◌≤◌, List, [], ◌∷◌, ◌++◌, map, length, take, get_or, Option, Some, Result, Ok, refl, sym, ap, ◌∙◌, subst, arith, All}
use Rattle.std.proofs.lemmas.List.Elements.{All-head, All-tail, All-more}
use Rattle.std.proofs.lemmas.List.{map-append, take_more}
use Rattle.serde_json.specs.Data.{Data, Items, depth, items_depth}
use Rattle.serde_json.specs.View.{items_of, view}
use Rattle.serde_json.specs.declared.value.Value.{Value}
use Rattle.sb_json.specs.declared.faults.FieldFault.{FieldFault}
use Rattle.sb_members.specs.Lists.{EachReads, ReadsList}
use Rattle.sb_members.specs.Somes.{somes, ReadsSome}
use Rattle.sb_members.specs.Writing.{list_written}
use Rattle.sb_members.specs.Parts.{NestsWithin}

-- one more item that is written after the others
pub written_more : {A : Type 0} (write : A → Data) (xs : List A) (i : ℕ) (x : A) (vs more : List Value) (v : Value) → i < length xs → x ≡ get_or xs i x → more ≡ vs ++ v ∷ []
    → map view vs ≡ map write (take i xs) → view v ≡ write x → map view more ≡ map write (take (i + 1) xs)
written_more write xs i x vs more v lt is pushed so_far e =
    ap (map view) pushed ∙ map-append view vs (v ∷ [])
    ∙ ap (λ (ds : List Data). ds ++ view v ∷ []) so_far ∙ ap (λ (d : Data). map write (take i xs) ++ d ∷ []) (e ∙ ap write is)
    ∙ sym (map-append write (take i xs) (get_or xs i x ∷ [])) ∙ ap (map write) (sym (take_more xs i x lt))

-- one more item keeps what those before it do
pub all_more : {A : Type 0} (P : A → Type 0) (xs : List A) (i : ℕ) (x : A) → i < length xs → x ≡ get_or xs i x → All P (take i xs) → P x → All P (take (i + 1) xs)
all_more P xs i x lt is so_far h = All-more P xs i x lt so_far (subst P is h)

each_written : {A : Type 0} (Reads : Data → A → Type 0) (write : A → Data) (P : A → Type 0) → ((a : A) → P a → Reads (write a) a)
    → (xs : List A) → All P xs → EachReads Reads (items_of (map write xs)) xs
each_written Reads write P one [] h = tt
each_written Reads write P one (x ∷ xs) h = (one x (All-head P x xs h), each_written Reads write P one xs (All-tail P x xs h))

pub list_again : {A : Type 0} (Reads : Data → A → Type 0) (write : A → Data) (P : A → Type 0) → ((a : A) → P a → Reads (write a) a)
    → (xs : List A) → All P xs → (row : Result Items FieldFault) → row ≡ Ok (items_of (map write xs)) → ReadsList Reads row xs
list_again Reads write P one xs h row e = subst (λ (r : Result Items FieldFault). ReadsList Reads r xs) (sym e) (each_written Reads write P one xs h)

somes_of_all : {A : Type 0} (xs : List A) → xs ≡ somes (map Some xs)
somes_of_all [] = refl
somes_of_all {A = A} (x ∷ xs) = ap (λ (more : List A). x ∷ more) (somes_of_all xs)

-- the same of items that may stand for nothing: what is written stands for something
pub somes_again : {A : Type 0} (Reads : Data → Option A → Type 0) (write : A → Data) (P : A → Type 0) → ((a : A) → P a → Reads (write a) (Some a))
    → (xs : List A) → All P xs → (row : Result Items FieldFault) → row ≡ Ok (items_of (map write xs)) → ReadsSome Reads row xs
somes_again {A = A} Reads write P one xs h row e = record {
  all = map Some xs;
  all_read = subst (λ (r : Result Items FieldFault). ReadsList Reads r (map Some xs)) (sym e) (each xs h);
  kept = somes_of_all xs;
}
  where
    each : (xs : List A) → All P xs → EachReads Reads (items_of (map write xs)) (map Some xs)
    each [] h = tt
    each (x ∷ xs) h = (one x (All-head P x xs h), each xs (All-tail P x xs h))

-- and of a writing that is always read again
pub somes_always_again : {A : Type 0} (Reads : Data → Option A → Type 0) (write : A → Data) → ((a : A) → Reads (write a) (Some a))
    → (xs : List A) → (row : Result Items FieldFault) → row ≡ Ok (items_of (map write xs)) → ReadsSome Reads row xs
somes_always_again {A = A} Reads write one xs row e = record {
  all = map Some xs;
  all_read = subst (λ (r : Result Items FieldFault). ReadsList Reads r (map Some xs)) (sym e) (each xs);
  kept = somes_of_all xs;
}
  where
    each : (xs : List A) → EachReads Reads (items_of (map write xs)) (map Some xs)
    each [] = tt
    each (x ∷ xs) = (one x, each xs)

items_depth_of : {A : Type 0} (write : A → Data) (n : ℕ) → ((a : A) → depth (write a) ≤ n) → (xs : List A) → items_depth (items_of (map write xs)) ≤ n
items_depth_of write n one [] = omega arith
items_depth_of write n one (x ∷ xs) = omega (arith, one x, items_depth_of write n one xs)

pub list_depth : {A : Type 0} (write : A → Data) (n : ℕ) → ((a : A) → depth (write a) ≤ n) → (xs : List A) → NestsWithin (n + 1) (list_written write xs)
list_depth write n one [] = tt
list_depth write n one (x ∷ xs) = omega (arith, items_depth_of write n one (x ∷ xs))
