-- Lists that are read item by item, where some items stand for nothing.
use Rattle.std.proofs.Common.{◌≡◌, ℕ, ◌+◌, ◌≤◌, ◌<◌, List, [], ◌∷◌, ◌++◌, length, get_or, Option, Some, None, Ok, refl, sym, ap, ◌∙◌}
use Rattle.serde_json.specs.Data.{Data}
use Rattle.serde_json.specs.View.{view, items_view}
use Rattle.serde_json.specs.declared.value.Value.{Value}
use Rattle.sb_members.specs.Somes.{somes, ReadsSome}
use Rattle.sb_members.proofs.ReadUpTo.{IsReadUpTo, read_begins, read_on, read_ends}

-- what was read of a list, and is something
pub record IsSomeUpTo {A : Type 0} (Reads : Data → Option A → Type 0) (xs : List Value) (i : ℕ) (found : List A) : Type 0 where
  pub all : List (Option A)
  pub reads : IsReadUpTo Reads xs i all
  pub kept : found ≡ somes all

somes_more : {A : Type 0} (os : List (Option A)) (o : Option A) → somes (os ++ o ∷ []) ≡ somes os ++ somes (o ∷ [])
somes_more [] o = refl
somes_more (None ∷ os) o = somes_more os o
somes_more {A = A} (Some a ∷ os) o = ap (λ (more : List A). a ∷ more) (somes_more os o)

pub some_begins : {A : Type 0} (Reads : Data → Option A → Type 0) (xs : List Value) → IsSomeUpTo Reads xs 0 []
some_begins Reads xs = record { all = []; reads = read_begins Reads xs; kept = refl }

pub some_on : {A : Type 0} (Reads : Data → Option A → Type 0) (xs : List Value) (i : ℕ) (found more : List A) (x : Value) (o : Option A) → i < length xs → x ≡ get_or xs i x → Reads (view x) o
    → more ≡ found ++ somes (o ∷ []) → IsSomeUpTo Reads xs i found → IsSomeUpTo Reads xs (i + 1) more
some_on {A = A} Reads xs i found more x o lt is h e so_far = record {
  all = so_far.all ++ o ∷ [];
  reads = read_on Reads xs i so_far.all x o lt is h so_far.reads;
  kept = e ∙ ap (λ (l : List A). l ++ somes (o ∷ [])) so_far.kept ∙ sym (somes_more so_far.all o);
}

pub some_ends : {A : Type 0} (Reads : Data → Option A → Type 0) (xs : List Value) (i : ℕ) (found : List A) → length xs ≤ i → IsSomeUpTo Reads xs i found → ReadsSome Reads (Ok (items_view xs)) found
some_ends Reads xs i found le so_far = record { all = so_far.all; all_read = read_ends Reads xs i so_far.all le so_far.reads; kept = so_far.kept }
