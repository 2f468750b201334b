-- Sets that are read one after the other.
use Rattle.std.proofs.Common.{◌≡◌, ℕ, suc, ◌+◌, ◌<◌, ◌≤◌, List, [], ◌∷◌, ◌++◌, length, drop, get_or, refl, sym, ap, ◌∙◌, append_assoc, append-nil, add-one, drop-cons, Result, Ok, Err, inl, inr}
use Rattle.std.specs.Prelude.{IsOkAnd}
use Rattle.std.proofs.Math.ListN.{drop_of_length-le}
use Rattle.rice_coding.specs.declared.fault.RiceFault.{RiceFault}
use Rattle.prefix_set.specs.Edits.{EditLists}
use Rattle.update_client.specs.Step.{joined, ◌>>=◌}
use Rattle.update_client.specs.Feeding.{Adds, Removes, IsReadFaultOf}

-- what stands already, with what is still to be read
abbrev pub onto : {A : Type 0} → List A → Result (List A) RiceFault → Result (List A) RiceFault
onto front (Ok more) = Ok (front ++ more)
onto front (Err fault) = Err fault

onto_join : {A : Type 0} (old new : List A) (first more : Result (List A) RiceFault) → IsOkAnd first (λ members. new ≡ old ++ members)
    → onto new more ≡ onto old (first >>= λ members. more >>= λ rest. Ok (members ++ rest))
onto_join old new (Ok members) (Ok rest) h = ap Ok (ap (λ xs. xs ++ rest) h ∙ append_assoc old members rest)
onto_join old new (Ok members) (Err fault) h = refl
onto_join old new (Err fault) more h = absurd h

onto_fault : {A : Type 0} (old : List A) (first more : Result (List A) RiceFault) (fault : RiceFault) → first ≡ Err fault
    → onto old (first >>= λ members. more >>= λ rest. Ok (members ++ rest)) ≡ Err fault
onto_fault old first more fault h = ap (λ (r : Result _ RiceFault). onto old (r >>= λ members. more >>= λ rest. Ok (members ++ rest))) h

onto_err : {A : Type 0} (old : List A) (all : Result (List A) RiceFault) (fault : RiceFault) → onto old all ≡ Err fault → all ≡ Err fault
onto_err old (Ok more) fault h = cc
onto_err old (Err other) fault h = cc

onto_ok : {A : Type 0} (old new : List A) (all : Result (List A) RiceFault) → Ok (new ++ []) ≡ onto old all → IsOkAnd all (λ members. new ≡ old ++ members)
onto_ok old new (Ok more) h = let bare : new ++ [] ≡ new = append-nil new in cc
onto_ok old new (Err other) h = cc

-- the sets from a place on
pub rest_of : {S : Type 0} (sets : List S) (i : ℕ) (set : S) → i < length sets → set ≡ get_or sets i set → drop i sets ≡ set ∷ drop (i + 1) sets
rest_of sets i set below is = rw (add-one, drop-cons sets i set below) (ap (λ x. x ∷ drop (suc i) sets) (sym is))

-- so many sets were read
pub record HasRead {A : Type 0} (old new : List A) (all rest : Result (List A) RiceFault) : Type 0 where
  pub read : onto new rest ≡ onto old all

pub read_none : {A : Type 0} (old : List A) (all : Result (List A) RiceFault) → HasRead old old all all
read_none old all = record { read = refl }

pub read_more : {S A : Type 0} (members_of : S → Result (List A) RiceFault) (sets : List S) (i : ℕ) (set : S) (old mid new : List A) (all : Result (List A) RiceFault)
    → i < length sets → set ≡ get_or sets i set → HasRead old mid all (joined members_of (drop i sets)) → IsOkAnd (members_of set) (λ members. new ≡ mid ++ members)
    → HasRead old new all (joined members_of (drop (i + 1) sets))
read_more members_of sets i set old mid new all below is before h = record {
  read =
      onto_join mid new (members_of set) (joined members_of (drop (i + 1) sets)) h
      ∙ sym (ap (λ rest. onto mid (joined members_of rest)) (rest_of sets i set below is))
      ∙ before.read;
}

pub read_fault : {S A : Type 0} (members_of : S → Result (List A) RiceFault) (sets : List S) (i : ℕ) (set : S) (old mid : List A) (all : Result (List A) RiceFault) (fault : RiceFault)
    → i < length sets → set ≡ get_or sets i set → HasRead old mid all (joined members_of (drop i sets)) → IsReadFaultOf (members_of set) fault → IsReadFaultOf all fault
read_fault members_of sets i set old mid all fault below is before (inl refused) = inl refused
read_fault members_of sets i set old mid all fault below is before (inr own) =
    inr (
    onto_err old all fault (
    sym before.read
    ∙ ap (λ rest. onto mid (joined members_of rest)) (rest_of sets i set below is)
    ∙ onto_fault mid (members_of set) (joined members_of (drop (i + 1) sets)) fault own
    )
    )

pub read_all : {S A : Type 0} (members_of : S → Result (List A) RiceFault) (sets : List S) (i : ℕ) (old new : List A) (all : Result (List A) RiceFault) → length sets ≤ i
    → HasRead old new all (joined members_of (drop i sets)) → IsOkAnd all (λ members. new ≡ old ++ members)
read_all members_of sets i old new all past h =
    onto_ok old new all (sym (ap (λ rest. onto new (joined members_of rest)) (drop_of_length-le sets past)) ∙ h.read)

-- ---- the same of an edit

edit_is : (a b : EditLists) → a.removals ≡ b.removals → a.additions ≡ b.additions → a ≡ b
edit_is a b removals additions =
    ap (λ (xs : List ℕ). let e : EditLists = record { removals = xs; additions = a.additions } in e) removals
    ∙ ap (λ (xs : List (List ℕ)). let e : EditLists = record { removals = b.removals; additions = xs } in e) additions

pub Adds-additions : (old new : EditLists) (r : Result (List (List ℕ)) RiceFault) → IsOkAnd r (Adds old new) → IsOkAnd r (λ members. new.additions ≡ old.additions ++ members)
Adds-additions old new (Ok members) h = ap (λ (e : EditLists). e.additions) h
Adds-additions old new (Err fault) h = absurd h

pub Adds-removals : (old new : EditLists) (r : Result (List (List ℕ)) RiceFault) → IsOkAnd r (Adds old new) → new.removals ≡ old.removals
Adds-removals old new (Ok members) h = ap (λ (e : EditLists). e.removals) h
Adds-removals old new (Err fault) h = absurd h

pub Adds-from : (old new : EditLists) (r : Result (List (List ℕ)) RiceFault) → IsOkAnd r (λ members. new.additions ≡ old.additions ++ members) → new.removals ≡ old.removals → IsOkAnd r (Adds old new)
Adds-from old new (Ok members) h same = edit_is new (record old { additions = old.additions ++ members }) same h
Adds-from old new (Err fault) h same = absurd h

pub Removes-removals : (old new : EditLists) (r : Result (List ℕ) RiceFault) → IsOkAnd r (Removes old new) → IsOkAnd r (λ members. new.removals ≡ old.removals ++ members)
Removes-removals old new (Ok members) h = ap (λ (e : EditLists). e.removals) h
Removes-removals old new (Err fault) h = absurd h

pub Removes-additions : (old new : EditLists) (r : Result (List ℕ) RiceFault) → IsOkAnd r (Removes old new) → new.additions ≡ old.additions
Removes-additions old new (Ok members) h = ap (λ (e : EditLists). e.additions) h
Removes-additions old new (Err fault) h = absurd h

pub Removes-from : (old new : EditLists) (r : Result (List ℕ) RiceFault) → IsOkAnd r (λ members. new.removals ≡ old.removals ++ members) → new.additions ≡ old.additions → IsOkAnd r (Removes old new)
Removes-from old new (Ok members) h same = edit_is new (record old { removals = old.removals ++ members }) h same
Removes-from old new (Err fault) h same = absurd h
