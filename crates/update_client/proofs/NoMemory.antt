-- Want of memory is no cause of a refusal.
use Rattle.std.proofs.Common.{◌≢◌, ℕ, List, [], ◌∷◌, ◌++◌, Bool, true, false, Option, Some, None, Result, Ok, Err, length}
use Rattle.std.specs.Prelude.{All, if◌then◌else◌}
use Rattle.std.specs.Option.{option_map}
use Rattle.std.proofs.lemmas.List.Elements.{All-nil, All-cons}
use Rattle.rice_coding.specs.declared.fault.RiceFault.{RiceFault}
use Rattle.rice_coding.specs.declared.fault.RiceFault.TheVariants as rice
use Rattle.rice_coding.specs.Decoding.{decoding_of}
use Rattle.rice_coding.specs.declared.record.RiceRecord.{RiceRecord}
use Rattle.sb_model.specs.Candidate.{Update, candidate}
use Rattle.prefix_set.specs.Apply.{first_past}
use Rattle.update_messages.specs.Messages.{UpdatedList}
use Rattle.update_messages.specs.declared.sets.Additions.{Additions}
use Rattle.update_messages.specs.declared.sets.Additions.TheVariants as added
use Rattle.update_messages.specs.declared.sets.Removals.{Removals}
use Rattle.update_messages.specs.declared.sets.Removals.TheVariants as removed
use Rattle.update_client.specs.declared.fault.UpdateFault.{UpdateFault}
use Rattle.update_client.specs.declared.fault.UpdateFault.TheVariants.{Rice, IndexRange}
use Rattle.update_client.specs.declared.fault.ListResult.{ListResult}
use Rattle.update_client.specs.declared.fault.ListResult.TheVariants.{Refused}
use Rattle.update_client.specs.Held.{Held}
use Rattle.update_client.specs.Step.{◌>>=◌, most_rice_values, prefixes_of, places_of, joined, meaning_of, ◌or◌, fault_if, range_fault, set_fault, change_fault, first_fault, result_after, result_at, list_named, after_update, results_of}

-- ---- what an update says

-- nothing that is read lacks memory
abbrev IsNever : {A : Type 0} → Result A RiceFault → Type 0
IsNever outcome = outcome ≢ Err rice.OutOfMemory

IsNever-next : {A B : Type 0} (first : Result A RiceFault) (next : A → Result B RiceFault) → IsNever first → ((a : A) → IsNever (next a)) → IsNever (first >>= next)
IsNever-next (Ok a) next h k = k a
IsNever-next (Err fault) next h k = λ is. h (cc)

IsNever-Ok : {A : Type 0} (a : A) → IsNever (Ok a)
IsNever-Ok a is = cc

IsNever-joined : {S A : Type 0} (members_of : S → Result (List A) RiceFault) → ((set : S) → IsNever (members_of set)) → (sets : List S) → IsNever (joined members_of sets)
IsNever-joined members_of h [] = IsNever-Ok []
IsNever-joined members_of h (set ∷ sets) =
    let more = IsNever-joined members_of h sets in
    IsNever-next (members_of set) (λ members. joined members_of sets >>= λ rest. Ok (members ++ rest)) (h set)
    (λ members. IsNever-next (joined members_of sets) (λ rest. Ok (members ++ rest)) more (λ rest. IsNever-Ok (members ++ rest)))

-- what the law of decoding says of it
abbrev pub IsNeverDecoded : Type 0
IsNeverDecoded = (coding : RiceRecord) (limit : ℕ) → decoding_of coding limit ≢ Err rice.OutOfMemory

IsNever-prefixes : IsNeverDecoded → (set : Additions) → IsNever (prefixes_of set)
IsNever-prefixes never_memory (added.Raw size bytes) = λ is. cc
IsNever-prefixes never_memory (added.Rice record_of) = IsNever-next (decoding_of record_of most_rice_values) _ (never_memory record_of most_rice_values) (λ numbers is. cc)

IsNever-places : IsNeverDecoded → (set : Removals) → IsNever (places_of set)
IsNever-places never_memory (removed.Raw indices) = λ is. cc
IsNever-places never_memory (removed.Rice record_of) = never_memory record_of most_rice_values

-- the removals that are looked at, and what an update means
abbrev removals_of : UpdatedList → List Removals
removals_of update = if update.full then [] else update.removals

abbrev meant : UpdatedList → List (List ℕ) → List ℕ → Update
meant update additions removals = record {
  list = update.name;
  full = update.full;
  base = update.base;
  additions = additions;
  removals = removals;
  new_state = update.new_state;
  checksum = update.checksum;
}

IsNever-meaning : IsNeverDecoded → (update : UpdatedList) → IsNever (meaning_of update)
IsNever-meaning never update =
    IsNever-next (joined prefixes_of update.additions) _ (IsNever-joined prefixes_of (IsNever-prefixes never) update.additions)
    (λ additions. IsNever-next (joined places_of (removals_of update)) _ (IsNever-joined places_of (IsNever-places never) (removals_of update)) (λ removals. IsNever-Ok (meant update additions removals)))

-- ---- why it is refused

-- the fault is not that of a record for which memory was refused
abbrev IsOther : Option UpdateFault → Type 0
IsOther fault = fault ≢ Some (Rice rice.OutOfMemory)

IsOther-or : (first later : Option UpdateFault) → IsOther first → IsOther later → IsOther (first or later)
IsOther-or None later h k = k
IsOther-or (Some fault) later h k = h

IsOther-if : (b : Bool) (fault : UpdateFault) → fault ≢ Rice rice.OutOfMemory → IsOther (fault_if b fault)
IsOther-if true fault h = λ is. h (cc)
IsOther-if false fault h = λ is. cc

IsOther-place : (size : ℕ) (place : Option ℕ) → IsOther (option_map (λ index. IndexRange index size) place)
IsOther-place size None = λ is. cc
IsOther-place size (Some index) = λ is. cc

IsOther-set : (checksum : List ℕ) (set : List (List ℕ)) → IsOther (set_fault checksum set)
IsOther-set checksum set =
    IsOther-or _ _ (IsOther-or _ _ (IsOther-if _ _ (λ is. cc)) (IsOther-if _ _ (λ is. cc))) (IsOther-if _ _ (λ is. cc))

IsOther-change : (held : Held) (meant : Result Update RiceFault) → IsNever meant → IsOther (change_fault held meant)
IsOther-change held (Err fault) h = λ is. h (cc)
IsOther-change held (Ok update) h = IsOther-or (range_fault (length held.set) update.removals) (set_fault update.checksum (candidate update held.set))
    (IsOther-place (length held.set) (first_past (length held.set) update.removals)) (IsOther-set update.checksum (candidate update held.set))

IsOther-first : IsNeverDecoded → (held : Held) (update : UpdatedList) → IsOther (first_fault held update)
IsOther-first never held update = IsOther-or _ _ (IsOther-if _ _ (λ is. cc)) (IsOther-change held (meaning_of update) (IsNever-meaning never update))

-- ---- what is told

-- no refusal of a record for which memory was refused
abbrev pub IsTold : ListResult → Type 0
IsTold outcome = outcome ≢ Refused (Rice rice.OutOfMemory)

IsTold-after : (held : Held) (update : UpdatedList) (fault : Option UpdateFault) → IsOther fault → IsTold (result_after held update fault)
IsTold-after held update None h = λ is. cc
IsTold-after held update (Some fault) h = λ is. h (cc)

IsTold-at : IsNeverDecoded → (update : UpdatedList) (held : Option Held) → IsTold (result_at update held)
IsTold-at never update None = λ is. cc
IsTold-at never update (Some held) = IsTold-after held update (first_fault held update) (IsOther-first never held update)

pub IsTold-each : IsNeverDecoded → (lists : List Held) (updates : List UpdatedList) → All IsTold (results_of lists updates)
IsTold-each never lists [] = All-nil IsTold
IsTold-each never lists (update ∷ updates) =
    All-cons IsTold _ _ (IsTold-at never update (list_named update.name lists)) (IsTold-each never (after_update lists update) updates)
