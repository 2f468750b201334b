-- What an update does to the held lists.
use Rattle.std.specs.Prelude.{ℕ, ◌&&◌, Bool, true, false, not, nat_lt, if◌then◌else◌, List, [], ◌∷◌, ◌++◌, length, Option, Some, None, Result, Ok, Err, map, find, fold}
use Rattle.std.specs.Option.{option_map}
use Rattle.std.specs.Int.{w32, to_le_bytes}
use Rattle.std.specs.Str.{bytes_eq}
use Rattle.sb_model.specs.declared.names.ListName.{ListName}
use Rattle.sb_model.specs.Names.{same_name}
use Rattle.sb_model.specs.Prefixes.{concatenation}
use Rattle.sb_model.specs.Candidate.{Update, candidate}
use Rattle.rice_coding.specs.declared.fault.RiceFault.{RiceFault}
use Rattle.rice_coding.specs.Decoding.{decoding_of}
use Rattle.prefix_set.specs.Apply.{first_past}
use Rattle.prefix_set.specs.Pieces.{pieces_of}
use Rattle.prefix_set.specs.declared.set.TheConstants.{MAX_PREFIXES, MAX_BYTES}
use Rattle.update_messages.specs.Messages.{UpdatedList}
use Rattle.update_messages.specs.declared.sets.Additions.{Additions}
use Rattle.update_messages.specs.declared.sets.Additions.TheVariants as added
use Rattle.update_messages.specs.declared.sets.Removals.{Removals}
use Rattle.update_messages.specs.declared.sets.Removals.TheVariants as removed
use Rattle.update_client.specs.declared.fault.UpdateFault.{UpdateFault}
use Rattle.update_client.specs.declared.fault.UpdateFault.TheVariants.{Rice, IndexRange, TooMany, TooLarge, Checksum, StaleBase}
use Rattle.update_client.specs.declared.fault.ListResult.{ListResult}
use Rattle.update_client.specs.declared.fault.ListResult.TheVariants.{Installed, Refused, NotKept}
use Rattle.update_client.specs.Held.{Held, digest_of}

-- ---- what an update says

-- going on with what was decoded
infixl 10 ◌>>=◌
abbrev pub ◌>>=◌ : {A B : Type 0} → Result A RiceFault → (A → Result B RiceFault) → Result B RiceFault
(Ok a) >>= f = f a
(Err fault) >>= f = Err fault

-- the most values of a Rice record
abbrev pub most_rice_values : ℕ
most_rice_values = 1048576

-- the prefixes of a set of additions: the pieces of its bytes, or the four bytes of each number of its Rice record, the lowest first
abbrev pub prefixes_of : Additions → Result (List (List ℕ)) RiceFault
prefixes_of (added.Raw size bytes) = Ok (pieces_of size bytes)
prefixes_of (added.Rice rice) = decoding_of rice most_rice_values >>= λ numbers. Ok (map (to_le_bytes w32) numbers)

-- the places of a set of removals
abbrev pub places_of : Removals → Result (List ℕ) RiceFault
places_of (removed.Raw indices) = Ok indices
places_of (removed.Rice rice) = decoding_of rice most_rice_values

-- the members of several sets one after the other, or the first fault of a set
abbrev pub joined : {S A : Type 0} → (S → Result (List A) RiceFault) → List S → Result (List A) RiceFault
joined members_of [] = Ok []
joined members_of (set ∷ sets) = members_of set >>= λ members. joined members_of sets >>= λ more. Ok (members ++ more)

-- What an update says: its additions, and then the removals of a partial one. The removals of a full update are not looked at.
abbrev pub meaning_of : UpdatedList → Result Update RiceFault
meaning_of update =
    joined prefixes_of update.additions
    >>= λ additions. joined places_of (if update.full then [] else update.removals)
    >>= λ removals. Ok (record {
      list = update.name;
      full = update.full;
      base = update.base;
      additions = additions;
      removals = removals;
      new_state = update.new_state;
      checksum = update.checksum;
    })

-- ---- its faults, in the order in which they are looked at

-- the first of two that is there
infixl 9 ◌or◌
abbrev pub ◌or◌ : Option UpdateFault → Option UpdateFault → Option UpdateFault
None or later = later
(Some fault) or later = Some fault

abbrev pub fault_if : Bool → UpdateFault → Option UpdateFault
fault_if true fault = Some fault
fault_if false fault = None

-- a partial update was made for another state than the held one
abbrev pub stale_fault : Held → UpdatedList → Option UpdateFault
stale_fault held update =
    fault_if (not update.full && not (bytes_eq update.base []) && not (bytes_eq update.base held.token)) (StaleBase held.token update.base)

-- a place of a partial update is not below the number of members; the first such place
abbrev pub range_fault : ℕ → List ℕ → Option UpdateFault
range_fault size removals = option_map (λ index. IndexRange index size) (first_past size removals)

-- a set has too many members, too many bytes, or another digest than the given one
abbrev pub set_fault : List ℕ → List (List ℕ) → Option UpdateFault
set_fault checksum set =
    fault_if (nat_lt MAX_PREFIXES (length set)) (TooMany (length set))
    or fault_if (nat_lt MAX_BYTES (length (concatenation set))) (TooLarge (length (concatenation set)))
    or fault_if (not (bytes_eq (digest_of set) checksum)) (Checksum (digest_of set) checksum)

-- what the update says, where it meets the held set
abbrev pub change_fault : Held → Result Update RiceFault → Option UpdateFault
change_fault held (Err fault) = Some (Rice fault)
change_fault held (Ok update) = range_fault (length held.set) update.removals or set_fault update.checksum (candidate update held.set)

-- the first fault of an update where it meets a held list
abbrev pub first_fault : Held → UpdatedList → Option UpdateFault
first_fault held update = stale_fault held update or change_fault held (meaning_of update)

-- ---- the step

-- the set that an update proposes to one who holds a set, and none where it says nothing
abbrev pub proposed : Result Update RiceFault → List (List ℕ) → List (List ℕ)
proposed (Ok update) set = candidate update set
proposed (Err fault) set = []

abbrev pub candidate_of : UpdatedList → List (List ℕ) → List (List ℕ)
candidate_of update set = proposed (meaning_of update) set

-- Without a fault the candidate and the new state are held. With one only the mark changes: the set and the token stay.
abbrev pub held_after : Held → UpdatedList → Option UpdateFault → Held
held_after held update None = record { name = held.name; token = update.new_state; set = candidate_of update held.set; resync = false }
held_after held update (Some fault) = record held { resync = true }

abbrev pub list_step : Held → UpdatedList → Held
list_step held update = held_after held update (first_fault held update)

abbrev pub result_after : Held → UpdatedList → Option UpdateFault → ListResult
result_after held update None = Installed (length (candidate_of update held.set))
result_after held update (Some fault) = Refused fault

abbrev pub result_of : Held → UpdatedList → ListResult
result_of held update = result_after held update (first_fault held update)

-- what became of an update: it was installed, or it was refused
abbrev pub is_installed : ListResult → Bool
is_installed (Installed entries) = true
is_installed (Refused fault) = false
is_installed NotKept = false

abbrev pub is_refused : ListResult → Bool
is_refused (Installed entries) = false
is_refused (Refused fault) = true
is_refused NotKept = false

-- An update changes the held list of its name alone.
abbrev pub after_update : List Held → UpdatedList → List Held
after_update lists update = map (λ held. if same_name held.name update.name then list_step held update else held) lists

-- the held list of a name
abbrev pub list_named : ListName → List Held → Option Held
list_named name lists = find (λ held. same_name held.name name) lists

abbrev pub result_at : UpdatedList → Option Held → ListResult
result_at update None = NotKept
result_at update (Some held) = result_of held update

-- the result for the held list of the update's name
abbrev pub result_among : List Held → UpdatedList → ListResult
result_among lists update = result_at update (list_named update.name lists)

-- the lists after several updates, taken one by one
abbrev pub after_updates : List Held → List UpdatedList → List Held
after_updates lists updates = fold after_update lists updates

-- the results of several updates, each where the ones before it led
abbrev pub results_of : List Held → List UpdatedList → List ListResult
results_of lists [] = []
results_of lists (update ∷ updates) = result_among lists update ∷ results_of (after_update lists update) updates
