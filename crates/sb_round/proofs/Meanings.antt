-- What the meaning of an update keeps of it.
use Rattle.std.proofs.Common.{◌≡◌, ℕ, List, [], Result, Ok, Err, refl, subst}
use Rattle.std.specs.Prelude.{if◌then◌else◌}
use Rattle.sb_model.specs.Candidate.{Update}
use Rattle.rice_coding.specs.declared.fault.RiceFault.{RiceFault}
use Rattle.update_messages.specs.Messages.{UpdatedList}
use Rattle.update_client.specs.Step.{◌>>=◌, prefixes_of, places_of, joined, meaning_of}

abbrev Keeps : UpdatedList → Result Update RiceFault → Type 0
Keeps update (Ok meant) = (meant.full ≡ update.full) × (meant.checksum ≡ update.checksum)
Keeps update (Err fault) = Unit {0}

with_places : (update : UpdatedList) (additions : List (List ℕ)) (places : Result (List ℕ) RiceFault)
    → Keeps update (places >>= λ removals. Ok (record {
      list = update.name;
      full = update.full;
      base = update.base;
      additions = additions;
      removals = removals;
      new_state = update.new_state;
      checksum = update.checksum;
    }))
with_places update additions (Ok removals) = (refl, refl)
with_places update additions (Err fault) = tt

with_prefixes : (update : UpdatedList) (prefixes : Result (List (List ℕ)) RiceFault)
    → Keeps update (prefixes >>= λ additions. joined places_of (if update.full then [] else update.removals) >>= λ removals. Ok (record {
      list = update.name;
      full = update.full;
      base = update.base;
      additions = additions;
      removals = removals;
      new_state = update.new_state;
      checksum = update.checksum;
    }))
with_prefixes update (Ok additions) = with_places update additions (joined places_of (if update.full then [] else update.removals))
with_prefixes update (Err fault) = tt

keeps : (update : UpdatedList) → Keeps update (meaning_of update)
keeps update = with_prefixes update (joined prefixes_of update.additions)

kept_by : (update : UpdatedList) (meant : Update) → meaning_of update ≡ Ok meant → Keeps update (Ok meant)
kept_by update meant means = subst (Keeps update) means (keeps update)

pub keeps_full : (update : UpdatedList) (meant : Update) → meaning_of update ≡ Ok meant → meant.full ≡ update.full
keeps_full update meant means = (kept_by update meant means).0

pub keeps_checksum : (update : UpdatedList) (meant : Update) → meaning_of update ≡ Ok meant → meant.checksum ≡ update.checksum
keeps_checksum update meant means = (kept_by update meant means).1
