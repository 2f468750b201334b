-- Updates that have no fault where they meet a held list.
use Rattle.std.proofs.Common.{◌≡◌, ◌≤◌, ◌<◌, ℕ, List, [], ◌∷◌, Bool, true, false, length, refl, sym, ap, ◌∙◌, None, arith}
use Rattle.std.specs.Prelude.{not, ◌&&◌, nat_le, if◌then◌else◌, Result, Ok, Err, IsOkAnd}
use Rattle.std.specs.List.{AllByRecursion}
use Rattle.std.specs.Str.{bytes_eq}
use Rattle.std.proofs.lemmas.Bool.{le-ltb}
use Rattle.std.proofs.lemmas.Slice.Eq.{bytes_eq-Decides}
use Rattle.sb_model.specs.Candidate.{Update, candidate}
use Rattle.sb_model.specs.Prefixes.{concatenation}
use Rattle.rice_coding.specs.declared.fault.RiceFault.{RiceFault}
use Rattle.prefix_set.specs.Apply.{first_past}
use Rattle.update_messages.specs.Messages.{UpdatedList}
use Rattle.update_client.specs.Held.{Held, digest_of}
use Rattle.update_client.specs.Step.{◌>>=◌, joined, prefixes_of, places_of, meaning_of, stale_fault, range_fault, set_fault, change_fault, first_fault}

pub bytes_same : (a b : List ℕ) → a ≡ b → bytes_eq a b ≡ true
bytes_same a b same = (bytes_eq-Decides a b).1 same

-- ---- what an update means

pub record Means (update : UpdatedList) (meant : Update) : Type 0 where
  pub full : meant.full ≡ update.full
  pub checksum : meant.checksum ≡ update.checksum
  pub removals : joined places_of (if update.full then [] else update.removals) ≡ Ok meant.removals

or_else : Result Update RiceFault → Update → Update
or_else (Ok update) other = update
or_else (Err fault) other = other

pub means : (update : UpdatedList) (meant : Update) → meaning_of update ≡ Ok meant → Means update meant
unfolding or_else
means update meant is = go (joined prefixes_of update.additions) (joined places_of (if update.full then [] else update.removals)) refl is
  where
    go : (additions : Result (List (List ℕ)) RiceFault) (removals : Result (List ℕ) RiceFault) → joined places_of (if update.full then [] else update.removals) ≡ removals
        → (additions >>= λ a. removals >>= λ r. Ok (record { list = update.name; full = update.full; base = update.base; additions = a; removals = r; new_state = update.new_state; checksum = update.checksum })) ≡ Ok meant
        → Means update meant
    go (Ok a) (Ok r) same h = record {
      full = sym (ap (λ m. (or_else m meant).full) h);
      checksum = sym (ap (λ m. (or_else m meant).checksum) h);
      removals = same ∙ ap (λ m. Ok (or_else m meant).removals) h;
    }
    go (Ok a) (Err fault) same h = absurd (cc)
    go (Err fault) removals same h = absurd (cc)

pub record HasMeaning (update : UpdatedList) (P : Update → Type 0) : Type 0 where
  pub meant : Update
  pub is : meaning_of update ≡ Ok meant
  pub holds : P meant

pub has_meaning : (update : UpdatedList) (P : Update → Type 0) → IsOkAnd (meaning_of update) P → HasMeaning update P
has_meaning update P h = go (meaning_of update) refl h
  where
    go : (meaning : Result Update RiceFault) → meaning_of update ≡ meaning → IsOkAnd meaning P → HasMeaning update P
    go (Ok meant) same held = record { meant = meant; is = same; holds = held }
    go (Err fault) same held = absurd held

-- ---- no fault of the set

none_past : (size : ℕ) (places : List ℕ) → AllByRecursion (λ place. place < size) places → first_past size places ≡ None
none_past size [] h = refl
none_past size (place ∷ places) h =
    let here : nat_le size place ≡ false = grind (arith, h.0) in
    rw here (none_past size places h.1)

no_range_fault : (size : ℕ) (places : List ℕ) → AllByRecursion (λ place. place < size) places → range_fault size places ≡ None
no_range_fault size places h = rw (none_past size places h) refl

no_set_fault : (checksum : List ℕ) (set : List (List ℕ)) → length set ≤ 1048576 → length (concatenation set) ≤ 8388608 → digest_of set ≡ checksum → set_fault checksum set ≡ None
no_set_fault checksum set few small same =
    rw (le-ltb 1048576 (length set) few) (rw (le-ltb 8388608 (length (concatenation set)) small) (rw (bytes_same (digest_of set) checksum same) refl))

pub no_change_fault : (held : Held) (update : UpdatedList) (meant : Update) (set : List (List ℕ)) → meaning_of update ≡ Ok meant → AllByRecursion (λ place. place < length held.set) meant.removals
    → candidate meant held.set ≡ set → length set ≤ 1048576 → length (concatenation set) ≤ 8388608 → digest_of set ≡ meant.checksum → change_fault held (meaning_of update) ≡ None
no_change_fault held update meant set is places same few small digest =
    rw is (rw (no_range_fault (length held.set) meant.removals places) (rw same (no_set_fault meant.checksum set few small digest)))

-- ---- not stale

pub not_stale_full : (held : Held) (update : UpdatedList) → update.full ≡ true → stale_fault held update ≡ None
not_stale_full held update full = rw full refl

and_not : (a b : Bool) → b ≡ true → (a && not b) ≡ false
and_not true b h = rw h refl
and_not false b h = refl

pub not_stale_base : (held : Held) (update : UpdatedList) → update.base ≡ held.token → stale_fault held update ≡ None
not_stale_base held update base = rw (and_not (not update.full && not (bytes_eq update.base [])) (bytes_eq update.base held.token) (bytes_same update.base held.token base)) refl

pub no_first_fault : (held : Held) (update : UpdatedList) → stale_fault held update ≡ None → change_fault held (meaning_of update) ≡ None → first_fault held update ≡ None
no_first_fault held update fresh fits = rw fresh fits
