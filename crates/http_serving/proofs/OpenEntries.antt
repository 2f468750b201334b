-- Entries of a door's log that are open, and that are filled in any order.
use Rattle.std.proofs.Common.{◌≡◌, ℕ, zero, suc, Bool, true, false, List, [], ◌∷◌, ◌++◌, length, refl, sym, ap, ◌∙◌, subst, Option, Some, None, inl, inr}
use Rattle.std.specs.Prelude.{◌==◌, ◌⊎◌, not, ◌||◌, IfSome, slice_get, slice_set, option_map}
use Rattle.std.proofs.lemmas.Bool.{cases_eq, cond-true, cond-false, eq-eqb, ne_eqb, not_from_true, not_from_false, true≢false}
use Rattle.std.proofs.lemmas.List.Folds.{list_any-append}
use Rattle.sb_outside.specs.Outside.{IfTold}
use Rattle.sb_outside.specs.Connections.{open_connection}
use Rattle.sb_outside.specs.declared.doors.Connection.{Connection}
use Rattle.http_serving.specs.OpenEntries.{is_entry_open, without_entry, HasOpen, IsOpenLog, OpensOne, ClosesOne, SaysAll}

-- ---- which are open

or_false : (b : Bool) → (b || false) ≡ b
or_false true = refl
or_false false = refl

or_true : (b : Bool) → (b || true) ≡ true
or_true true = refl
or_true false = refl

open_more : (number last : ℕ) (opens : List ℕ) → is_entry_open number (opens ++ last ∷ []) ≡ (is_entry_open number opens || (last == number))
open_more number last opens = list_any-append (λ other. other == number) opens (last ∷ []) ∙ ap (λ b. is_entry_open number opens || b) (or_false (last == number))

-- the number that was taken away is not open
not_open_at : (number other : ℕ) (opens : List ℕ) → is_entry_open number (without_entry number opens) ≡ false → (other ≡ number) ⊎ (other ≡ number → ⊥)
    → is_entry_open number (without_entry number (other ∷ opens)) ≡ false
not_open_at number other opens rest (inl same) =
    ap (is_entry_open number) (cond-false (not (other == number)) (other ∷ without_entry number opens) (without_entry number opens) (not_from_true (other == number) (eq-eqb other number same)))
    ∙ rest
not_open_at number other opens rest (inr differ) =
    ap (is_entry_open number) (cond-true (not (other == number)) (other ∷ without_entry number opens) (without_entry number opens) (not_from_false (other == number) (ne_eqb other number differ)))
    ∙ ap (λ b. b || is_entry_open number (without_entry number opens)) (ne_eqb other number differ) ∙ rest

not_open : (number : ℕ) (opens : List ℕ) → is_entry_open number (without_entry number opens) ≡ false
not_open number [] = refl
not_open number (other ∷ opens) = not_open_at number other opens (not_open number opens) (cases_eq other number)

-- others are as open as before
open_still_at : (number gone other : ℕ) (opens : List ℕ) → (gone ≡ number → ⊥) → is_entry_open number (without_entry gone opens) ≡ is_entry_open number opens
    → (other ≡ gone) ⊎ (other ≡ gone → ⊥) → is_entry_open number (without_entry gone (other ∷ opens)) ≡ is_entry_open number (other ∷ opens)
open_still_at number gone other opens differ rest (inl same) =
    ap (is_entry_open number) (cond-false (not (other == gone)) (other ∷ without_entry gone opens) (without_entry gone opens) (not_from_true (other == gone) (eq-eqb other gone same)))
    ∙ rest ∙ sym (ap (λ b. b || is_entry_open number opens) (ne_eqb other number (λ e. differ (sym same ∙ e))))
open_still_at number gone other opens differ rest (inr apart) =
    ap (is_entry_open number) (cond-true (not (other == gone)) (other ∷ without_entry gone opens) (without_entry gone opens) (not_from_false (other == gone) (ne_eqb other gone apart)))
    ∙ ap (λ b. (other == number) || b) rest

open_still : (number gone : ℕ) (opens : List ℕ) → (gone ≡ number → ⊥) → is_entry_open number (without_entry gone opens) ≡ is_entry_open number opens
open_still number gone [] differ = refl
open_still number gone (other ∷ opens) differ = open_still_at number gone other opens differ (open_still number gone opens differ) (cases_eq other gone)

-- ---- entries at places

get_front : (entries : List Connection) (entry found : Connection) (number : ℕ) → slice_get entries number ≡ Some found → slice_get (entries ++ entry ∷ []) number ≡ Some found
get_front [] entry found number is = absurd (cc)
get_front (first ∷ entries) entry found zero is = is
get_front (first ∷ entries) entry found (suc number) is = get_front entries entry found number is

get_last : (entries : List Connection) (entry : Connection) → slice_get (entries ++ entry ∷ []) (length entries) ≡ Some entry
get_last [] entry = refl
get_last (first ∷ entries) entry = get_last entries entry

get_back : (entries : List Connection) (entry found : Connection) (number : ℕ) → (length entries ≡ number → ⊥) → slice_get (entries ++ entry ∷ []) number ≡ Some found → slice_get entries number ≡ Some found
get_back [] entry found zero apart is = absurd (apart refl)
get_back [] entry found (suc number) apart is = is
get_back (first ∷ entries) entry found zero apart is = is
get_back (first ∷ entries) entry found (suc number) apart is = get_back entries entry found number (λ e. apart (ap suc e)) is

get_set : (entries : List Connection) (entry found : Connection) (number : ℕ) → slice_get (slice_set entries number entry) number ≡ Some found → entry ≡ found
get_set [] entry found number is = absurd (cc)
get_set (first ∷ entries) entry found zero is = cc
get_set (first ∷ entries) entry found (suc number) is = get_set entries entry found number is

get_other : (entries : List Connection) (entry : Connection) (number other : ℕ) → (number ≡ other → ⊥) → slice_get (slice_set entries number entry) other ≡ slice_get entries other
get_other [] entry number other apart = refl
get_other (first ∷ entries) entry zero zero apart = absurd (apart refl)
get_other (first ∷ entries) entry zero (suc other) apart = refl
get_other (first ∷ entries) entry (suc number) zero apart = refl
get_other (first ∷ entries) entry (suc number) (suc other) apart = get_other entries entry number other (λ e. apart (ap suc e))

-- ---- one more is open

opened_more : (Says : ℕ → Connection → Type 0) (opens : List ℕ) (entries : List Connection) (number : ℕ) → HasOpen Says opens entries
    → (length entries ≡ number) ⊎ (length entries ≡ number → ⊥) → is_entry_open number (opens ++ length entries ∷ []) ≡ true
    → slice_get (entries ++ open_connection ∷ []) number ≡ Some open_connection
opened_more Says opens entries number has (inl last) is = subst (λ (k : ℕ). slice_get (entries ++ open_connection ∷ []) k ≡ Some open_connection) last (get_last entries open_connection)
opened_more Says opens entries number has (inr apart) is =
    get_front entries open_connection open_connection number (has.opened number
    (sym (or_false (is_entry_open number opens)) ∙ ap (λ b. is_entry_open number opens || b) (sym (ne_eqb (length entries) number apart)) ∙ sym (open_more number (length entries) opens) ∙ is))

closed_more : (Says : ℕ → Connection → Type 0) (opens : List ℕ) (entries : List Connection) (number : ℕ) (entry : Connection) → HasOpen Says opens entries
    → (length entries ≡ number) ⊎ (length entries ≡ number → ⊥) → is_entry_open number (opens ++ length entries ∷ []) ≡ false
    → slice_get (entries ++ open_connection ∷ []) number ≡ Some entry → Says number entry
closed_more Says opens entries number entry has (inl last) is found =
    absurd (true≢false (sym (or_true (is_entry_open number opens)) ∙ ap (λ b. is_entry_open number opens || b) (sym (eq-eqb (length entries) number last)) ∙ sym (open_more number (length entries) opens) ∙ is))
closed_more Says opens entries number entry has (inr apart) is found =
    has.closed number entry
    (sym (or_false (is_entry_open number opens)) ∙ ap (λ b. is_entry_open number opens || b) (sym (ne_eqb (length entries) number apart)) ∙ sym (open_more number (length entries) opens) ∙ is)
    (get_back entries open_connection entry number apart found)

has_more : (Says : ℕ → Connection → Type 0) (opens : List ℕ) (entries : List Connection) → HasOpen Says opens entries → HasOpen Says (opens ++ length entries ∷ []) (entries ++ open_connection ∷ [])
has_more Says opens entries has = record {
  opened = λ number is. opened_more Says opens entries number has (cases_eq (length entries) number) is;
  closed = λ number entry is found. closed_more Says opens entries number entry has (cases_eq (length entries) number) is found;
}

pub opens_one : (Says : ℕ → Connection → Type 0) → OpensOne Says
opens_one Says opens number log None has numbered told = tt
opens_one Says opens number None (Some entries') has numbered told = absurd (cc)
opens_one Says opens number (Some entries) (Some entries') has numbered told =
    let grown : entries' ≡ entries ++ open_connection ∷ [] = cc in
    subst (λ (k : ℕ). HasOpen Says (opens ++ k ∷ []) entries') (sym numbered)
    (subst (λ (l : List Connection). HasOpen Says (opens ++ length entries ∷ []) l) (sym grown) (has_more Says opens entries has))

-- ---- one is filled

opened_less : (Says : ℕ → Connection → Type 0) (opens : List ℕ) (entries : List Connection) (gone : ℕ) (entry : Connection) (number : ℕ) → HasOpen Says opens entries
    → (gone ≡ number) ⊎ (gone ≡ number → ⊥) → is_entry_open number (without_entry gone opens) ≡ true → slice_get (slice_set entries gone entry) number ≡ Some open_connection
opened_less Says opens entries gone entry number has (inl same) is =
    absurd (true≢false (sym is ∙ subst (λ (k : ℕ). is_entry_open number (without_entry k opens) ≡ false) (sym same) (not_open number opens)))
opened_less Says opens entries gone entry number has (inr apart) is =
    get_other entries entry gone number apart ∙ has.opened number (sym (open_still number gone opens apart) ∙ is)

closed_less : (Says : ℕ → Connection → Type 0) (opens : List ℕ) (entries : List Connection) (gone : ℕ) (entry : Connection) (number : ℕ) (found : Connection) → HasOpen Says opens entries
    → Says gone entry → (gone ≡ number) ⊎ (gone ≡ number → ⊥) → is_entry_open number (without_entry gone opens) ≡ false → slice_get (slice_set entries gone entry) number ≡ Some found → Says number found
closed_less Says opens entries gone entry number found has says (inl same) is at =
    subst (λ (k : ℕ). Says k found) same
    (subst (Says gone) (get_set entries entry found gone (subst (λ (k : ℕ). slice_get (slice_set entries gone entry) k ≡ Some found) (sym same) at)) says)
closed_less Says opens entries gone entry number found has says (inr apart) is at =
    has.closed number found (sym (open_still number gone opens apart) ∙ is) (sym (get_other entries entry gone number apart) ∙ at)

has_less : (Says : ℕ → Connection → Type 0) (opens : List ℕ) (entries : List Connection) (gone : ℕ) (entry : Connection) → HasOpen Says opens entries → Says gone entry
    → HasOpen Says (without_entry gone opens) (slice_set entries gone entry)
has_less Says opens entries gone entry has says = record {
  opened = λ number is. opened_less Says opens entries gone entry number has (cases_eq gone number) is;
  closed = λ number found is at. closed_less Says opens entries gone entry number found has says (cases_eq gone number) is at;
}

filled : (Says : ℕ → Connection → Type 0) (opens : List ℕ) (number : ℕ) (log log' : Option (List Connection)) (entry : Connection) → IsOpenLog Says opens log
    → IfTold log' (option_map (λ entries. slice_set entries number entry) log) → IfSome log' (λ _. Says number entry) → IsOpenLog Says (without_entry number opens) log'
filled Says opens number log None entry has told says = tt
filled Says opens number None (Some entries') entry has told says = absurd (cc)
filled Says opens number (Some entries) (Some entries') entry has told says =
    let set : slice_set entries number entry ≡ entries' = cc in
    subst (λ (l : List Connection). HasOpen Says (without_entry number opens) l) set (has_less Says opens entries number entry has says)

pub closes_one : (Says : ℕ → Connection → Type 0) → ClosesOne Says
closes_one Says opens number log log' has returned = filled Says opens number log log' returned.entry has returned.logged returned.says

-- ---- none is open

pub says_all : (Says : ℕ → Connection → Type 0) → SaysAll Says
says_all Says None has = tt
says_all Says (Some entries) has = λ number entry at. has.closed number entry refl at
