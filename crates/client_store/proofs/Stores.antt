-- Whole stores, read and written.
use Rattle.std.proofs.Common.{◌≡◌, ℕ, zero, suc, ◌+◌, ◌-◌, ◌<◌, ◌≤◌, ◌⊎◌, inl, inr, Bool, true, false, cond, eqb, ltb, List, [], ◌∷◌, ◌++◌, length, get_or, take, drop, codes, All, Option, Some, None, Result, Ok, Err, refl, sym, ap, subst, ◌∙◌, append_assoc, append-nil, arith}
use Rattle.std.specs.Prelude.{IfOk, IfErr, IsErr, MatchResult}
use Rattle.std.specs.Str.{bytes_eq}
use Rattle.std.specs.List.{flat_map}
use Rattle.std.proofs.lemmas.Bool.{cases_lt, eqb-true, ltb-false, le-ltb}
use Rattle.std.proofs.lemmas.List.{take_at, drop_at, take-append-drop, drop_more, take-append-le, length-append, length-take, length-drop, get_or-take, get_or_past}
use Rattle.std.proofs.lemmas.Slice.Eq.{bytes_eq-Decides}
use Rattle.sha2.specs.Sha256.{sha256}
use Rattle.sha2.proofs.Facts256.{length-sha256}
use Rattle.update_client.specs.Held.{Held}
use Rattle.client_store.specs.declared.fault.StoreFault.{StoreFault}
use Rattle.client_store.specs.declared.fault.StoreFault.TheVariants as fault
use Rattle.client_store.specs.declared.format.Format.{Format}
use Rattle.client_store.specs.declared.format.Format.TheVariants.{OneSize, EachSize}
use Rattle.client_store.specs.Store.{format_number, list_text, body_text, text_in, AreKept, Suits, IsStoreOf, IsCutStore}
use Rattle.client_store.specs.Reading.{lists_at, lists_in, least_bytes, body_in, digest_in, format_of, fault_placed, body_reading, reading_in, reading_as, store_reading}
use Rattle.client_store.proofs.Named.{lists_front, lists_in_take, lists_in_again}
use Rattle.client_store.proofs.Parts.{IsBytes, ok_is, IsBytes-take, IsBytes-drop}

-- ---- steps that did not fail

unless_fault : {A : Type 0} (b : Bool) (why : StoreFault) (r : Result A StoreFault) (y : A) → cond b (Err why) r ≡ Ok y → (b ≡ false) × (r ≡ Ok y)
unless_fault true why r y e = absurd cc
unless_fault false why r y e = (refl, e)

if_no_fault : {A : Type 0} (b : Bool) (why : StoreFault) (r : Result A StoreFault) (y : A) → cond b r (Err why) ≡ Ok y → (b ≡ true) × (r ≡ Ok y)
if_no_fault true why r y e = (refl, e)
if_no_fault false why r y e = absurd cc

placed_ok : {A : Type 0} (size : ℕ) (r : Result A ℕ) (y : A) → fault_placed size r ≡ Ok y → r ≡ Ok y
placed_ok size (Ok a) y e = cc
placed_ok size (Err left) y e = absurd cc

reading_as_ok : (format : Option Format) (bytes : List ℕ) (lists : List Held) → reading_as format bytes ≡ Ok lists → (f : Format) × (format ≡ Some f) × (reading_in f bytes ≡ Ok lists)
reading_as_ok None bytes lists e = absurd cc
reading_as_ok (Some f) bytes lists e = (f, refl, e)

-- ---- the format

number_is : (number : ℕ) (format : Format) → format_of number ≡ Some format → number ≡ format_number format
number_is number format e = go (eqb number 1) refl e
  where
    second : (b : Bool) → eqb number 2 ≡ b → cond b (Some EachSize) None ≡ Some format → number ≡ format_number format
    second true is h = let same : EachSize ≡ format = cc in eqb-true _ _ is ∙ ap format_number same
    second false is h = absurd cc

    go : (b : Bool) → eqb number 1 ≡ b → cond b (Some OneSize) (cond (eqb number 2) (Some EachSize) None) ≡ Some format → number ≡ format_number format
    go true is h = let same : OneSize ≡ format = cc in eqb-true _ _ is ∙ ap format_number same
    go false is h = second (eqb number 2) refl h

format_back : (format : Format) → format_of (format_number format) ≡ Some format
format_back OneSize = refl
format_back EachSize = refl

number_tells : (f g : Format) → format_number f ≡ format_number g → f ≡ g
number_tells f g e = let same : Some f ≡ Some g = sym (format_back f) ∙ ap format_of e ∙ format_back g in cc

-- ---- the front of a store

-- a text begins with its first four bytes, its fifth, and the others
parts_of_body : (body : List ℕ) → 5 ≤ length body → body ≡ take 4 body ++ get_or body 4 0 ∷ drop 5 body
parts_of_body body long = sym (take-append-drop 4 body) ∙ ap (λ (t : List ℕ). take 4 body ++ t) (drop_more body 4 0 (omega (arith, long)))

take_front : (n m : ℕ) (bytes : List ℕ) → n ≤ m → take n (take m bytes) ≡ take n bytes
take_front zero m bytes within = refl
take_front (suc n) zero bytes within = absurd (omega (arith, within))
take_front (suc n) (suc m) [] within = refl
take_front (suc n) (suc m) (byte ∷ bytes) within = ap (λ (t : List ℕ). byte ∷ t) (take_front n m bytes (omega (arith, within)))

-- ---- what is read

pub store_takes : (bytes : List ℕ) (lists : List Held) → IsBytes bytes → store_reading bytes ≡ Ok lists → AreKept lists × IsStoreOf lists bytes
store_takes bytes lists fits e =
    let long = unless_fault (ltb (length bytes) least_bytes) (fault.Shape (length bytes)) (cond (bytes_eq (take 4 bytes) (codes "SBST")) (reading_as (format_of (get_or bytes 4 0)) bytes) (Err (fault.Shape 0))) lists e in
    let begins = if_no_fault (bytes_eq (take 4 bytes) (codes "SBST")) (fault.Shape 0) (reading_as (format_of (get_or bytes 4 0)) bytes) lists long.1 in
    let named = reading_as_ok (format_of (get_or bytes 4 0)) bytes lists begins.1 in
    let sealed = if_no_fault (bytes_eq (sha256 (body_in bytes)) (digest_in bytes)) (fault.Digest (sha256 (body_in bytes)) (digest_in bytes)) (body_reading named.0 (body_in bytes)) lists named.2 in
    let read = placed_ok (length (body_in bytes)) (lists_in named.0 (drop 5 (body_in bytes))) lists sealed.1 in
    let size : 38 ≤ length bytes = ltb-false _ _ long.0 in
    let body : List ℕ = body_in bytes in
    let body-size : 6 ≤ length body = omega (arith, length-take (length bytes - 32) bytes, size) in
    let taken = lists_in_take named.0 (drop 5 body) lists (IsBytes-drop 5 body (IsBytes-take (length bytes - 32) bytes fits)) read in
    let first : take 4 body ≡ codes "SBST" = take_front 4 (length bytes - 32) bytes (omega (arith, size)) ∙ (bytes_eq-Decides (take 4 bytes) (codes "SBST")).0 begins.0 in
    let fifth : get_or body 4 0 ≡ format_number named.0 = get_or-take (length bytes - 32) bytes 4 0 (omega (arith, size)) ∙ number_is (get_or bytes 4 0) named.0 named.1 in
    let whole : body ≡ body_text named.0 lists =
    parts_of_body body (omega (arith, body-size))
    ∙ ap (λ (t : List ℕ). t ++ get_or body 4 0 ∷ drop 5 body) first
    ∙ ap (λ (n : ℕ). codes "SBST" ++ n ∷ drop 5 body) fifth
    ∙ ap (λ (t : List ℕ). codes "SBST" ++ format_number named.0 ∷ t) taken.0
    in
    let digest : digest_in bytes ≡ sha256 body = sym ((bytes_eq-Decides (sha256 body) (digest_in bytes)).0 sealed.0) in
    let is : bytes ≡ text_in named.0 lists =
    sym (take-append-drop (length bytes - 32) bytes)
    ∙ ap (λ (t : List ℕ). body ++ t) digest
    ∙ ap (λ (t : List ℕ). t ++ sha256 t) whole
    in
    (taken.1, record { format = named.0; suits = taken.2; is = is })

-- ---- what is written is read

text-size : (format : Format) (lists : List Held) → length (text_in format lists) ≡ length (body_text format lists) + 32
text-size format lists = length-append (body_text format lists) (sha256 (body_text format lists)) ∙ ap (λ n. length (body_text format lists) + n) (length-sha256 (body_text format lists))

reading_by_parts : (bytes : List ℕ) (format : Format) (lists : List Held) → 38 ≤ length bytes → take 4 bytes ≡ codes "SBST" → get_or bytes 4 0 ≡ format_number format
    → digest_in bytes ≡ sha256 (body_in bytes) → lists_in format (drop 5 (body_in bytes)) ≡ Ok lists → store_reading bytes ≡ Ok lists
reading_by_parts bytes format lists size first fifth digest read =
    let long : ltb (length bytes) least_bytes ≡ false = le-ltb _ _ size in
    let begins : bytes_eq (take 4 bytes) (codes "SBST") ≡ true = (bytes_eq-Decides (take 4 bytes) (codes "SBST")).1 first in
    let named : format_of (get_or bytes 4 0) ≡ Some format = ap format_of fifth ∙ format_back format in
    let sealed : bytes_eq (sha256 (body_in bytes)) (digest_in bytes) ≡ true = (bytes_eq-Decides (sha256 (body_in bytes)) (digest_in bytes)).1 (sym digest) in
    rw (long, begins, named, sealed, read) refl

pub text_again : (format : Format) (lists : List Held) → AreKept lists → Suits format lists → store_reading (text_in format lists) ≡ Ok lists
text_again format lists kept suits =
    let body : List ℕ = body_text format lists in
    let text : List ℕ = text_in format lists in
    let size : 6 ≤ length body = omega arith in
    let all : length text ≡ length body + 32 = text-size format lists in
    let front : length body ≡ length text - 32 = omega (arith, all) in
    let body-is : body_in text ≡ body = take_at body (sha256 body) (length text - 32) front in
    let digest-is : digest_in text ≡ sha256 body = drop_at body (sha256 body) (length text - 32) front in
    reading_by_parts text format lists (omega (arith, all, size)) refl refl (digest-is ∙ ap sha256 (sym body-is))
    (ap (λ (b : List ℕ). lists_in format (drop 5 b)) body-is ∙ lists_in_again format lists kept suits)

pub store_again : (lists : List Held) (bytes : List ℕ) → AreKept lists → IsStoreOf lists bytes → store_reading bytes ≡ Ok lists
store_again lists bytes kept store = ap store_reading store.is ∙ text_again store.format lists kept store.suits

-- ---- what is cut is not read

-- of two strings that begin alike the shorter one begins the longer one
begins_longer : (a u b v : List ℕ) → a ++ u ≡ b ++ v → length a ≤ length b → b ≡ a ++ drop (length a) b
begins_longer a u b v same shorter =
    let front : take (length a) b ≡ a = sym (take-append-le (length a) b v shorter) ∙ ap (take (length a)) (sym same) ∙ take_at a u (length a) refl in
    sym (take-append-drop (length a) b) ∙ ap (λ (t : List ℕ). t ++ drop (length a) b) front

same_front : (n m c d : ℕ) (s t y : List ℕ) → codes "SBST" ++ n ∷ c ∷ s ≡ (codes "SBST" ++ m ∷ d ∷ t) ++ y → (n ≡ m) × (c ≡ d) × (s ≡ t ++ y)
same_front n m c d s t y e = (cc, cc, cc)

abbrev read_lists : List Held → List ℕ → Result (List Held × List ℕ) ℕ
read_lists lists rest = Ok (lists, rest)

rest_is : (lists other : List Held) (x y : List ℕ) → read_lists lists x ≡ read_lists other y → x ≡ y
rest_is lists other x y e = ap (λ (p : List Held × List ℕ). p.1) (ok_is (lists, x) (other, y) e)

-- nothing follows a body that another body begins
no_more : (f g : Format) (lists other : List Held) (more : List ℕ) → AreKept lists → Suits f lists → AreKept other → Suits g other → body_text f lists ≡ body_text g other ++ more → more ≡ []
no_more f g lists other more kept suits kept-other suits-other same =
    let parts = same_front (format_number f) (format_number g) (length lists) (length other) (flat_map (list_text f) lists) (flat_map (list_text g) other) more same in
    let one : f ≡ g = number_tells f g parts.0 in
    let first : lists_at g (length lists) [] (flat_map (list_text g) lists ++ []) ≡ Ok (lists, []) = lists_front g lists [] kept (subst (λ (h : Format). Suits h lists) one suits) in
    let second : lists_at g (length other) [] (flat_map (list_text g) other ++ more) ≡ Ok (other, more) = lists_front g other more kept-other suits-other in
    let text : flat_map (list_text g) lists ++ [] ≡ flat_map (list_text g) other ++ more =
    append-nil (flat_map (list_text g) lists) ∙ ap (λ (h : Format). flat_map (list_text h) lists) (sym one) ∙ parts.2
    in
    let again : lists_at g (length lists) [] (flat_map (list_text g) lists ++ []) ≡ lists_at g (length other) [] (flat_map (list_text g) other ++ more) =
    ap (λ (t : List ℕ). lists_at g (length lists) [] t) text ∙ ap (λ (n : ℕ). lists_at g n [] (flat_map (list_text g) other ++ more)) parts.1
    in
    sym (rest_is lists other [] more (sym first ∙ again ∙ second))

pub cut_is_not_read : (text : List ℕ) (other : List Held) → IsBytes text → IsCutStore text → store_reading text ≡ Ok other → ⊥
cut_is_not_read text other fits cut read =
    let found = store_takes text other fits read in
    let store = found.1 in
    let whole : body_text store.format other ++ (sha256 (body_text store.format other) ++ cut.lacking) ≡ body_text cut.is.format cut.lists ++ sha256 (body_text cut.is.format cut.lists) =
    sym (append_assoc (body_text store.format other) (sha256 (body_text store.format other)) cut.lacking)
    ∙ ap (λ (t : List ℕ). t ++ cut.lacking) (sym store.is)
    ∙ cut.is.is
    in
    let all : length (text ++ cut.lacking) ≡ length (body_text cut.is.format cut.lists) + 32 = ap length cut.is.is ∙ text-size cut.is.format cut.lists in
    let front : length text ≡ length (body_text store.format other) + 32 = ap length store.is ∙ text-size store.format other in
    let longer : length (body_text store.format other) + length cut.lacking ≡ length (body_text cut.is.format cut.lists) = omega (arith, all, front, length-append text cut.lacking) in
    let more : List ℕ = drop (length (body_text store.format other)) (body_text cut.is.format cut.lists) in
    let parts = begins_longer (body_text store.format other) (sha256 (body_text store.format other) ++ cut.lacking) (body_text cut.is.format cut.lists) (sha256 (body_text cut.is.format cut.lists)) whole (omega (arith, longer)) in
    let nothing : more ≡ [] = no_more cut.is.format store.format cut.lists other more cut.kept cut.is.suits found.0 store.suits parts in
    omega (arith, length-drop (length (body_text store.format other)) (body_text cut.is.format cut.lists), ap length nothing, longer, cut.some)

-- ---- what `read_store` says

abbrev read_whole : List Held → Result (List Held) StoreFault
read_whole lists = Ok lists

apart : (lists : List Held) (why : StoreFault) → read_whole lists ≡ Err why → ⊥
apart lists why e = absurd cc

-- what a function read
pub read_is_store : (bytes : List ℕ) (r : Result (List Held) StoreFault) → IsBytes bytes → IfOk r (λ lists. store_reading bytes ≡ Ok lists) → IfOk r (λ lists. IsStoreOf lists bytes)
read_is_store bytes (Ok lists) fits read = (store_takes bytes lists fits read).1
read_is_store bytes (Err why) fits read = tt

pub store_is_read : (bytes : List ℕ) (r : Result (List Held) StoreFault) (stored : List Held) → store_reading bytes ≡ Ok stored → IfOk r (λ lists. store_reading bytes ≡ Ok lists)
    → IfErr r (λ why. (why ≡ fault.OutOfMemory) ⊎ (store_reading bytes ≡ Err why)) → MatchResult r (λ lists. lists ≡ stored) (λ why. why ≡ fault.OutOfMemory)
store_is_read bytes (Ok lists) stored is read failed = let same : read_whole lists ≡ read_whole stored = sym read ∙ is in cc
store_is_read bytes (Err why) stored is read failed = elim failed [ inl none ↦ none | inr other ↦ absurd (apart stored why (sym is ∙ other)) ]

pub is_err : {A : Type 0} (r : Result A StoreFault) → ((a : A) → r ≡ Ok a → ⊥) → IsErr r
is_err (Ok a) none = absurd (none a refl)
is_err (Err why) none = refl

pub cut_is_err : (text : List ℕ) (r : Result (List Held) StoreFault) → IsBytes text → IfOk r (λ lists. store_reading text ≡ Ok lists) → IsCutStore text → IsErr r
cut_is_err text (Ok lists) fits read cut = absurd (cut_is_not_read text lists fits cut read)
cut_is_err text (Err why) fits read cut = refl

pub bytes_from_all : (text : List ℕ) → All (λ byte. byte < 256) text → IsBytes text
bytes_from_all text each i =
    elim (cases_lt i (length text)) [ inl below ↦ each i 0 below | inr past ↦ rw (get_or_past text i 0 past) (omega arith) ]
