-- Bytes before the line that begins a change: with them it is no first line of a record, and with them or without them it is
-- no hash line.
use Rattle.std.proofs.Common.{◌≡◌, ◌≢◌, ℕ, ◌+◌, ◌<◌, ◌≤◌, ◌==◌, nat_eq, List, [], ◌∷◌, ◌++◌, Bool, true, false, if◌then◌else◌, length, get_or, refl, sym, ap, ◌∙◌, arith, length-append, Option, Some, None, Result, Ok, Err}
use Rattle.std.specs.Prelude.{codes, option_and_then}
use Rattle.std.specs.List.{slice_split, join_with_byte}
use Rattle.std.specs.Result.{result_ok}
use Rattle.std.specs.Str.{bytes_eq}
use Rattle.std.proofs.lemmas.List.Splits.{join_with_byte-slice_split}
use Rattle.std.proofs.lemmas.List.{get_or-append-add}
use Rattle.std.proofs.lemmas.Slice.Eq.{bytes_eq-Decides}
use Rattle.hex.specs.Hex.{decode_of}
use Rattle.hex.specs.declared.FromHexError.{FromHexError}
use Rattle.hex.proofs.HexLemmas.{decode_of-ok}
use Rattle.sb_model.specs.declared.history.Change.{Change}
use Rattle.list_versions.specs.Lines.{is_space, words_in_line, bytes_in_digits, hash_of, head_of, head_of_words, added_in_line, added_of_words, removed_of}
use Rattle.journal_run.proofs.Joined.{joined, all_joined, length-joined, has_parts, slice_split-append}
use Rattle.journal_run.proofs.BeginningLines.{beginning_line, beginning_words, further_words}

-- ---- words

-- the words of a text and then the line
words_before : (text : List ℕ) (change : Change) → words_in_line (text ++ beginning_line change) ≡ all_joined (slice_split is_space text) (codes "change" ∷ further_words change)
unfolding words_in_line
words_before text change =
    slice_split-append is_space text (beginning_line change) ∙ ap (all_joined (slice_split is_space text)) (beginning_words change)

length-all_joined : (parts others : List (List ℕ)) → 0 < length parts → 0 < length others → length (all_joined parts others) + 1 ≡ length parts + length others
length-all_joined [] others h k = absurd (omega arith)
length-all_joined (part ∷ parts) others h k = let e = length-joined part parts others k in omega (arith, e)

four_words : (text : List ℕ) (change : Change) → 4 ≤ length (words_in_line (text ++ beginning_line change))
four_words text change =
    let e = length-all_joined (slice_split is_space text) (codes "change" ∷ further_words change) (has_parts is_space text) (omega arith) in
    let some = has_parts is_space text in
    rw (words_before text change) (omega (arith, e, some))

-- ---- the first line of a record

-- five words and more begin nothing
five_words : (words : List (List ℕ)) → 5 ≤ length words → head_of_words words ≡ None
five_words [] h = absurd (omega arith)
five_words (a ∷ []) h = absurd (omega arith)
five_words (a ∷ b ∷ []) h = absurd (omega arith)
five_words (a ∷ b ∷ c ∷ []) h = absurd (omega arith)
five_words (a ∷ b ∷ c ∷ d ∷ []) h = absurd (omega arith)
five_words (a ∷ b ∷ c ∷ d ∷ e ∷ more) h = refl

-- nor do four if the first is not `change`
differs : (b : Bool) (xs ys : List ℕ) → bytes_eq xs ys ≡ b → xs ≢ ys → bytes_eq xs ys ≡ false
differs true xs ys e h = absurd (h ((bytes_eq-Decides xs ys).0 e))
differs false xs ys e h = e

longer : (byte : ℕ) (text word : List ℕ) → ((byte ∷ text) ++ word) ≢ word
longer byte text word e = let long = length-append (byte ∷ text) word in let same = ap length e in omega (arith, long, same)

no_list : (a b c : List ℕ) → bytes_eq a (codes "change") ≡ false → (d : List ℕ) → head_of_words (a ∷ b ∷ c ∷ d ∷ []) ≡ None
no_list a b c e d = rw e refl

no_change : (byte : ℕ) (text : List ℕ) (change : Change) → head_of_words ((byte ∷ text ++ codes "change") ∷ further_words change) ≡ None
no_change byte text change = no_list (byte ∷ text ++ codes "change") _ _ (differs _ _ _ refl (longer byte text (codes "change"))) _

one_part : (text part : List ℕ) → slice_split is_space text ≡ part ∷ [] → part ≡ text
one_part text part e = sym (ap (join_with_byte 32) e) ∙ join_with_byte-slice_split 32 text

-- the text before the line is in the first word, or it has a space
no_head_of : (byte : ℕ) (text : List ℕ) (change : Change) (parts : List (List ℕ)) → slice_split is_space (byte ∷ text) ≡ parts
    → head_of_words (all_joined parts (codes "change" ∷ further_words change)) ≡ None
no_head_of byte text change [] e = let some = has_parts is_space (byte ∷ text) in absurd (omega (arith, some, ap length e))
no_head_of byte text change (part ∷ []) e =
    let whole = one_part (byte ∷ text) part e in
    rw whole (no_change byte text change)
no_head_of byte text change (part ∷ next ∷ parts) e =
    let words = codes "change" ∷ further_words change in
    let long = length-joined next parts words (omega arith) in
    five_words (part ∷ joined next parts words) (omega (arith, long))

pub no_head : (byte : ℕ) (text : List ℕ) (change : Change) → head_of ((byte ∷ text) ++ beginning_line change) ≡ None
no_head byte text change =
    ap head_of_words (words_before (byte ∷ text) change) ∙ no_head_of byte text change (slice_split is_space (byte ∷ text)) refl

-- ---- hash lines

-- three words and more add nothing
three_words : (sized : Bool) (declared : ℕ) (words : List (List ℕ)) → 3 ≤ length words → added_of_words sized declared words ≡ None
three_words sized declared [] h = absurd (omega arith)
three_words sized declared (a ∷ []) h = absurd (omega arith)
three_words sized declared (a ∷ b ∷ []) h = absurd (omega arith)
three_words sized declared (a ∷ b ∷ c ∷ more) h = refl

unsigned : {A : Type 0} (b : Bool) (text : List ℕ) (read : List ℕ → Option A) → read text ≡ None → option_and_then read (if b then Some text else None) ≡ None
unsigned true text read h = h
unsigned false text read h = refl

pub no_add : (text : List ℕ) (sized : Bool) (declared : ℕ) (change : Change) → added_in_line sized declared (text ++ beginning_line change) ≡ None
no_add [] sized declared change = refl
no_add (sign ∷ text) sized declared change =
    unsigned (sign == 43) (text ++ beginning_line change) (λ rest. added_of_words sized declared (words_in_line rest))
    (three_words sized declared _ (let four = four_words text change in omega (arith, four)))

not_decoded : (r : Result (List ℕ) FromHexError) → ((bytes : List ℕ) → r ≢ Ok bytes) → result_ok r ≡ None
not_decoded (Ok bytes) h = absurd (h bytes refl)
not_decoded (Err fault) h = refl

if_long : (b : Bool) (found : Option (List ℕ)) → found ≡ None → (if b then found else None) ≡ None
if_long true found h = h
if_long false found h = refl

-- the second byte of the line is no hexadecimal digit
no_digits : (text : List ℕ) (change : Change) (bytes : List ℕ) → decode_of (text ++ beginning_line change) ≢ Ok bytes
no_digits text change bytes e =
    let digits = (decode_of-ok (text ++ beginning_line change) bytes e).1 in
    let second : get_or (text ++ beginning_line change) (length text + 1) 0 ≡ 104 = get_or-append-add text (beginning_line change) 1 0 in
    let digit = digits (length text + 1) 0 (omega (arith, length-append text (beginning_line change))) in
    let no = rw second at digit in
    absurd (cc)

pub no_remove : (text : List ℕ) (change : Change) → removed_of (text ++ beginning_line change) ≡ None
unfolding bytes_in_digits
no_remove [] change = refl
no_remove (sign ∷ text) change =
    unsigned (sign == 45) (text ++ beginning_line change) hash_of
    (if_long (nat_eq (length (text ++ beginning_line change)) 64) (result_ok (decode_of (text ++ beginning_line change)))
    (not_decoded _ (no_digits text change)))
