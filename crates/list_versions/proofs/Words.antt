-- The words of a line.
use Rattle.std.proofs.Common.{◌≡◌, ℕ, ◌+◌, ◌-◌, ◌<◌, List, [], ◌∷◌, Bool, true, false, length, take, drop, refl, ap, sym, ◌∙◌, Option, Some, None, Result, Ok, Err, nat_eq, if◌then◌else◌, arith}
use Rattle.std.specs.Prelude.{position, is_some}
use Rattle.std.specs.Option.{option_map}
use Rattle.std.specs.Result.{result_ok}
use Rattle.std.proofs.lemmas.Bool.{eqb-true}
use Rattle.std.proofs.lemmas.List.Splits.{slice_split_none}
use Rattle.hex.specs.Hex.{decode_of, is_hex_digit}
use Rattle.hex.specs.declared.FromHexError.{FromHexError}
use Rattle.hex.proofs.HexLemmas.{decode_of-ok}
use Rattle.sb_model.specs.declared.history.Added.{Added}
use Rattle.list_versions.specs.Lines.{is_space, words_in_line, bytes_in_digits, hash_of, header_of, header_of_words, head_of, head_of_words, added_of_words}
use Rattle.list_versions.proofs.Parts.{parts_cut, parts_none, parts_some}

pub words_cut : (xs : List ℕ) (i : ℕ) → position is_space xs ≡ Some i → words_in_line xs ≡ take i xs ∷ words_in_line (take (length xs - (i + 1)) (drop (i + 1) xs))
unfolding words_in_line
words_cut xs i h = parts_cut is_space xs i h

pub words_none : (xs : List ℕ) → position is_space xs ≡ None → words_in_line xs ≡ xs ∷ []
unfolding words_in_line
words_none xs h = parts_none is_space xs h

pub words_some : (xs : List ℕ) → 0 < length (words_in_line xs)
unfolding words_in_line
words_some xs = parts_some is_space xs

-- five words and more begin nothing
five_words : (a b c d : List ℕ) (more : List (List ℕ)) → 0 < length more → (header_of_words (a ∷ b ∷ c ∷ d ∷ more) ≡ None) × (head_of_words (a ∷ b ∷ c ∷ d ∷ more) ≡ None)
five_words a b c d [] h = absurd (omega arith)
five_words a b c d (e ∷ more) h = (refl, refl)

pub nothing_of_five : (line a b c d more : List ℕ) → words_in_line line ≡ a ∷ b ∷ c ∷ d ∷ words_in_line more → (header_of line ≡ None) × (head_of line ≡ None)
nothing_of_five line a b c d more h =
    let five = five_words a b c d (words_in_line more) (words_some more) in
    (ap header_of_words h ∙ five.0, ap head_of_words h ∙ five.1)

pub nothing_of_one : (line a : List ℕ) → words_in_line line ≡ a ∷ [] → (header_of line ≡ None) × (head_of line ≡ None)
nothing_of_one line a h = (ap header_of_words h, ap head_of_words h)

pub nothing_of_two : (line a b : List ℕ) → words_in_line line ≡ a ∷ b ∷ [] → (header_of line ≡ None) × (head_of line ≡ None)
nothing_of_two line a b h = (ap header_of_words h, ap head_of_words h)

some_of : (o : Option ℕ) → is_some o ≡ true → (i : ℕ) × (o ≡ Some i)
some_of None h = absurd (cc)
some_of (Some i) h = (i, refl)

-- a text with a space has two words and more
pub words_spaced : (xs : List ℕ) → is_some (position is_space xs) ≡ true → (first : List ℕ) × (rest : List ℕ) × (words_in_line xs ≡ first ∷ words_in_line rest)
words_spaced xs h =
    let i = some_of _ h in
    (take i.0 xs, take (length xs - (i.0 + 1)) (drop (i.0 + 1) xs), words_cut xs i.0 i.1)

none_of : (o : Option ℕ) → is_some o ≡ false → o ≡ None
none_of None h = refl
none_of (Some i) h = absurd (cc)

-- a text without a space is one word
pub words_unspaced : (xs : List ℕ) → is_some (position is_space xs) ≡ false → words_in_line xs ≡ xs ∷ []
words_unspaced xs h = words_none xs (none_of _ h)

pub nothing_of_spaced : (line a b c rest : List ℕ) → words_in_line line ≡ a ∷ b ∷ c ∷ words_in_line rest → is_some (position is_space rest) ≡ true → (header_of line ≡ None) × (head_of line ≡ None)
nothing_of_spaced line a b c rest h s =
    let cut = words_spaced rest s in
    nothing_of_five line a b c cut.0 cut.1 (h ∙ ap (λ ws. a ∷ b ∷ c ∷ ws) cut.2)

-- ---- hash lines that add

unsized_words : (declared : ℕ) (digits : List ℕ) (more : List (List ℕ)) → 0 < length more → added_of_words false declared (digits ∷ more) ≡ None
unsized_words declared digits [] h = absurd (omega arith)
unsized_words declared digits (size ∷ []) h = refl
unsized_words declared digits (size ∷ next ∷ more) h = refl

pub nothing_unsized : (declared : ℕ) (text digits size : List ℕ) → words_in_line text ≡ digits ∷ words_in_line size → None ≡ added_of_words false declared (words_in_line text)
nothing_unsized declared text digits size h = rw h (sym (unsized_words declared digits (words_in_line size) (words_some size)))

three_words : (sized : Bool) (declared : ℕ) (a b : List ℕ) (more : List (List ℕ)) → 0 < length more → added_of_words sized declared (a ∷ b ∷ more) ≡ None
three_words sized declared a b [] h = absurd (omega arith)
three_words sized declared a b (c ∷ more) h = refl

pub nothing_of_three : (sized : Bool) (declared : ℕ) (text digits size : List ℕ) → words_in_line text ≡ digits ∷ words_in_line size → is_some (position is_space size) ≡ true → None ≡ added_of_words sized declared (words_in_line text)
nothing_of_three sized declared text digits size h s =
    let cut = words_spaced size s in
    rw (h ∙ ap (λ ws. digits ∷ ws) cut.2) (sym (three_words sized declared digits cut.0 (words_in_line cut.1) (words_some cut.1)))

-- ---- a text that is a hash has no space

digit_at : (byte : ℕ) (t : Bool) → is_space byte ≡ t → is_hex_digit byte ≡ true → is_space byte ≡ false
digit_at byte true e h = let is : byte ≡ 32 = eqb-true byte 32 e in let no = rw is at h in absurd (cc)
digit_at byte false e h = e

decoded : (b : Bool) (r : Result (List ℕ) FromHexError) (hash : List ℕ) → Some hash ≡ (if b then result_ok r else None) → r ≡ Ok hash
decoded true (Ok bytes) hash h = cc
decoded true (Err fault) hash h = absurd (cc)
decoded false r hash h = absurd (cc)

pub words_of_hash : (text hash : List ℕ) → Some hash ≡ hash_of text → words_in_line text ≡ text ∷ []
unfolding words_in_line bytes_in_digits
words_of_hash text hash h =
    let digits = (decode_of-ok text hash (decoded (nat_eq (length text) 64) (decode_of text) hash h)).1 in
    slice_split_none is_space text (λ k d lt. digit_at _ _ refl (digits k d lt))

abbrev added_with : ℕ → List ℕ → Added
added_with declared bytes = record { hash = bytes; size = declared }

pub added_alone : (sized : Bool) (declared : ℕ) (text hash : List ℕ) → Some hash ≡ hash_of text
    → Some (record { hash = hash; size = declared }) ≡ added_of_words sized declared (words_in_line text)
added_alone sized declared text hash h = rw (words_of_hash text hash h) (ap (option_map (added_with declared)) h)

pub nothing_alone : (sized : Bool) (declared : ℕ) (text : List ℕ) → hash_of text ≡ None → words_in_line text ≡ text ∷ [] → None ≡ added_of_words sized declared (words_in_line text)
nothing_alone sized declared text h alone = rw alone (sym (ap (option_map (added_with declared)) h))
