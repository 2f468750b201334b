-- No command line has a barred word.
use Rattle.std.proofs.Common.{◌≡◌, ◌∙◌, sym, ap, ap₂, refl, ℕ, suc, ◌+◌, ◌<◌, add-one, one-add, length, drop, map, nat_lt, leb, position, slice_index_or, drop-cons, ◌==◌, Bool, true, false, not, cond, ◌||◌, List, [], ◌∷◌, take, Option, Some, None, is_some, option_map, codes, if◌then◌else◌}
use Rattle.std.specs.List.{list_any, position_or_len}
use Rattle.std.specs.Option.{option_map_or}
use Rattle.std.specs.Str.{bytes_eq}
use Rattle.std.proofs.lemmas.Bool.{false≢true}
use lib.Dec.{leb-suc-suc, leb-zero}
use Rattle.sb_words.specs.declared.shape.OptionKind.{OptionKind}
use Rattle.sb_words.specs.declared.shape.OptionKind.TheVariants.{Needed, Optional, Flag}
use Rattle.sb_words.specs.CommandLine.{after_dash, awaits, CommandOption, dashed_meaning, ends, first_piece, found_meaning, is_equals, is_value, kind_meaning, Meaning, meaning_of_word, name_in, option, option_named, Piece, pieces_after, pieces_from, positional, refused, says, Text, value_in, word_meaning}
use Rattle.sb_words.specs.Barred.{ends_options, has_barred, is_barred, is_barred_after}
use Rattle.sb_words.proofs.Dashes.{by_dashes}

barred_first : (word : Text) (words : List Text) → has_barred (word ∷ words) ≡ (if ends_options word then false else (is_barred word || has_barred words))
barred_first word words = go (ends_options word)
  where
    go : (b : Bool) → list_any is_barred (take (cond (not b) (1 + position_or_len ends_options words) 0) (word ∷ words))
        ≡ (if b then false else (is_barred word || has_barred words))
    go true = refl
    go false = ap (λ n. list_any is_barred (take n (word ∷ words))) (one-add (position_or_len ends_options words))

dash_is_no_value : (v : Text) → is_some (after_dash v) ≡ true → is_value v ≡ false
dash_is_no_value [] e = absurd (false≢true e)
dash_is_no_value (x ∷ xs) e = go (x == 45) e
  where
    go : (b : Bool) → is_some (if b then Some xs else None) ≡ true → not b ≡ false
    go true fine = refl
    go false bad = absurd (false≢true bad)

refused_kind : (kind : OptionKind) (name : Text) (v : Option Text) → option_map_or (λ value. is_some (after_dash value)) v false ≡ true → kind_meaning kind name v ≡ refused
refused_kind kind name None e = absurd (false≢true e)
refused_kind Flag name (Some v) e = refl
refused_kind Needed name (Some v) e = rw (dash_is_no_value v e) refl
refused_kind Optional name (Some v) e = rw (dash_is_no_value v e) refl

refused_found : (found : Option CommandOption) (name : Text) (v : Option Text) → option_map_or (λ value. is_some (after_dash value)) v false ≡ true → found_meaning found name v ≡ refused
refused_found None name v e = refl
refused_found (Some o) name v e = refused_kind o.kind name v e

-- a barred word is no value, and is refused
barred_means : (options : List CommandOption) (word : Text) → is_barred word ≡ true → (is_value word ≡ false) × (meaning_of_word options word ≡ refused)
barred_means options = by_dashes (λ word. is_barred word ≡ true → (is_value word ≡ false) × (meaning_of_word options word ≡ refused))
    (λ word e bar. absurd (false≢true (sym (ap (λ o. option_map_or (λ rest. is_barred_after (after_dash rest)) o false) e) ∙ bar)))
    (λ rest e bar. (refl, ap (dashed_meaning options) e))
    (λ bar. absurd (false≢true bar))
    (λ b bs bar. (refl, refused_found (option_named options (name_in (b ∷ bs))) (name_in (b ∷ bs)) (value_in (b ∷ bs)) bar))

-- only `--` ends the options
value_does_not_end : (name v : Text) (b : Bool) → (if b then says (option name v) else refused) ≡ ends → ⊥
value_does_not_end name v true e = cc
value_does_not_end name v false e = cc

kind_does_not_end : (kind : OptionKind) (name : Text) (v : Option Text) → kind_meaning kind name v ≡ ends → ⊥
kind_does_not_end Flag name None e = cc
kind_does_not_end Flag name (Some v) e = cc
kind_does_not_end Needed name None e = cc
kind_does_not_end Needed name (Some v) e = value_does_not_end name v (is_value v) e
kind_does_not_end Optional name None e = cc
kind_does_not_end Optional name (Some v) e = value_does_not_end name v (is_value v) e

found_does_not_end : (found : Option CommandOption) (name : Text) (v : Option Text) → found_meaning found name v ≡ ends → ⊥
found_does_not_end None name v e = cc
found_does_not_end (Some o) name v e = kind_does_not_end o.kind name v e

does_not_end : (options : List CommandOption) (word : Text) → ends_options word ≡ false → meaning_of_word options word ≡ ends → ⊥
does_not_end options = by_dashes (λ word. ends_options word ≡ false → meaning_of_word options word ≡ ends → ⊥)
    (λ word e two is. let bad : says (positional word) ≡ ends = sym (ap (word_meaning options word) e) ∙ is in cc)
    (λ rest e two is. let bad : refused ≡ ends = sym (ap (dashed_meaning options) e) ∙ is in cc)
    (λ two is. absurd (false≢true (sym two)))
    (λ b bs two is. found_does_not_end (option_named options (name_in (b ∷ bs))) (name_in (b ∷ bs)) (value_in (b ∷ bs)) is)

nothing_first : (piece : Piece) (o : Option (List Piece)) → o ≡ None → first_piece piece o ≡ None
nothing_first piece o e = ap (first_piece piece) e

pub barred_says_nothing : (options : List CommandOption) (words : List Text) (awaited : Option Text) → has_barred words ≡ true → pieces_after options awaited words ≡ None
unfolding pieces_after
barred_says_nothing options [] awaited bar = absurd (false≢true bar)
barred_says_nothing options (word ∷ words) awaited bar = step (λ a. barred_says_nothing options words a) (ends_options word) (is_barred word) refl refl
  where
    after_value : (name : Text) (c : Bool) → pieces_after options None words ≡ None → (if c then first_piece (option name word) (pieces_after options None words) else None) ≡ None
    after_value name true e = nothing_first (option name word) _ e
    after_value name false e = refl

    after_meaning : (m : Meaning) → bytes_eq word (codes "--") ≡ false → meaning_of_word options word ≡ m → ((a : Option Text) → pieces_after options a words ≡ None)
        → pieces_from m words (λ a. pieces_after options a words) ≡ None
    after_meaning (says piece) two is later = nothing_first piece _ (later None)
    after_meaning (awaits name) two is later = later (Some name)
    after_meaning ends two is later = absurd (does_not_end options word two is)
    after_meaning refused two is later = refl

    barred_here : (a : Option Text) → is_barred word ≡ true → pieces_after options a (word ∷ words) ≡ None
    barred_here None f = ap (λ m. pieces_from m words (λ w. pieces_after options w words)) (barred_means options word f).1
    barred_here (Some name) f =
        ap (λ b. if b then first_piece (option name word) (pieces_after options None words) else None) (barred_means options word f).0

    barred_later : (a : Option Text) → ends_options word ≡ false → ((w : Option Text) → pieces_after options w words ≡ None) → pieces_after options a (word ∷ words) ≡ None
    barred_later None e later = after_meaning (meaning_of_word options word) e refl later
    barred_later (Some name) e later = after_value name (is_value word) (later None)

    step : ((a : Option Text) → has_barred words ≡ true → pieces_after options a words ≡ None) → (b c : Bool) → ends_options word ≡ b → is_barred word ≡ c
        → pieces_after options awaited (word ∷ words) ≡ None
    step later true c e f =
        absurd (false≢true (sym (ap (λ b. if b then false else (is_barred word || has_barred words)) e) ∙ sym (barred_first word words) ∙ bar))
    step later false true e f = barred_here awaited f
    step later false false e f =
        let more : has_barred words ≡ true =
        sym (ap₂ (λ b c. if b then false else (c || has_barred words)) e f) ∙ sym (barred_first word words) ∙ bar in
        barred_later awaited e (λ a. later a more)

-- the words from a place on
pub barred_at : {S : Type 0} (f : S → Text) (words : List S) (i : ℕ) (word : S) → i < length words → word ≡ slice_index_or words i word
    → has_barred (map f (drop i words)) ≡ (if ends_options (f word) then false else (is_barred (f word) || has_barred (map f (drop (i + 1) words))))
barred_at f words i word lt at =
    ap (λ ws. has_barred (map f ws)) (drop-cons words i word lt ∙ ap (λ w. w ∷ drop (suc i) words) (sym at))
    ∙ barred_first (f word) (map f (drop (suc i) words))
    ∙ ap (λ n. if ends_options (f word) then false else (is_barred (f word) || has_barred (map f (drop n words)))) (sym (add-one i))

-- ---- the value after the first `=`

pub any_is : (p : ℕ → Bool) (xs : List ℕ) → list_any p xs ≡ nat_lt (position_or_len p xs) (length xs)
any_is p [] = refl
any_is p (x ∷ xs) = go (p x) (any_is p xs)
  where
    go : (b : Bool) → list_any p xs ≡ nat_lt (position_or_len p xs) (length xs)
        → (b || list_any p xs) ≡ nat_lt (cond (not b) (1 + position_or_len p xs) 0) (suc (length xs))
    go true e = sym (leb-suc-suc 0 (length xs) ∙ leb-zero (length xs))
    go false e = e ∙ sym (leb-suc-suc (1 + position_or_len p xs) (length xs) ∙ ap (λ n. leb n (length xs)) (one-add (position_or_len p xs)))

pub value_at : (text : Text) → value_in text ≡ option_map (λ i. drop (i + 1) text) (position is_equals text)
value_at text =
    ap (λ b. if b then Some (drop (position_or_len is_equals text + 1) text) else None) (any_is is_equals text)
    ∙ go (nat_lt (position_or_len is_equals text) (length text))
  where
    go : (b : Bool) → (if b then Some (drop (position_or_len is_equals text + 1) text) else None)
        ≡ option_map (λ i. drop (i + 1) text) (cond b (Some (position_or_len is_equals text)) None)
    go true = refl
    go false = refl
