-- The parts of a name's text.
use Rattle.std.proofs.Common.{◌≡◌, ℕ, ◌+◌, ◌-◌, ◌<◌, ◌≤◌, List, [], ◌∷◌, Bool, true, false, length, take, drop, refl, ap, ◌∙◌, subst, cond, Option, Some, None, Err, arith, nat_lt}
use Rattle.std.specs.Prelude.{position, is_some}
use Rattle.std.specs.List.{slice_split, position_or_len}
use Rattle.std.proofs.lemmas.List.Quantifiers.{position-Some}
use Rattle.std.proofs.lemmas.List.Sums.{position_or_len_is, fails_before_first}
use Rattle.std.proofs.lemmas.List.Splits.{slice_split_first, slice_split_none, length-slice_split}
use Rattle.std.proofs.lemmas.List.Elements.{All-from_get_or}
use borrow.Author.Tests.{ltb-false}
use Rattle.std.proofs.lemmas.List.{length-drop, take_all}
use Rattle.sb_model.specs.Names.{is_slash, parts_of, name_of_parts, name_of}
use Rattle.sb_model.specs.declared.names.NameFault.TheVariants.{Shape}

-- the first slash ends the first part
pub parts_found : (xs : List ℕ) (i : ℕ) → position is_slash xs ≡ Some i → parts_of xs ≡ take i xs ∷ parts_of (drop (i + 1) xs)
unfolding parts_of
parts_found xs i h =
    let found = position-Some is_slash xs i 0 h in
    let place : position_or_len is_slash xs ≡ i = position_or_len_is is_slash xs i 0 (omega (arith, found.0)) found.2 (λ _. found.1) in
    let lt : position_or_len is_slash xs < length xs = rw place found.0 in
    subst (λ n. slice_split is_slash xs ≡ take n xs ∷ slice_split is_slash (drop (n + 1) xs)) place (slice_split_first is_slash xs 0 lt)

none_at : (xs : List ℕ) (b : Bool) → nat_lt (position_or_len is_slash xs) (length xs) ≡ b → cond b (Some (position_or_len is_slash xs)) None ≡ None → length xs ≤ position_or_len is_slash xs
none_at xs true e h = absurd (cc)
none_at xs false e h = ltb-false _ _ e

-- a text without a slash is one part
pub parts_none : (xs : List ℕ) → position is_slash xs ≡ None → parts_of xs ≡ xs ∷ []
unfolding parts_of
parts_none xs h =
    let past : length xs ≤ position_or_len is_slash xs = none_at xs _ refl h in
    slice_split_none is_slash xs (All-from_get_or (λ x. is_slash x ≡ false) xs 0 (λ i l. fails_before_first is_slash xs i 0 (omega arith)))

-- a text has a part
pub parts_some : (xs : List ℕ) → 0 < length (parts_of xs)
unfolding parts_of
parts_some xs = omega (arith, length-slice_split is_slash xs)

-- four parts and more are no name
pub no_name : (a b c : List ℕ) (more : List (List ℕ)) → 0 < length more → name_of_parts (a ∷ b ∷ c ∷ more) ≡ Err Shape
no_name a b c [] h = absurd (omega arith)
no_name a b c (d ∷ more) h = refl

-- the same, as the code cuts the text
pub parts_cut : (xs : List ℕ) (i : ℕ) → position is_slash xs ≡ Some i → parts_of xs ≡ take i xs ∷ parts_of (take (length xs - (i + 1)) (drop (i + 1) xs))
parts_cut xs i h =
    let whole : take (length xs - (i + 1)) (drop (i + 1) xs) ≡ drop (i + 1) xs = take_all _ (drop (i + 1) xs) (omega (arith, length-drop (i + 1) xs)) in
    rw whole (parts_found xs i h)

some_of : (o : Option ℕ) → is_some o ≡ true → (i : ℕ) × (o ≡ Some i)
some_of None h = absurd (cc)
some_of (Some i) h = (i, refl)

-- a third slash makes too many parts
pub too_many : (text first rest second third : List ℕ) → parts_of text ≡ first ∷ parts_of rest → parts_of rest ≡ second ∷ parts_of third → is_some (position is_slash third) ≡ true → name_of text ≡ Err Shape
too_many text first rest second third h k s =
    let i = some_of _ s in
    let parts : parts_of text ≡ first ∷ second ∷ take i.0 third ∷ parts_of (drop (i.0 + 1) third) = h ∙ ap (λ ps. first ∷ ps) (k ∙ ap (λ ps. second ∷ ps) (parts_found third i.0 i.1)) in
    rw parts (no_name first second (take i.0 third) (parts_of (drop (i.0 + 1) third)) (parts_some (drop (i.0 + 1) third)))

-- without one there are three
pub just_three : (text first rest second third : List ℕ) → parts_of text ≡ first ∷ parts_of rest → parts_of rest ≡ second ∷ parts_of third → is_some (position is_slash third) ≡ false → parts_of text ≡ first ∷ second ∷ third ∷ []
just_three text first rest second third h k s = h ∙ ap (λ ps. first ∷ ps) (k ∙ ap (λ ps. second ∷ ps) (parts_none third (none_of _ s)))
  where
    none_of : (o : Option ℕ) → is_some o ≡ false → o ≡ None
    none_of None h = refl
    none_of (Some i) h = absurd (cc)
