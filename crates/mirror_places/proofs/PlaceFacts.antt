-- What a mirror keeps of the places that it stands for.
use Rattle.std.proofs.Common.{◌≡◌, ℕ, zero, suc, ◌+◌, ◌-◌, ◌<◌, ◌≤◌, List, [], ◌∷◌, ◌++◌, length, take, drop, map, get_or, refl, sym, ap, subst, ◌∙◌, arith, Some, None, Bool, true, false, inl, inr, length-append, length-drop}
use Rattle.std.specs.Prelude.{slice_get, nat_lt, All, if◌then◌else◌}
use Rattle.std.proofs.lemmas.Bool.{cases_lt, ltb-false, lt-ltb, le-ltb}
use Rattle.std.proofs.lemmas.List.{drop-drop, drop-append-le}
use Rattle.std.proofs.lemmas.List.Elements.{All-drop, All-push}
use Rattle.std.proofs.lemmas.Option.{slice_get-get_or, same_Some}
use Rattle.update_client.specs.Held.{Held, digest_of}
use Rattle.mirror_places.specs.Places.{AreAtPlace, IsKeptMirror, Places, StandsForPlaces, last_place, lists_at_place, most_kept_places, names_of_lists, newest_lists, newest_place}

-- ---- elements of parts of lists

pub slice_get-drop : {X : Type 0} (n i : ℕ) (xs : List X) → slice_get (drop n xs) i ≡ slice_get xs (n + i)
slice_get-drop zero i xs = ap (λ k. slice_get xs k) (omega arith)
slice_get-drop (suc n) i [] = refl
slice_get-drop (suc n) i (x ∷ xs) =
    let next : suc n + i ≡ suc (n + i) = omega arith in
    slice_get-drop n i xs ∙ ap (λ k. slice_get (x ∷ xs) k) (sym next)

pub slice_get-take : {X : Type 0} (n i : ℕ) (xs : List X) → i < n → slice_get (take n xs) i ≡ slice_get xs i
slice_get-take zero i xs below = absurd (omega arith)
slice_get-take (suc n) i [] below = refl
slice_get-take (suc n) zero (x ∷ xs) below = refl
slice_get-take (suc n) (suc i) (x ∷ xs) below = slice_get-take n i xs (omega (arith, below))

pub slice_get-last : {X : Type 0} (xs : List X) (x : X) (n : ℕ) → n ≡ length xs → slice_get (xs ++ x ∷ []) n ≡ Some x
slice_get-last [] x n is = ap (λ k. slice_get (x ∷ []) k) is
slice_get-last (y ∷ ys) x zero is = absurd (omega (arith, is))
slice_get-last (y ∷ ys) x (suc n) is = slice_get-last ys x n (omega (arith, is))

-- ---- the lists at a place

pub at_kept : (mirror : Places) (place : ℕ) → mirror.gone ≤ place → lists_at_place mirror place ≡ slice_get mirror.kept (place - mirror.gone)
at_kept mirror place within = ap (λ (b : Bool). if b then None else slice_get mirror.kept (place - mirror.gone)) (le-ltb place mirror.gone within)

pub at_gone : (mirror : Places) (place : ℕ) → place < mirror.gone → lists_at_place mirror place ≡ None
at_gone mirror place before = ap (λ (b : Bool). if b then None else slice_get mirror.kept (place - mirror.gone)) (lt-ltb place mirror.gone before)

-- a place that is kept is among them
pub kept_within : (mirror : Places) (place : ℕ) (lists : List Held) → lists_at_place mirror place ≡ Some lists → mirror.gone ≤ place
kept_within mirror place lists is = go (nat_lt place mirror.gone) refl is
  where
    go : (b : Bool) → nat_lt place mirror.gone ≡ b → (if b then None else slice_get mirror.kept (place - mirror.gone)) ≡ Some lists → mirror.gone ≤ place
    go true e h = absurd (cc)
    go false e h = ltb-false place mirror.gone e

pub newest_is : (mirror : Places) → 0 < length mirror.kept → newest_lists mirror ≡ slice_get mirror.kept (length mirror.kept - 1)
newest_is mirror some =
    at_kept mirror (newest_place mirror) (omega arith) ∙ ap (λ k. slice_get mirror.kept k) (omega arith)

-- those that stand there
pub stands_at : (mirror : Places) (places : List (List Held)) (place : ℕ) → StandsForPlaces mirror places → mirror.gone ≤ place → lists_at_place mirror place ≡ slice_get places place
stands_at mirror places place stands within =
    at_kept mirror place within ∙ ap (λ (xs : List (List Held)). slice_get xs (place - mirror.gone)) stands.kept
    ∙ slice_get-drop mirror.gone (place - mirror.gone) places ∙ ap (λ k. slice_get places k) (omega arith)

-- ---- one place more

-- how many places are dropped where one is added
abbrev pub dropped_of : Places → ℕ
dropped_of mirror = length mirror.kept - 7

abbrev pub pushed : Places → List Held → Places
pushed mirror lists = record {
  epoch = mirror.epoch;
  gone = mirror.gone + dropped_of mirror;
  kept = drop (dropped_of mirror) mirror.kept ++ lists ∷ [];
}

pub pushed_length : (mirror : Places) (lists : List Held) → 0 < length mirror.kept → length (pushed mirror lists).kept ≡ length mirror.kept - dropped_of mirror + 1
pushed_length mirror lists some =
    length-append (drop (dropped_of mirror) mirror.kept) (lists ∷ []) ∙ ap (λ n. n + 1) (length-drop (dropped_of mirror) mirror.kept)

pub pushed_is : (mirror : Places) (lists : List Held) (dropped : ℕ) (kept : List (List Held)) → dropped ≡ dropped_of mirror → kept ≡ drop dropped mirror.kept ++ lists ∷ []
    → (let made : Places = record { epoch = mirror.epoch; gone = mirror.gone + dropped; kept = kept } in made ≡ pushed mirror lists)
pushed_is mirror lists dropped kept e k =
    ap (λ (xs : List (List Held)). let made : Places = record { epoch = mirror.epoch; gone = mirror.gone + dropped; kept = xs } in made) k
    ∙ ap (λ n. let made : Places = record { epoch = mirror.epoch; gone = mirror.gone + n; kept = drop n mirror.kept ++ lists ∷ [] } in made) e

-- the names of the newest lists, as those to be pushed have them
abbrev pub HasNewestNames : Places → List Held → Type 0
HasNewestNames mirror lists = (newest : List Held) → lists_at_place mirror (newest_place mirror) ≡ Some newest → names_of_lists lists ≡ names_of_lists newest

module _ (mirror : Places) (lists : List Held) (at : AreAtPlace (names_of_lists lists) lists) where
  -- lists with these names are at a place of them
  pub at_names : (names : List _) → names_of_lists lists ≡ names → AreAtPlace names lists
  at_names names is = record { client = at.client; named = is; sets = at.sets }

  pub named_as : (names : List _) → All (AreAtPlace names) mirror.kept → 0 < length mirror.kept → HasNewestNames mirror lists → names_of_lists lists ≡ names
  named_as names held some same =
      let last : ℕ = length mirror.kept - 1 in
      let below : last < length mirror.kept = omega arith in
      same (get_or mirror.kept last lists) (newest_is mirror some ∙ slice_get-get_or mirror.kept last lists below)
      ∙ (held last lists below).named

  pub pushed_newest : 0 < length mirror.kept → newest_lists (pushed mirror lists) ≡ Some lists
  pushed_newest some =
      let n = pushed_length mirror lists some in
      newest_is (pushed mirror lists) (omega (arith, n))
      ∙ slice_get-last (drop (dropped_of mirror) mirror.kept) lists (length (pushed mirror lists).kept - 1)
      (omega (arith, n, length-drop (dropped_of mirror) mirror.kept))

  pub pushed_stands : (places : List (List Held)) → StandsForPlaces mirror places → newest_place mirror < last_place → HasNewestNames mirror lists
      → StandsForPlaces (pushed mirror lists) (places ++ lists ∷ [])
  pushed_stands places stands more same =
      let some : 0 < length mirror.kept = omega (arith, stands.newest, stands.some) in
      let n = pushed_length mirror lists some in
      let long = length-append places (lists ∷ []) in
      let kept_names : All (AreAtPlace stands.names) mirror.kept =
      subst (All (AreAtPlace stands.names)) (sym stands.kept) (All-drop (AreAtPlace stands.names) mirror.gone places stands.held) in
      record {
        names = stands.names;
        held = All-push (AreAtPlace stands.names) places lists stands.held (at_names stands.names (named_as stands.names kept_names some same));
        some = omega (arith, long);
        few = omega (arith, long, more, stands.count, some);
        count = omega (arith, n, long, stands.count, some);
        newest = omega (arith, n, long, stands.newest, stands.count, some);
        kept = ap (λ (xs : List (List Held)). xs ++ lists ∷ []) (ap (drop (dropped_of mirror)) stands.kept ∙ drop-drop (dropped_of mirror) mirror.gone places)
            ∙ sym (drop-append-le (mirror.gone + dropped_of mirror) places (lists ∷ []) (omega (arith, stands.count, some)));
      }

  pub pushed_kept : (digests old : List (List ℕ)) → IsKeptMirror mirror old → newest_place mirror < last_place → HasNewestNames mirror lists
      → digests ≡ map (λ (held : Held). digest_of held.set) lists → IsKeptMirror (pushed mirror lists) digests
  pushed_kept digests old keeps more same are =
      let n = pushed_length mirror lists keeps.some in
      record {
        names = keeps.names;
        held = All-push (AreAtPlace keeps.names) (drop (dropped_of mirror) mirror.kept) lists (All-drop (AreAtPlace keeps.names) (dropped_of mirror) mirror.kept keeps.held)
            (at_names keeps.names (named_as keeps.names keeps.held keeps.some same));
        some = omega (arith, n);
        most = omega (arith, n, keeps.most, keeps.some);
        full = λ gone. full gone;
        few = omega (arith, n, keeps.few, keeps.some, more);
        digested = λ newest is. are ∙ ap (map (λ (held : Held). digest_of held.set)) (same_Some lists newest (sym (pushed_newest keeps.some) ∙ is));
      }
    where
      full : 0 < mirror.gone + dropped_of mirror → length (pushed mirror lists).kept ≡ most_kept_places
      full gone =
          let n = pushed_length mirror lists keeps.some in
          let eight : length mirror.kept ≡ 8 = elim (cases_lt 0 mirror.gone) [
            | inl some ↦ keeps.full some
            | inr none ↦ omega (arith, gone, keeps.most)
          ] in
          omega (arith, n, eight)

-- ---- the first place

pub first_kept : (epoch : ℕ) (lists : List Held) (digests : List (List ℕ)) → AreAtPlace (names_of_lists lists) lists → digests ≡ map (λ (held : Held). digest_of held.set) lists
    → IsKeptMirror (record { epoch = epoch; gone = 0; kept = lists ∷ [] }) digests
first_kept epoch lists digests at are = record {
  names = names_of_lists lists;
  held = All-push (AreAtPlace (names_of_lists lists)) [] lists (λ k d below. absurd (omega (arith, below))) at;
  some = omega arith;
  most = omega arith;
  full = λ gone. absurd (omega (arith, gone));
  few = omega arith;
  digested = λ newest is. are ∙ ap (map (λ (held : Held). digest_of held.set)) (same_Some lists newest is);
}

pub first_stands : (epoch : ℕ) (lists : List Held) → AreAtPlace (names_of_lists lists) lists → StandsForPlaces (record { epoch = epoch; gone = 0; kept = lists ∷ [] }) (lists ∷ [])
first_stands epoch lists at = record {
  names = names_of_lists lists;
  held = All-push (AreAtPlace (names_of_lists lists)) [] lists (λ k d below. absurd (omega (arith, below))) at;
  some = omega arith;
  few = omega arith;
  count = refl;
  newest = refl;
  kept = refl;
}
