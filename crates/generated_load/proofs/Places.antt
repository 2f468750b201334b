-- Texts of things at the places from 1 on, one place more at a time.
use Rattle.std.proofs.Common.{◌≡◌, ℕ, zero, suc, ◌+◌, ◌-◌, List, [], ◌∷◌, ◌++◌, map, refl, sym, ap, ◌∙◌, arith, add-one, append-nil, append_assoc}
use Rattle.std.specs.List.{flat_map, range_with_len}
use Rattle.std.proofs.lemmas.List.Concat.{flat_map-append}
use Rattle.std.proofs.lemmas.List.FromFn.{map-range_with_len_more}
use Rattle.sb_model.specs.declared.history.Change.{Change}
use Rattle.generated_load.specs.Generated.{change_at, generated_change, hash_at, number_after, seed_number_at, generated_url_at, url_line, other_seed}

pub number_next : (seed place : ℕ) → seed_number_at seed (place + 1) ≡ number_after (seed_number_at seed place)
unfolding seed_number_at
number_next seed place = rw add-one refl

pub number_first : (seed : ℕ) → seed_number_at seed 0 ≡ seed
unfolding seed_number_at
number_first seed = refl

range_more : (a n : ℕ) → range_with_len a (suc n) ≡ range_with_len a n ++ (a + n) ∷ []
range_more a zero = ap (λ (k : ℕ). k ∷ []) (omega arith)
range_more a (suc n) =
    let e : (a + 1) + n ≡ a + suc n = omega arith in
    ap (λ (ks : List ℕ). a ∷ ks) (range_more (a + 1) n ∙ ap (λ (k : ℕ). range_with_len (a + 1) n ++ k ∷ []) e)

-- one line more
pub lines_more : (f : ℕ → List ℕ) (n : ℕ) → flat_map f (range_with_len 1 (n + 1)) ≡ flat_map f (range_with_len 1 n) ++ f (n + 1)
lines_more f n =
    let place : 1 + n ≡ n + 1 = omega arith in
    ap (λ (k : ℕ). flat_map f (range_with_len 1 k)) (add-one n) ∙ ap (flat_map f) (range_more 1 n)
    ∙ flat_map-append f (range_with_len 1 n) ((1 + n) ∷ [])
    ∙ ap (λ (ks : List ℕ). flat_map f (range_with_len 1 n) ++ ks) (append-nil (f (1 + n)))
    ∙ ap (λ (k : ℕ). flat_map f (range_with_len 1 n) ++ f k) place

-- one URL more
pub url_more : (seed place number after : ℕ) (page text : List ℕ) → number ≡ seed_number_at (other_seed seed) place → after ≡ number_after number
    → page ≡ flat_map (generated_url_at seed) (range_with_len 1 place) → text ≡ page ++ url_line after (place + 1)
    → text ≡ flat_map (generated_url_at seed) (range_with_len 1 (place + 1))
url_more seed place number after page text is next so_far more =
    let here : after ≡ seed_number_at (other_seed seed) (place + 1) = next ∙ ap number_after is ∙ sym (number_next (other_seed seed) place) in
    more ∙ ap (λ (bytes : List ℕ). bytes ++ url_line after (place + 1)) so_far
    ∙ ap (λ (n : ℕ). flat_map (generated_url_at seed) (range_with_len 1 place) ++ url_line n (place + 1)) here
    ∙ sym (lines_more (generated_url_at seed) place)

-- one change more, with the hashes of a host and of the next
abbrev pub changes_text : (Change → List ℕ) → ℕ → ℕ → List ℕ
changes_text text_of seed count = flat_map text_of (map (change_at seed) (range_with_len 1 count))

changes_next : (text_of : Change → List ℕ) (seed place : ℕ) → changes_text text_of seed (place + 1) ≡ changes_text text_of seed place ++ text_of (change_at seed (place + 1))
changes_next text_of seed place =
    let same : 1 + place ≡ place + 1 = omega arith in
    ap (flat_map text_of) (map-range_with_len_more (change_at seed) 1 place (place + 1) same)
    ∙ flat_map-append text_of (map (change_at seed) (range_with_len 1 place)) (change_at seed (place + 1) ∷ [])
    ∙ ap (λ (bytes : List ℕ). changes_text text_of seed place ++ bytes) (append-nil (text_of (change_at seed (place + 1))))

change_here : (seed place : ℕ) (before hash : List ℕ) → before ≡ hash_at seed place → hash ≡ hash_at seed (place + 1)
    → generated_change (place + 1) before hash ≡ change_at seed (place + 1)
change_here seed place before hash was is =
    let same : place ≡ (place + 1) - 1 = omega arith in
    ap (λ (b : List ℕ). generated_change (place + 1) b hash) (was ∙ ap (hash_at seed) same) ∙ ap (generated_change (place + 1) (hash_at seed ((place + 1) - 1))) is

pub change_more : (text_of : Change → List ℕ) (seed place : ℕ) (start before hash page text : List ℕ) → before ≡ hash_at seed place → hash ≡ hash_at seed (place + 1)
    → page ≡ start ++ changes_text text_of seed place → text ≡ page ++ text_of (generated_change (place + 1) before hash)
    → text ≡ start ++ changes_text text_of seed (place + 1)
change_more text_of seed place start before hash page text was is so_far more =
    more ∙ ap (λ (bytes : List ℕ). bytes ++ text_of (generated_change (place + 1) before hash)) so_far
    ∙ ap (λ (change : Change). (start ++ changes_text text_of seed place) ++ text_of change) (change_here seed place before hash was is)
    ∙ append_assoc start (changes_text text_of seed place) (text_of (change_at seed (place + 1)))
    ∙ ap (λ (bytes : List ℕ). start ++ bytes) (sym (changes_next text_of seed place))
