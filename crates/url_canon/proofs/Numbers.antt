-- The numbers that the parts of a host spell.
use Rattle.std.proofs.Common.{◌≡◌, ℕ, suc, zero, ◌+◌, ◌-◌, ◌*◌, ◌^◌, ◌≤◌, ◌<◌, List, [], ◌∷◌, Bool, true, false, ◌&&◌, cond, ltb, min, length, take, get_or, Option, Some, None, option_map, option_and_then, refl, sym, ap, ◌∙◌, arith, subst, ⊎_elim}
use Rattle.std.specs.List.{fold, list_all}
use Rattle.std.specs.Char.{digit_value}
use Rattle.std.proofs.lemmas.Bool.{cases_lt, cond-true, cond-false, and_left, and_right, and_from, le-ltb, lt-ltb}
use Rattle.std.proofs.lemmas.List.{take_all, take_more}
use Rattle.std.proofs.lemmas.Grind.{fold-append}
use Rattle.std.proofs.Math.Nat.{mul-le-mul_left, pow-suc}
use Rattle.std.proofs.lemmas.Nat.{mul-add-lt}
use Rattle.std.proofs.lemmas.List.Recursion.{and_fails_at}
use Rattle.url_canon.specs.Address.{number_in_base, number_of_part, address_in}

abbrev pub is_digit_of : ℕ → ℕ → Bool
is_digit_of base digit = ltb (digit_value digit) base

abbrev pub spelled_in : ℕ → List ℕ → ℕ
spelled_in base digits = fold (λ number digit. base * number + digit_value digit) 0 digits

number_is : (base : ℕ) (digits : List ℕ) → number_in_base base digits ≡ cond (ltb 0 (length digits) && list_all (is_digit_of base) digits) (Some (spelled_in base digits)) None
unfolding number_in_base
number_is base digits = refl

pub number_in-empty : (base : ℕ) (digits : List ℕ) → length digits ≡ 0 → number_in_base base digits ≡ None
number_in-empty base digits e =
    number_is base digits ∙ cond-false _ (Some (spelled_in base digits)) None (and_left _ _ (le-ltb 0 (length digits) (omega arith)))

pub number_in-other : (base : ℕ) (digits : List ℕ) (i : ℕ) → i < length digits → is_digit_of base (get_or digits i 0) ≡ false → number_in_base base digits ≡ None
number_in-other base digits i inside e =
    number_is base digits ∙ cond-false _ (Some (spelled_in base digits)) None (and_right _ _ (and_fails_at (list_all (is_digit_of base)) (is_digit_of base) refl (λ _ _. refl) digits i 0 inside e))

pub number_in-digits : (base : ℕ) (digits : List ℕ) (n : ℕ) → 0 < length digits → length digits ≤ n → list_all (is_digit_of base) (take n digits) ≡ true → number_in_base base digits ≡ Some (spelled_in base (take n digits))
number_in-digits base digits n some past e =
    let whole = take_all n digits past in
    number_is base digits ∙ (cond-true _ (Some (spelled_in base digits)) None (and_from _ _ (lt-ltb 0 (length digits) some) (sym (ap (list_all (is_digit_of base)) whole) ∙ e)) ∙ ap (λ ds. Some (spelled_in base ds)) (sym whole))

le_times : (base m : ℕ) → 0 < base → m ≤ base * m
le_times base m some = grind arith

times_le : (base m v : ℕ) → m ≤ v → base * m ≤ base * v
times_le base m v h = mul-le-mul_left base h

-- what stops at a most value goes on from there
pub stopped_step : (base v d most : ℕ) → 0 < base → min (base * min v most + d) most ≡ min (base * v + d) most
stopped_step base v d most some =
    ⊎_elim (λ below. let same : min v most ≡ v = omega arith in ap (λ k. min (base * k + d) most) same) (λ above. let same : min v most ≡ most = omega arith in let most_stays = le_times base most some in let grows = times_le base most v above in ap (λ k. min (base * k + d) most) same ∙ omega arith) (cases_lt v most)

-- one digit more
pub spelled_more : (base : ℕ) (digits : List ℕ) (i most number : ℕ) → 0 < base → i < length digits → number ≡ min (spelled_in base (take i digits)) most → min (base * number + digit_value (get_or digits i 0)) most ≡ min (spelled_in base (take (i + 1) digits)) most
spelled_more base digits i most number some inside e =
    let so_far = spelled_in base (take i digits) in
    let digit = get_or digits i 0 in
    let next : spelled_in base (take (i + 1) digits) ≡ base * so_far + digit_value digit = ap (spelled_in base) (take_more digits i 0 inside) ∙ fold-append (λ number digit. base * number + digit_value digit) 0 (take i digits) (digit ∷ []) in
    ap (λ k. min (base * k + digit_value digit) most) e ∙ (stopped_step base so_far (digit_value digit) most some ∙ ap (λ k. min k most) (sym next))

-- a number that stopped at a greatest one, read as itself where it is below a bound

abbrev pub stopped : Option ℕ → Option ℕ
stopped o = option_map (λ m. min m 4294967296) o

below_top : (o : Option ℕ) (number top : ℕ) → stopped o ≡ Some number → top ≤ 4294967296 → number < top → o ≡ Some number
below_top None number top is most h = is
below_top (Some m) number top is most h = let e : min m 4294967296 ≡ number = cc in ap Some (omega arith)

no_number : (o : Option ℕ) → stopped o ≡ None → o ≡ None
no_number None is = is
no_number (Some m) is = absurd (cc)

above_top : (o : Option ℕ) (number top : ℕ) → stopped o ≡ Some number → top ≤ number → option_and_then (λ m. cond (ltb m top) (Some m) None) o ≡ None
above_top None number top is h = refl
above_top (Some m) number top is h =
    let e : min m 4294967296 ≡ number = cc in cond-false (ltb m top) (Some m) None (le-ltb m top (omega arith))

above_byte : (o : Option ℕ) (number low w : ℕ) → stopped o ≡ Some number → 256 ≤ number → option_and_then (λ m. cond (ltb m 256) (Some (m * 256 ^ w + low)) None) o ≡ None
above_byte None number low w is h = refl
above_byte (Some m) number low w is h =
    let e : min m 4294967296 ≡ number = cc in cond-false (ltb m 256) (Some (m * 256 ^ w + low)) None (le-ltb m 256 (omega arith))

-- the parts of an address, from the first on

pub at_last : (w v : ℕ) (part : List ℕ) → w ≡ suc v → address_in w (part ∷ []) ≡ option_and_then (λ m. cond (ltb m (256 ^ w)) (Some m) None) (number_of_part part)
at_last w v part e =
    ap (λ k. address_in k (part ∷ [])) e ∙ ap (λ k. option_and_then (λ m. cond (ltb m (256 ^ k)) (Some m) None) (number_of_part part)) (sym e)

pub at_more : (w v : ℕ) (part : List ℕ) (parts : List (List ℕ)) → w ≡ suc v → 0 < length parts → address_in w (part ∷ parts) ≡ option_and_then (λ m. option_and_then (λ low. cond (ltb m 256) (Some (m * 256 ^ v + low)) None) (address_in v parts)) (number_of_part part)
at_more w v part [] e some = absurd (omega arith)
at_more w v part (next ∷ parts) e some = ap (λ k. address_in k (part ∷ next ∷ parts)) e

pub address_in-last : (w v : ℕ) (part : List ℕ) (number : ℕ) → w ≡ suc v → 256 ^ w ≤ 4294967296 → stopped (number_of_part part) ≡ Some number → number < 256 ^ w → address_in w (part ∷ []) ≡ Some number
address_in-last w v part number e most is h =
    at_last w v part e ∙ (ap (option_and_then (λ m. cond (ltb m (256 ^ w)) (Some m) None)) (below_top (number_of_part part) number (256 ^ w) is most h) ∙ cond-true (ltb number (256 ^ w)) (Some number) None (lt-ltb number (256 ^ w) h))

pub address_in-last_past : (w v : ℕ) (part : List ℕ) (number : ℕ) → w ≡ suc v → stopped (number_of_part part) ≡ Some number → 256 ^ w ≤ number → address_in w (part ∷ []) ≡ None
address_in-last_past w v part number e is h = at_last w v part e ∙ above_top (number_of_part part) number (256 ^ w) is h

pub address_in-more : (w v : ℕ) (part : List ℕ) (parts : List (List ℕ)) (number low : ℕ) → w ≡ suc v → 0 < length parts → stopped (number_of_part part) ≡ Some number → number < 256 → address_in v parts ≡ Some low → address_in w (part ∷ parts) ≡ Some (number * 256 ^ v + low)
address_in-more w v part parts number low e some is h rest =
    at_more w v part parts e some ∙ (ap (option_and_then (λ m. option_and_then (λ low. cond (ltb m 256) (Some (m * 256 ^ v + low)) None) (address_in v parts))) (below_top (number_of_part part) number 256 is (omega arith) h) ∙ (ap (option_and_then (λ low. cond (ltb number 256) (Some (number * 256 ^ v + low)) None)) rest ∙ cond-true (ltb number 256) (Some (number * 256 ^ v + low)) None (lt-ltb number 256 h)))

pub address_in-more_past : (w v : ℕ) (part : List ℕ) (parts : List (List ℕ)) (number low : ℕ) → w ≡ suc v → 0 < length parts → stopped (number_of_part part) ≡ Some number → 256 ≤ number → address_in v parts ≡ Some low → address_in w (part ∷ parts) ≡ None
address_in-more_past w v part parts number low e some is h rest =
    at_more w v part parts e some ∙ (ap (λ r. option_and_then (λ m. option_and_then (λ low. cond (ltb m 256) (Some (m * 256 ^ v + low)) None) r) (number_of_part part)) rest ∙ above_byte (number_of_part part) number low v is h)

nothing_low : (o : Option ℕ) (v : ℕ) → option_and_then (λ m. option_and_then (λ low. cond (ltb m 256) (Some (m * 256 ^ v + low)) None) None) o ≡ None
nothing_low None v = refl
nothing_low (Some m) v = refl

pub address_in-more_none : (w v : ℕ) (part : List ℕ) (parts : List (List ℕ)) → w ≡ suc v → 0 < length parts → address_in v parts ≡ None → address_in w (part ∷ parts) ≡ None
address_in-more_none w v part parts e some rest =
    at_more w v part parts e some ∙ (ap (λ r. option_and_then (λ m. option_and_then (λ low. cond (ltb m 256) (Some (m * 256 ^ v + low)) None) r) (number_of_part part)) rest ∙ nothing_low (number_of_part part) v)

pub address_in-no_number : (w : ℕ) (part : List ℕ) (parts : List (List ℕ)) → stopped (number_of_part part) ≡ None → address_in w (part ∷ parts) ≡ None
address_in-no_number zero part parts is = refl
address_in-no_number (suc v) part [] is =
    ap (option_and_then (λ m. cond (ltb m (256 ^ suc v)) (Some m) None)) (no_number (number_of_part part) is)
address_in-no_number (suc v) part (next ∷ parts) is =
    ap (option_and_then (λ m. option_and_then (λ low. cond (ltb m 256) (Some (m * 256 ^ v + low)) None) (address_in v (next ∷ parts)))) (no_number (number_of_part part) is)

-- so many addresses have a number that fits
pub addresses_most : (w : ℕ) → w ≤ 4 → 256 ^ w ≤ 4294967296
addresses_most zero h = omega arith
addresses_most (suc zero) h = omega arith
addresses_most (suc (suc zero)) h = omega arith
addresses_most (suc (suc (suc zero))) h = omega arith
addresses_most (suc (suc (suc (suc zero)))) h = omega arith
addresses_most (suc (suc (suc (suc (suc w))))) h = absurd (omega arith)

-- a byte before an address of one byte less
pub joined_below : (w v number low : ℕ) → w ≡ suc v → number < 256 → low < 256 ^ v → number * 256 ^ v + low < 256 ^ w
joined_below w v number low e h below =
    let wider : 256 ^ w ≡ 256 ^ v * 256 = ap (λ k. 256 ^ k) e ∙ pow-suc 256 v in
    omega (arith, mul-add-lt number (256 ^ v) low 256 h below)

pub joined_fits : (w size number low : ℕ) → 0 < w → size ≡ 256 ^ (w - 1) → number < 256 → low < 256 ^ (w - 1) → number * size + low < 256 ^ w
joined_fits w size number low some is h below =
    let joined = joined_below w (w - 1) number low (omega arith) h below in
    subst (λ s. number * s + low < 256 ^ w) (sym is) joined
