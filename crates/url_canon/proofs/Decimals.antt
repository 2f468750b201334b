-- An address in four decimals is read as that address.
use Rattle.std.proofs.Common.{◌≡◌, ℕ, zero, suc, ◌+◌, ◌*◌, ◌/◌, ◌%◌, ◌^◌, ◌<◌, ◌≤◌, List, [], ◌∷◌, ◌++◌, Bool, true, false, not, ◌&&◌, cond, eqb, ltb, leb, min, Option, Some, None, option_and_then, refl, sym, ap, ◌∙◌, arith, ⊎_elim}
use Rattle.std.specs.List.{list_any, list_all, AllByRecursion, slice_split, join_with_byte}
use Rattle.std.specs.Prelude.{decimal}
use Rattle.std.specs.Fmt.{digits}
use Rattle.std.specs.Char.{to_ascii_lowercase}
use Rattle.std.specs.Str.{str_to_ascii_lowercase}
use Rattle.std.proofs.lemmas.Bool.{or_from, and_parts, eqb-true, ne_eqb, leb-true, not-true, ltb-true, agree_below_at, false≢true, cond-true, cond-false, cases_Bool}
use Rattle.std.proofs.lemmas.List.{append-nil}
use Rattle.std.proofs.lemmas.Bool.Decides.{nat_tests}
use Rattle.url_canon.specs.Words.{is_nil, is_dot}
use Rattle.url_canon.specs.Address.{number_in_base, number_of_part, address_in, address_of, address_text}
use Rattle.url_canon.specs.Host.{is_colon, name_before_port}
use Rattle.url_canon.proofs.Splits.{Lacks}
use Rattle.url_canon.proofs.Numbers.{stopped, address_in-last, address_in-more, joined_below}
use Rattle.url_canon.proofs.Lacking.{Lacks-join, IsPlain, plain-after}
use Rattle.url_canon.proofs.Hosts.{IsLabel, name_of-join, split_join}
use Rattle.url_canon.proofs.Unescapes.{has_escape}

is_figure : ℕ → Bool
is_figure x = leb 48 x && leb x 57

is_number : Option ℕ → ℕ → Bool
is_number None n = false
is_number (Some m) n = eqb m n

decimal_test : ℕ → Bool
decimal_test n = not (is_nil (decimal n)) && (list_all is_figure (decimal n) && is_number (number_of_part (decimal n)) n)

-- each byte, one after the other
tested : (n : ℕ) → n < 256 → decimal_test n ≡ true
unfolding decimal_test is_figure is_number number_of_part number_in_base digits
tested n h = agree_below_at decimal_test (λ _. true) 256 n refl h

number_from : (o : Option ℕ) (n : ℕ) → is_number o n ≡ true → o ≡ Some n
unfolding is_number
number_from None n e = absurd (false≢true e)
number_from (Some m) n e = ap Some (eqb-true m n e)

figure_range : (x : ℕ) → is_figure x ≡ true → (48 ≤ x) × (x ≤ 57)
unfolding is_figure
figure_range x e = let both = and_parts (leb 48 x) (leb x 57) e in (leb-true 48 x both.0, leb-true x 57 both.1)

-- what no figure is
figures_lack : (q : ℕ → Bool) (xs : List ℕ) → ((x : ℕ) → 48 ≤ x → x ≤ 57 → q x ≡ false) → list_all is_figure xs ≡ true → Lacks q xs
figures_lack q [] none e = refl
figures_lack q (x ∷ xs) none e =
    let both = and_parts (is_figure x) (list_all is_figure xs) e in
    let range = figure_range x both.0 in
    or_from (q x) (list_any q xs) (none x range.0 range.1) (figures_lack q xs none both.1)

figures_lower : (xs : List ℕ) → list_all is_figure xs ≡ true → str_to_ascii_lowercase xs ≡ xs
figures_lower [] e = refl
figures_lower (x ∷ xs) e =
    let both = and_parts (is_figure x) (list_all is_figure xs) e in
    let range = figure_range x both.0 in
    let same : to_ascii_lowercase x ≡ x = grind (arith, nat_tests) in
    ap (λ y. y ∷ str_to_ascii_lowercase xs) same ∙ ap (λ ys. x ∷ ys) (figures_lower xs both.1)

-- what the decimal of a byte is
record IsDecimal (n : ℕ) : Type 0 where
  some : is_nil (decimal n) ≡ false
  figures : list_all is_figure (decimal n) ≡ true
  number : number_of_part (decimal n) ≡ Some n

decimal_of : (n : ℕ) → n < 256 → IsDecimal n
unfolding decimal_test
decimal_of n h =
    let parts = and_parts (not (is_nil (decimal n))) _ (tested n h) in
    let more = and_parts (list_all is_figure (decimal n)) _ parts.1 in
    record { some = not-true (is_nil (decimal n)) parts.0; figures = more.0; number = number_from (number_of_part (decimal n)) n more.1 }

apart : (c : ℕ) → c < 48 → (x : ℕ) → 48 ≤ x → x ≤ 57 → eqb x c ≡ false
apart c h x low high = ne_eqb x c (λ e. omega arith)

above : (c : ℕ) → 57 < c → (x : ℕ) → 48 ≤ x → x ≤ 57 → eqb x c ≡ false
above c h x low high = ne_eqb x c (λ e. omega arith)

label : (n : ℕ) → n < 256 → IsLabel (decimal n)
label n h =
    let d = decimal_of n h in
    record {
      some = d.some;
      dotless = figures_lack is_dot (decimal n) (apart 46 (omega arith)) d.figures;
      no_port = figures_lack is_colon (decimal n) (above 58 (omega arith)) d.figures;
      lower = figures_lower (decimal n) d.figures;
    }

-- the four bytes of an address
abbrev bytes : ℕ → List (List ℕ)
bytes v = decimal (v / 16777216) ∷ decimal (v / 65536 % 256) ∷ decimal (v / 256 % 256) ∷ decimal (v % 256) ∷ []

text_is : (v : ℕ) → address_text v ≡ join_with_byte 46 (bytes v)
unfolding address_text
text_is v = refl

small : (v : ℕ) → v < 4294967296 → v / 16777216 < 256
small v h = omega arith

each_decimal : (Q : List ℕ → Type 0) (v : ℕ) → v < 4294967296 → ((n : ℕ) → n < 256 → Q (decimal n)) → AllByRecursion Q (bytes v)
each_decimal Q v h f = (f (v / 16777216) (small v h), (f (v / 65536 % 256) (omega arith), (f (v / 256 % 256) (omega arith), (f (v % 256) (omega arith), tt))))

pub name_of-address : (v : ℕ) → v < 4294967296 → name_before_port (address_text v) ≡ address_text v
name_of-address v h = ap name_before_port (text_is v) ∙ (name_of-join (bytes v) (each_decimal IsLabel v h label) ∙ sym (text_is v))

-- what neither a figure nor a dot is
pub Lacks-address : (q : ℕ → Bool) (v : ℕ) → v < 4294967296 → q 46 ≡ false → ((x : ℕ) → 48 ≤ x → x ≤ 57 → q x ≡ false) → Lacks q (address_text v)
Lacks-address q v h e none =
    ap (list_any q) (text_is v) ∙ Lacks-join q 46 (bytes v) e (each_decimal (Lacks q) v h (λ n k. figures_lack q (decimal n) none (decimal_of n k).figures))

pub plain-address : (v : ℕ) → v < 4294967296 → IsPlain (address_text v)
plain-address v h =
    ap has_escape (sym (append-nil (address_text v))) ∙ plain-after (address_text v) [] (Lacks-address (λ x. eqb x 37) v h refl (apart 37 (omega arith))) refl

stop : (n : ℕ) → n < 256 → stopped (number_of_part (decimal n)) ≡ Some n
stop n h = let least : min n 4294967296 ≡ n = omega arith in ap stopped (decimal_of n h).number ∙ ap Some least

value : (v : ℕ) → v / 16777216 * 256 ^ 3 + (v / 65536 % 256 * 256 ^ 2 + (v / 256 % 256 * 256 ^ 1 + v % 256)) ≡ v
value v =
    let second : v / 65536 ≡ v / 256 / 256 = omega arith in
    let first : v / 16777216 ≡ v / 256 / 256 / 256 = omega arith in
    omega arith

pub address_of-text : (v : ℕ) → v < 4294967296 → address_of (address_text v) ≡ Some v
unfolding address_of
address_of-text v h =
    let a = v / 16777216 in
    let b = v / 65536 % 256 in
    let c = v / 256 % 256 in
    let d = v % 256 in
    let parts : slice_split is_dot (address_text v) ≡ bytes v = ap (slice_split is_dot) (text_is v) ∙ split_join 46 (bytes v) (omega arith) (each_decimal (Lacks is_dot) v h (λ n k. (label n k).dotless)) in
    let last = address_in-last 1 0 (decimal d) d refl (omega arith) (stop d (omega arith)) (omega arith) in
    let third = address_in-more 2 1 (decimal c) (decimal d ∷ []) c d refl (omega arith) (stop c (omega arith)) (omega arith) last in
    let second = address_in-more 3 2 (decimal b) (decimal c ∷ decimal d ∷ []) b (c * 256 ^ 1 + d) refl (omega arith) (stop b (omega arith)) (omega arith) third in
    let first = address_in-more 4 3 (decimal a) (decimal b ∷ decimal c ∷ decimal d ∷ []) a (b * 256 ^ 2 + (c * 256 ^ 1 + d)) refl (omega arith) (stop a (small v h)) (small v h) second in
    ap (address_in 4) parts ∙ (first ∙ ap Some (value v))

-- an address fits its bytes

fits_last : (o : Option ℕ) (top v : ℕ) → option_and_then (λ m. cond (ltb m top) (Some m) None) o ≡ Some v → v < top
fits_last None top v e = absurd (cc)
fits_last (Some m) top v e =
    ⊎_elim (λ yes. let is : m ≡ v = (let f = sym (cond-true (ltb m top) (Some m) None yes) ∙ e in cc) in let inside = ltb-true m top yes in omega arith) (λ past. absurd (let f = sym (cond-false (ltb m top) (Some m) None past) ∙ e in cc)) (cases_Bool (ltb m top))

fits_more : (o low : Option ℕ) (w u v : ℕ) → w ≡ suc u → ((l : ℕ) → low ≡ Some l → l < 256 ^ u) → option_and_then (λ m. option_and_then (λ l. cond (ltb m 256) (Some (m * 256 ^ u + l)) None) low) o ≡ Some v → v < 256 ^ w
fits_more None low w u v e f h = absurd (cc)
fits_more (Some m) None w u v e f h = absurd (cc)
fits_more (Some m) (Some l) w u v e f h =
    ⊎_elim (λ yes. let is : m * 256 ^ u + l ≡ v = (let g = sym (cond-true (ltb m 256) (Some (m * 256 ^ u + l)) None yes) ∙ h in cc) in let below = joined_below w u m l e (ltb-true m 256 yes) (f l refl) in omega arith) (λ past. absurd (let g = sym (cond-false (ltb m 256) (Some (m * 256 ^ u + l)) None past) ∙ h in cc)) (cases_Bool (ltb m 256))

fits : (w : ℕ) (parts : List (List ℕ)) (v : ℕ) → address_in w parts ≡ Some v → v < 256 ^ w
fits zero parts v e = absurd (cc)
fits (suc w) [] v e = absurd (cc)
fits (suc w) (part ∷ []) v e = fits_last (number_of_part part) (256 ^ suc w) v e
fits (suc w) (part ∷ next ∷ parts) v e = fits_more (number_of_part part) (address_in w (next ∷ parts)) (suc w) w v refl (λ l k. fits w (next ∷ parts) l k) e

pub address_of-fits : (name : List ℕ) (v : ℕ) → address_of name ≡ Some v → v < 4294967296
unfolding address_of
address_of-fits name v e = fits 4 (slice_split is_dot name) v e

pub starts_small : (v : ℕ) → v < 4294967296 → is_nil (address_text v) ≡ false
starts_small v h = ap is_nil (text_is v) ∙ joined (decimal (v / 16777216)) (decimal_of (v / 16777216) (small v h)).some
  where
    joined : (d : List ℕ) → is_nil d ≡ false → is_nil (d ++ (46 ∷ join_with_byte 46 (decimal (v / 65536 % 256) ∷ decimal (v / 256 % 256) ∷ decimal (v % 256) ∷ []))) ≡ false
    joined [] e = refl
    joined (x ∷ d) e = refl
