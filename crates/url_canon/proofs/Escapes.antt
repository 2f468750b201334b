-- Escaped texts: which bytes stand in them, and that they unescape to what they were.
use Rattle.std.proofs.Common.{◌≡◌, ℕ, suc, get_or, ◌+◌, ◌*◌, ◌/◌, ◌%◌, ◌<◌, ◌≤◌, List, [], ◌∷◌, ◌++◌, Bool, true, false, ◌&&◌, ◌||◌, eqb, ltb, leb, refl, sym, ap, subst, ◌∙◌, arith}
use Rattle.std.specs.List.{list_any, flat_map}
use Rattle.std.specs.Char.{digit_value}
use Rattle.std.proofs.lemmas.Bool.{leb-false, lt-leb, and_parts, cond_both, cond-false, ne_eqb, eqb-true, or_from, or_parts, agree_below_at, false≢true}
use Rattle.std.proofs.lemmas.Grind.{flat_map-append}
use Rattle.url_canon.specs.Unescaping.{is_hex, spelled, with_byte, unescaped}
use Rattle.url_canon.specs.Escaping.{hex_digit, is_unsafe, escape_of, escaped}
use Rattle.url_canon.proofs.Unescapes.{unescaped-escape}

hex_digit-ge : (value : ℕ) → 48 ≤ hex_digit value
hex_digit-ge value = cond_both (ltb value 10) (48 + value) (55 + value) (λ d. 48 ≤ d) (λ e. omega arith) (λ e. omega arith)

-- a byte that stays as it is, and is no byte of an escape
pub record IsPlainByte (byte : ℕ) : Type 0 where
  pub safe : is_unsafe byte ≡ false
  pub below : byte < 48
  pub apart : (byte ≡ 37) → ⊥

any-escape_of : (p b : ℕ) → IsPlainByte p → list_any (λ x. eqb x p) (escape_of b) ≡ eqb b p
any-escape_of p b h =
    cond_both (is_unsafe b) (37 ∷ hex_digit (b / 16) ∷ hex_digit (b % 16) ∷ []) (b ∷ []) (λ bytes. list_any (λ x. eqb x p) bytes ≡ eqb b p)
    (λ e. or_from (eqb 37 p) _ (ne_eqb 37 p (λ f. h.apart (sym f))) (or_from (eqb (hex_digit (b / 16)) p) _ (high p (b / 16) h) (or_from (eqb (hex_digit (b % 16)) p) false (high p (b % 16) h) refl)) ∙ sym (ne_eqb b p (λ f. false≢true (sym h.safe ∙ subst (λ x. is_unsafe x ≡ true) f e))))
    (λ e. elim (eqb b p) as (λ r. (r || false) ≡ r) [ true ↦ refl | false ↦ refl ])
  where
    high : (p v : ℕ) → IsPlainByte p → eqb (hex_digit v) p ≡ false
    high p v h = let at_least = hex_digit-ge v in let under = h.below in ne_eqb (hex_digit v) p (λ f. omega arith)

pub any-append : {X : Type 0} (p : X → Bool) (xs ys : List X) → list_any p (xs ++ ys) ≡ (list_any p xs || list_any p ys)
any-append p [] ys = refl
any-append p (x ∷ xs) ys =
    ap (λ r. p x || r) (any-append p xs ys) ∙ or_assoc (p x) (list_any p xs) (list_any p ys)
  where
    or_assoc : (a b c : Bool) → (a || (b || c)) ≡ ((a || b) || c)
    or_assoc true b c = refl
    or_assoc false b c = refl

-- such a byte stands in an escaped text where it stands in the text
pub any-escaped : (p : ℕ) (text : List ℕ) → IsPlainByte p → list_any (λ x. eqb x p) (escaped text) ≡ list_any (λ x. eqb x p) text
unfolding escaped
any-escaped p [] h = refl
any-escaped p (b ∷ text) h =
    any-append (λ x. eqb x p) (escape_of b) (flat_map escape_of text) ∙ (ap (λ r. r || list_any (λ x. eqb x p) (flat_map escape_of text)) (any-escape_of p b h) ∙ ap (λ r. eqb b p || r) (any-escaped p text h))

-- a byte that no escaped text has
pub none-escaped : (p : ℕ) (text : List ℕ) → p < 48 → is_unsafe p ≡ true → (p ≡ 37 → ⊥) → list_any (λ x. eqb x p) (escaped text) ≡ false
unfolding escaped
none-escaped p [] under unsafe apart = refl
none-escaped p (b ∷ text) under unsafe apart =
    any-append (λ x. eqb x p) (escape_of b) (flat_map escape_of text) ∙ or_from _ _ here (none-escaped p text under unsafe apart)
  where
    high : (v : ℕ) → eqb (hex_digit v) p ≡ false
    high v = let at_least = hex_digit-ge v in ne_eqb (hex_digit v) p (λ f. omega arith)

    here : list_any (λ x. eqb x p) (escape_of b) ≡ false
    here = cond_both (is_unsafe b) (37 ∷ hex_digit (b / 16) ∷ hex_digit (b % 16) ∷ []) (b ∷ []) (λ bytes. list_any (λ x. eqb x p) bytes ≡ false)
        (λ e. or_from (eqb 37 p) _ (ne_eqb 37 p (λ f. apart (sym f))) (or_from (eqb (hex_digit (b / 16)) p) _ (high (b / 16)) (or_from (eqb (hex_digit (b % 16)) p) false (high (b % 16)) refl)))
        (λ e. or_from (eqb b p) false (ne_eqb b p (λ f. false≢true (sym (subst (λ x. is_unsafe x ≡ false) f e) ∙ unsafe))) refl)

-- the digits of a byte

digits_agree : ℕ → Bool
digits_agree v = is_hex (hex_digit v) && eqb (digit_value (hex_digit v)) v

digit_is : (v : ℕ) → v < 16 → (is_hex (hex_digit v) ≡ true) × (digit_value (hex_digit v) ≡ v)
unfolding digits_agree
digit_is v h =
    let both = and_parts (is_hex (hex_digit v)) (eqb (digit_value (hex_digit v)) v) (agree_below_at digits_agree (λ _. true) 16 v refl h) in
    (both.0, eqb-true (digit_value (hex_digit v)) v both.1)

abbrev pub is_wide : ℕ → Bool
is_wide b = leb 256 b

-- the bytes of a text are bytes
abbrev pub AreBytes : List ℕ → Type 0
AreBytes text = list_any is_wide text ≡ false

pub AreBytes-from : (text : List ℕ) → ((i : ℕ) → get_or text i 0 < 256) → AreBytes text
AreBytes-from [] h = refl
AreBytes-from (b ∷ text) h =
    let small = h 0 in or_from (is_wide b) (list_any is_wide text) (lt-leb 256 b small) (AreBytes-from text (λ i. h (suc i)))

unescaped-escape_of : (b : ℕ) (text : List ℕ) → b < 256 → unescaped (escape_of b ++ text) ≡ with_byte b (unescaped text)
unfolding unescaped
unescaped-escape_of b text small =
    let high = digit_is (b / 16) (omega arith) in
    let low = digit_is (b % 16) (omega arith) in
    let whole : spelled (hex_digit (b / 16)) (hex_digit (b % 16)) ≡ b = ap (λ v. 16 * v + digit_value (hex_digit (b % 16))) high.1 ∙ (ap (λ v. 16 * (b / 16) + v) low.1 ∙ omega arith) in
    cond_both (is_unsafe b) (37 ∷ hex_digit (b / 16) ∷ hex_digit (b % 16) ∷ []) (b ∷ []) (λ bytes. unescaped (bytes ++ text) ≡ with_byte b (unescaped text))
    (λ _. unescaped-escape (hex_digit (b / 16)) (hex_digit (b % 16)) text high.0 low.0 ∙ ap (λ v. with_byte v (unescaped text)) whole)
    (λ _. refl)

-- an escaped text unescapes to what the text unescapes to
pub unescaped-escaped : (text : List ℕ) → AreBytes text → unescaped (escaped text) ≡ unescaped text
unfolding escaped unescaped
unescaped-escaped [] h = refl
unescaped-escaped (b ∷ text) h =
    let parts = or_parts (is_wide b) (list_any is_wide text) h in
    unescaped-escape_of b (flat_map escape_of text) (leb-false 256 b parts.0) ∙ ap (with_byte b) (unescaped-escaped text parts.1)

-- a text of plain bytes is its own escaped text
pub escaped_safe : (text : List ℕ) → list_any is_unsafe text ≡ false → escaped text ≡ text
unfolding escaped
escaped_safe [] e = refl
escaped_safe (b ∷ text) e =
    let parts = or_parts (is_unsafe b) (list_any is_unsafe text) e in
    ap (λ bytes. bytes ++ flat_map escape_of text) (cond-false (is_unsafe b) (37 ∷ hex_digit (b / 16) ∷ hex_digit (b % 16) ∷ []) (b ∷ []) parts.0) ∙ ap (λ r. b ∷ r) (escaped_safe text parts.1)

pub escaped-append : (xs ys : List ℕ) → escaped (xs ++ ys) ≡ escaped xs ++ escaped ys
unfolding escaped
escaped-append xs ys = flat_map-append escape_of xs ys
