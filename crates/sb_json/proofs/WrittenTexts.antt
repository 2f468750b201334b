-- What the text of a written value counts.
use Rattle.std.proofs.Common.{◌≡◌, ◌≢◌, ℕ, ◌+◌, ◌/◌, ◌%◌, ◌≤◌, List, [], ◌∷◌, ◌++◌, length, Bool, true, false, cond, eqb, ltb, ◌||◌, refl, sym, ap, subst, ◌∙◌, arith, zero, suc}
use Rattle.std.specs.List.{filter}
use Rattle.std.specs.Char.{digit_char}
use Rattle.std.specs.Fmt.{decimal, digits, digits_onto, digit_glyph, signed_decimal}
use Rattle.std.specs.Prelude.{ℤ, pos, negsuc}
use Rattle.std.proofs.lemmas.Bool.{ne_eqb, lt-ltb, ltb-true, ltb-false, false≢true}
use Rattle.json.specs.Print.{quoted, escape, escape_byte, escape_letter}
use Rattle.serde_json.specs.Data.{unsigned, negative, float, Data, null, boolean, number, string, array, object, Items, no_items, item, Members, no_members, member}
use Rattle.serde_json.specs.Written.{has_float, items_have_float, members_have_float, comma_if, compact_text, items_text, members_text}
use Rattle.sb_json.specs.Counts.{openings_in, openings_in_items, openings_in_members, if_later, values_in, values_in_items, values_in_members}
use Rattle.sb_json.specs.Density.{Place, Outside, Inside, place_after, place_behind, outside_from, is_opening, is_value_sign}
use Rattle.sb_json.proofs.Densities.{Skips, Skips-append, counted, counted_both, behind_both, one_counted, not_quote, plain_at}

-- a text that begins and ends outside of strings counts so many openings and values
pub record Counts (text : List ℕ) (m n : ℕ) : Type 0 where
  pub behind : place_behind Outside text ≡ Outside
  pub openings : counted is_opening Outside text ≡ m
  pub values : counted is_value_sign Outside text ≡ n

Counts-append : (xs ys : List ℕ) (a b c d : ℕ) → Counts xs a b → Counts ys c d → Counts (xs ++ ys) (a + c) (b + d)
Counts-append xs ys a b c d h g = record {
  behind = behind_both Outside Outside xs ys h.behind ∙ g.behind;
  openings = counted_both is_opening Outside Outside xs ys c h.behind g.openings ∙ ap (λ (n : ℕ). n + c) h.openings;
  values = counted_both is_value_sign Outside Outside xs ys d h.behind g.values ∙ ap (λ (n : ℕ). n + d) h.values;
}

Counts-same : (text : List ℕ) (a b c d : ℕ) → Counts text a b → a ≡ c → b ≡ d → Counts text c d
Counts-same text a b c d h e f = record { behind = h.behind; openings = h.openings ∙ e; values = h.values ∙ f }

nothing : Counts [] 0 0
nothing = record { behind = refl; openings = refl; values = refl }

either : (b : Bool) (xs ys : List ℕ) → Counts xs 0 0 → Counts ys 0 0 → Counts (cond b xs ys) 0 0
either true xs ys h g = h
either false xs ys h g = g

-- ---- numbers

neither : (a b : Bool) → a ≡ false → b ≡ false → (a || b) ≡ false
neither a b h g = ap (λ (t : Bool). t || b) h ∙ g

digit : (x : ℕ) → 48 ≤ x → x ≤ 57 → Counts (x ∷ []) 0 0
digit x low high =
    let opens : is_opening x ≡ false = neither (eqb x 91) (eqb x 123) (ne_eqb x 91 (λ e. omega (arith, e, high))) (ne_eqb x 123 (λ e. omega (arith, e, high))) in
    let signs : is_value_sign x ≡ false = neither (eqb x 44 || eqb x 58) (is_opening x) (neither (eqb x 44) (eqb x 58) (ne_eqb x 44 (λ e. omega (arith, e, low))) (ne_eqb x 58 (λ e. omega (arith, e, high)))) opens in
    record {
      behind = not_quote x (ne_eqb x 34 (λ e. omega (arith, e, low)));
      openings = one_counted (is_opening x) x ∙ ap (λ (b : Bool). cond b 1 0) opens;
      values = one_counted (is_value_sign x) x ∙ ap (λ (b : Bool). cond b 1 0) signs;
    }

glyph : (n : ℕ) → digit_glyph false (n % 10) ≡ 48 + n % 10
glyph n = ap (λ (b : Bool). cond b (48 + n % 10) (87 + n % 10)) (lt-ltb (n % 10) 10 (omega arith))

last_digit : (n : ℕ) → Counts (digit_glyph false (n % 10) ∷ []) 0 0
last_digit n = subst (λ (x : ℕ). Counts (x ∷ []) 0 0) (sym (glyph n)) (digit (48 + n % 10) (omega arith) (omega arith))

digits_count : (k n : ℕ) (front : List ℕ) → Counts front 0 0 → Counts (digits_onto k 10 false n front) 0 0
digits_count zero n front h = h
digits_count (suc k) n front h =
    let next : Counts (digit_glyph false (n % 10) ∷ front) 0 0 = Counts-append (digit_glyph false (n % 10) ∷ []) front 0 0 0 0 (last_digit n) h in
    either (eqb (n / 10) 0) (digit_glyph false (n % 10) ∷ front) (digits_onto k 10 false (n / 10) (digit_glyph false (n % 10) ∷ front)) next (digits_count k (n / 10) (digit_glyph false (n % 10) ∷ front) next)

decimal_counts : (n : ℕ) → Counts (decimal n) 0 0
unfolding digits
decimal_counts n = digits_count 64 n [] nothing

signed_counts : (z : ℤ) → Counts (signed_decimal z) 0 0
signed_counts (pos n) = decimal_counts n
signed_counts (negsuc n) =
    Counts-append (45 ∷ []) (decimal (suc n)) 0 0 0 0 (record { behind = refl; openings = refl; values = refl }) (decimal_counts (suc n))

-- ---- strings

digit_char_stays : (n : ℕ) → place_after Inside (digit_char n) ≡ Inside
digit_char_stays n = at (ltb n 10) refl
  where
    inside : (x : ℕ) → 48 ≤ x → x ≢ 92 → place_after Inside x ≡ Inside
    inside x low other = plain_at (eqb x 34) (eqb x 92) (neither (eqb x 34) (eqb x 92) (ne_eqb x 34 (λ e. omega (arith, e, low))) (ne_eqb x 92 other))

    at : (b : Bool) → ltb n 10 ≡ b → place_after Inside (cond b (48 + n) (87 + n)) ≡ Inside
    at true e = inside (48 + n) (omega arith) (λ is. omega (arith, is, ltb-true n 10 e))
    at false e = inside (87 + n) (omega arith) (λ is. omega (arith, is, ltb-false n 10 e))

hex_escape : (a b : ℕ) → place_after Inside a ≡ Inside → place_after Inside b ≡ Inside → Skips Inside (92 ∷ 117 ∷ 48 ∷ 48 ∷ a ∷ b ∷ []) Inside
hex_escape a b h g = (ap (λ (p : Place). outside_from p (b ∷ [])) h, ap (λ (p : Place). place_after p b) h ∙ g)

-- a byte with no escape of one letter
stays_at : (x rest : ℕ) (b : Bool) → (eqb x 34 || eqb x 92) ≡ b → ltb 0 (cond b x rest) ≡ false → place_after Inside x ≡ Inside
stays_at x rest true e h =
    let zero : x ≡ 0 = omega (arith, ltb-false 0 x h) in
    absurd (false≢true (ap (λ (y : ℕ). eqb y 34 || eqb y 92) (sym zero) ∙ e))
stays_at x rest false e h = plain_at (eqb x 34) (eqb x 92) e

escape_at : (x : ℕ) (b c : Bool) → (b ≡ false → place_after Inside x ≡ Inside)
    → Skips Inside (cond b (92 ∷ escape_letter x ∷ []) (cond c (92 ∷ 117 ∷ 48 ∷ 48 ∷ digit_char (x / 16) ∷ digit_char (x % 16) ∷ []) (x ∷ []))) Inside
escape_at x true c h = (refl, refl)
escape_at x false true h = hex_escape (digit_char (x / 16)) (digit_char (x % 16)) (digit_char_stays (x / 16)) (digit_char_stays (x % 16))
escape_at x false false h = (refl, h refl)

escape_byte_skips : (x : ℕ) → Skips Inside (escape_byte x) Inside
unfolding escape_byte
escape_byte_skips x = escape_at x (ltb 0 (escape_letter x)) (ltb x 32) (λ e. stays_at x _ (eqb x 34 || eqb x 92) refl e)

escape_skips : (text : List ℕ) → Skips Inside (escape text) Inside
escape_skips [] = (refl, refl)
escape_skips (x ∷ xs) = Skips-append Inside Inside Inside (escape_byte x) (escape xs) (escape_byte_skips x) (escape_skips xs)

quoted_counts : (text : List ℕ) → Counts (quoted text) 0 0
quoted_counts text =
    let inner : Skips Inside (escape text ++ 34 ∷ []) Outside = Skips-append Inside Inside Outside (escape text) (34 ∷ []) (escape_skips text) (refl, refl) in
    record {
      behind = inner.1;
      openings = ap (λ (l : List ℕ). length (filter is_opening l)) inner.0;
      values = ap (λ (l : List ℕ). length (filter is_value_sign l)) inner.0;
    }

-- ---- values

none_of : (a b : Bool) → (a || b) ≡ false → (a ≡ false) × (b ≡ false)
none_of true b h = absurd (false≢true (sym h))
none_of false b h = (refl, h)

boolean_counts : (b : Bool) → Counts (compact_text (boolean b)) 0 0
boolean_counts true = record { behind = refl; openings = refl; values = refl }
boolean_counts false = record { behind = refl; openings = refl; values = refl }

comma_counts : (later : Bool) → Counts (comma_if later) 0 (if_later later)
comma_counts true = record { behind = refl; openings = refl; values = refl }
comma_counts false = nothing

mutual
  pub value_counts : (d : Data) → has_float d ≡ false → Counts (compact_text d) (openings_in d) (values_in d)
  value_counts null h = record { behind = refl; openings = refl; values = refl }
  value_counts (boolean b) h = boolean_counts b
  value_counts (number (unsigned n)) h = decimal_counts n
  value_counts (number (negative z)) h = signed_counts z
  value_counts (number (float x)) h = absurd (false≢true (sym h))
  value_counts (string s) h = quoted_counts s
  value_counts (array ds) h =
      Counts-append (91 ∷ []) (items_text false ds) 1 1 (openings_in_items ds) (values_in_items false ds) (record { behind = refl; openings = refl; values = refl }) (items_count false ds h)
  value_counts (object ms) h =
      Counts-append (123 ∷ []) (members_text false ms) 1 1 (openings_in_members ms) (values_in_members false ms) (record { behind = refl; openings = refl; values = refl }) (members_count false ms h)

  items_count : (later : Bool) (ds : Items) → items_have_float ds ≡ false → Counts (items_text later ds) (openings_in_items ds) (values_in_items later ds)
  items_count later no_items h = record { behind = refl; openings = refl; values = refl }
  items_count later (item d ds) h =
      let both = none_of (has_float d) (items_have_float ds) h in
      let o = openings_in d in
      let os = openings_in_items ds in
      let v = values_in d in
      let vs = values_in_items true ds in
      let rest = Counts-append (compact_text d) (items_text true ds) o v os vs (value_counts d both.0) (items_count true ds both.1) in
      let all = Counts-append (comma_if later) (compact_text d ++ items_text true ds) 0 (if_later later) (o + os) (v + vs) (comma_counts later) rest in
      Counts-same (items_text later (item d ds)) (0 + (o + os)) (if_later later + (v + vs)) (o + os) (if_later later + v + vs) all (omega arith) (omega arith)

  members_count : (later : Bool) (ms : Members) → members_have_float ms ≡ false → Counts (members_text later ms) (openings_in_members ms) (values_in_members later ms)
  members_count later no_members h = record { behind = refl; openings = refl; values = refl }
  members_count later (member k d ms) h =
      let both = none_of (has_float d) (members_have_float ms) h in
      let o = openings_in d in
      let os = openings_in_members ms in
      let v = values_in d in
      let vs = values_in_members true ms in
      let rest = compact_text d ++ members_text true ms in
      let value = Counts-append (compact_text d) (members_text true ms) o v os vs (value_counts d both.0) (members_count true ms both.1) in
      let colon = Counts-append (58 ∷ []) rest 0 1 (o + os) (v + vs) (record { behind = refl; openings = refl; values = refl }) value in
      let keyed = Counts-append (quoted k) (58 ∷ rest) 0 0 (0 + (o + os)) (1 + (v + vs)) (quoted_counts k) colon in
      let all = Counts-append (comma_if later) (quoted k ++ 58 ∷ rest) 0 (if_later later) (0 + (0 + (o + os))) (0 + (1 + (v + vs))) (comma_counts later) keyed in
      Counts-same (members_text later (member k d ms)) (0 + (0 + (0 + (o + os)))) (if_later later + (0 + (1 + (v + vs)))) (o + os) (if_later later + 1 + v + vs) all (omega arith) (omega arith)
