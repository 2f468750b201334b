-- A text that is unescaped in its place, from its end to its front.
use Rattle.std.proofs.Common.{◌≡◌, ℕ, ◌+◌, ◌*◌, ◌-◌, ◌<◌, ◌≤◌, List, [], ◌∷◌, ◌++◌, Bool, true, eqb, length, get_or, take, drop, set, refl, sym, ap, ◌∙◌, arith, length-drop}
use Rattle.std.specs.Char.{digit_value}
use Rattle.std.specs.List.{list_any}
use Rattle.std.proofs.lemmas.Bool.{or_parts}
use Rattle.std.proofs.lemmas.List.{drop_more, drop-set, drop-drop, take-set-le, take_rest, take-take, get_or-take, length-set, take_all, take-append-le}
use Rattle.url_canon.specs.Unescaping.{is_hex, with_byte, unescaped}
use Rattle.url_canon.proofs.Splits.{Lacks}
use Rattle.url_canon.proofs.Unescapes.{with_byte-other, with_byte_escape}

abbrev pub is_percent : ℕ → Bool
is_percent byte = eqb byte 37

-- two digits at the front are spelled
pub spells : (text : List ℕ) (high low : ℕ) → 2 ≤ length text → is_hex (get_or text 0 0) ≡ true → high ≡ digit_value (get_or text 0 0) → is_hex (get_or text 1 0) ≡ true → low ≡ digit_value (get_or text 1 0) → with_byte 37 text ≡ with_byte (16 * high + low) (drop 2 text)
spells [] high low long h e l f = absurd (omega arith)
spells (x ∷ []) high low long h e l f = absurd (omega arith)
spells (x ∷ y ∷ rest) high low long h e l f =
    with_byte_escape x y rest h l ∙ (ap (λ v. with_byte (16 * v + digit_value y) rest) (sym e) ∙ ap (λ v. with_byte (16 * high + v) rest) (sym f))

-- what has no `%` stays in front
pub unescaped-front : (xs ys : List ℕ) → Lacks is_percent xs → unescaped (xs ++ ys) ≡ xs ++ unescaped ys
unfolding unescaped
unescaped-front [] ys h = refl
unescaped-front (x ∷ xs) ys h =
    let parts = or_parts (is_percent x) (list_any is_percent xs) h in
    ap (with_byte x) (unescaped-front xs ys parts.1) ∙ with_byte-other x (xs ++ unescaped ys) parts.0

pub unescaped-same : (xs : List ℕ) → Lacks is_percent xs → unescaped xs ≡ xs
unfolding unescaped
unescaped-same [] h = refl
unescaped-same (x ∷ xs) h =
    let parts = or_parts (is_percent x) (list_any is_percent xs) h in
    ap (with_byte x) (unescaped-same xs parts.1) ∙ with_byte-other x xs parts.0

-- one byte more of the text, from its end
unescaped_more : (text : List ℕ) (i : ℕ) → 0 < i → i ≤ length text → unescaped (drop (i - 1) text) ≡ with_byte (get_or text (i - 1) 0) (unescaped (drop i text))
unfolding unescaped
unescaped_more text i some within =
    let back : (i - 1) + 1 ≡ i = omega arith in
    ap unescaped (drop_more text (i - 1) 0 (omega arith)) ∙ ap (λ k. with_byte (get_or text (i - 1) 0) (unescaped (drop k text))) back

front_same : (xs ys : List ℕ) (n : ℕ) → 0 < n → n ≤ length xs → length xs ≡ length ys → take n xs ≡ take n ys → (take (n - 1) xs ≡ take (n - 1) ys) × (get_or xs (n - 1) 0 ≡ get_or ys (n - 1) 0)
front_same xs ys n some within len e =
    let one_less : (zs : List ℕ) → take (n - 1) (take n zs) ≡ take (n - 1) zs = λ zs. take-take (n - 1) n zs (omega arith) in
    let at : (zs : List ℕ) → get_or (take n zs) (n - 1) 0 ≡ get_or zs (n - 1) 0 = λ zs. get_or-take n zs (n - 1) 0 (omega arith) in
    (sym (one_less xs) ∙ (ap (λ r. take (n - 1) r) e ∙ one_less ys), sym (at xs) ∙ (ap (λ r. get_or r (n - 1) 0) e ∙ at ys))

pub record Turned (text bytes : List ℕ) (place top : ℕ) : Type 0 where
  pub order : place ≤ top
  pub within : top ≤ length bytes
  pub front : take place bytes ≡ take place text
  pub value : drop top bytes ≡ unescaped (drop place text)

pub turn : (text bytes : List ℕ) (place top front taken : ℕ) → 0 < place → length bytes ≡ length text → Turned text bytes place top
    → taken ≤ length (take (length bytes - top) (drop top bytes))
    → with_byte (get_or bytes (place - 1) 0) (take (length bytes - top) (drop top bytes)) ≡ front ∷ drop taken (take (length bytes - top) (drop top bytes))
    → Turned text (set bytes (top + taken - 1) front) (place - 1) (top + taken - 1)
turn text bytes place top front taken some len before few step =
    let order = before.order in
    let within = before.within in
    let rest = take_rest bytes top in
    let room : taken ≤ length bytes - top = omega (arith, few, ap (λ r. length r) rest, length-drop top bytes) in
    let at : ℕ = top + taken - 1 in
    let same = front_same bytes text place some (omega arith) len before.front in
    let next : at + 1 ≡ top + taken = omega arith in
    record {
      order = omega arith;
      within = omega (arith, length-set bytes at front);
      front = take-set-le (place - 1) bytes at front (omega arith) ∙ same.0;
      value = drop-set bytes at front (omega arith)
          ∙ (ap (λ k. front ∷ drop k bytes) next
          ∙ (ap (λ r. front ∷ r) (sym (drop-drop taken top bytes))
          ∙ (sym (ap (with_byte (get_or bytes (place - 1) 0)) (sym rest) ∙ (step ∙ ap (λ r. front ∷ drop taken r) rest))
          ∙ (ap (λ b. with_byte b (drop top bytes)) same.1 ∙ (ap (with_byte (get_or text (place - 1) 0)) before.value ∙ sym (unescaped_more text place some (omega arith)))))));
    }

-- a vector whose slice was written to holds what the slice holds
pub written_back : (new old : List ℕ) (n : ℕ) → length new ≡ length old → n ≡ length old → take n (new ++ drop (length new) old) ≡ new
written_back new old n same len = take-append-le n new (drop (length new) old) (omega arith) ∙ take_all n new (omega arith)

-- two digits more are spelled
pub spelled_turn : (text : List ℕ) (byte front taken value : ℕ) → front ≡ 37 → taken ≤ length text → with_byte front (drop taken text) ≡ with_byte byte text
    → 2 ≤ length (take (length text - taken) (drop taken text)) → with_byte 37 (take (length text - taken) (drop taken text)) ≡ with_byte value (drop 2 (take (length text - taken) (drop taken text)))
    → (taken + 2 ≤ length text) × (with_byte value (drop (taken + 2) text) ≡ with_byte byte text)
spelled_turn text byte front taken value percent within so_far long step =
    let rest = take_rest text taken in (
      omega (arith, long, ap (λ r. length r) rest, length-drop taken text),
      sym (ap (with_byte 37) (sym rest) ∙ (step ∙ (ap (λ r. with_byte value (drop 2 r)) rest ∙ ap (with_byte value) (drop-drop 2 taken text)))) ∙ (ap (λ b. with_byte b (drop taken text)) (sym percent) ∙ so_far),
    )
