-- The text of a request has one body.
use Rattle.std.proofs.Common.{◌≡◌, ◌⊎◌, ℕ, zero, suc, ◌+◌, ◌/◌, ◌%◌, ◌<◌, ◌≤◌, List, [], ◌∷◌, ◌++◌, Bool, true, false, cond, length, refl, sym, ap, ◌∙◌, inl, inr, arith, length-append}
use Rattle.std.specs.Prelude.{◌==◌, codes, decimal, encode_utf8_all}
use Rattle.std.specs.Fmt.{digits, digits_onto, digit_glyph}
use Rattle.std.proofs.lemmas.Bool.{cases_lt, eqb-true}
use Rattle.std.proofs.lemmas.List.{append_cancel_left}
use Rattle.sb_outside.specs.declared.links.Kind.{Kind}
use Rattle.http_edge.specs.Exchanges.{path_of_kind, query_of, request_head, request_text}
use Rattle.http_edge.specs.Responses.{line}
use Rattle.http_edge.specs.declared.messages.Target.{Target}

-- ---- a greater number has no fewer digits

abbrev last : ℕ → List ℕ → List ℕ
last n acc = digit_glyph false (n % 10) ∷ acc

chosen : (b : Bool) (least : ℕ) (some more : List ℕ) → (b ≡ true → least ≤ length some) → (b ≡ false → least ≤ length more)
    → least ≤ length (cond b some more)
chosen true least some more h g = h refl
chosen false least some more h g = g refl

not_shorter : (k n : ℕ) (acc : List ℕ) → length acc ≤ length (digits_onto k 10 false n acc)
not_shorter zero n acc = omega arith
not_shorter (suc k) n acc =
    chosen (n / 10 == 0) (length acc) (last n acc) (digits_onto k 10 false (n / 10) (last n acc)) (λ e. omega arith)
    (λ e. omega (arith, not_shorter k (n / 10) (last n acc)))

one_digit : (k n : ℕ) (acc : List ℕ) → length acc + 1 ≤ length (digits_onto (suc k) 10 false n acc)
one_digit k n acc =
    chosen (n / 10 == 0) (length acc + 1) (last n acc) (digits_onto k 10 false (n / 10) (last n acc)) (λ e. omega arith)
    (λ e. omega (arith, not_shorter k (n / 10) (last n acc)))

below : (b : Bool) (most : ℕ) (some more : List ℕ) → (b ≡ true → length some ≤ most) → (b ≡ false → length more ≤ most) → length (cond b some more) ≤ most
below true most some more h g = h refl
below false most some more h g = g refl

no_fewer : (k m n : ℕ) (acc bcc : List ℕ) → m ≤ n → length acc ≤ length bcc → length (digits_onto k 10 false m acc) ≤ length (digits_onto k 10 false n bcc)
no_fewer zero m n acc bcc h g = g
no_fewer (suc k) m n acc bcc h g =
    below (m / 10 == 0) (length (digits_onto (suc k) 10 false n bcc)) (last m acc) (digits_onto k 10 false (m / 10) (last m acc))
    (λ e. omega (arith, one_digit k n bcc, g))
    (λ e. chosen (n / 10 == 0) (length (digits_onto k 10 false (m / 10) (last m acc))) (last n bcc) (digits_onto k 10 false (n / 10) (last n bcc))
    (λ f. let none : n / 10 ≡ 0 = eqb-true (n / 10) 0 f in let few : m / 10 ≡ 0 = omega (arith, none, h) in absurd (differ (m / 10) few e))
    (λ f. no_fewer k (m / 10) (n / 10) (last m acc) (last n bcc) (omega (arith, h)) (omega (arith, g))))
  where
    differ : (q : ℕ) → q ≡ 0 → (q == 0) ≡ false → ⊥
    differ q is e = grind (arith, is, e)

digits_rise : (m n : ℕ) → m ≤ n → length (decimal m) ≤ length (decimal n)
unfolding digits
digits_rise m n h = no_fewer 64 m n [] [] h (omega arith)

-- ---- one body

head_length : (target : Target) (kind : Kind) (a b : List ℕ)
    → length (request_head target kind a) + length (decimal (length b)) ≡ length (request_head target kind b) + length (decimal (length a))
unfolding line
head_length target kind a b = around (decimal (length a)) (decimal (length b))
  where
    first : List ℕ
    first = line (codes "POST " ++ (path_of_kind kind ++ query_of target.key ++ codes " HTTP/1.1"))

    around : (d e : List ℕ)
        → length (first ++ line (codes "Host: " ++ encode_utf8_all target.host) ++ line (codes "Content-Type: application/json") ++ line (codes "Content-Length: " ++ d) ++ line (codes "Connection: close") ++ line []) + length e
        ≡ length (first ++ line (codes "Host: " ++ encode_utf8_all target.host) ++ line (codes "Content-Type: application/json") ++ line (codes "Content-Length: " ++ e) ++ line (codes "Connection: close") ++ line []) + length d
    around d e = grind (arith, length-append)

same_length : (target : Target) (kind : Kind) (a b : List ℕ) → request_text target kind a ≡ request_text target kind b → length a ≡ length b
same_length target kind a b same =
    let heads = head_length target kind a b in
    let whole : length (request_head target kind a) + length a ≡ length (request_head target kind b) + length b =
    sym (length-append (request_head target kind a) a) ∙ ap length same ∙ length-append (request_head target kind b) b in
    by_cases (cases_lt (length a) (length b)) (cases_lt (length b) (length a)) heads whole
  where
    by_cases : (length a < length b) ⊎ (length b ≤ length a) → (length b < length a) ⊎ (length a ≤ length b)
        → length (request_head target kind a) + length (decimal (length b)) ≡ length (request_head target kind b) + length (decimal (length a))
        → length (request_head target kind a) + length a ≡ length (request_head target kind b) + length b → length a ≡ length b
    by_cases (inl less) other heads whole = absurd (omega (arith, heads, whole, less, digits_rise (length a) (length b) (omega (arith, less))))
    by_cases (inr first) (inl less) heads whole = absurd (omega (arith, heads, whole, less, digits_rise (length b) (length a) (omega (arith, less))))
    by_cases (inr first) (inr next) heads whole = omega (arith, first, next)

head_with : Target → Kind → ℕ → List ℕ
head_with target kind size =
    line (codes "POST " ++ (path_of_kind kind ++ query_of target.key ++ codes " HTTP/1.1"))
    ++ line (codes "Host: " ++ encode_utf8_all target.host)
    ++ line (codes "Content-Type: application/json")
    ++ line (codes "Content-Length: " ++ decimal size)
    ++ line (codes "Connection: close")
    ++ line []

pub one_asked : (target : Target) (kind : Kind) (a b : List ℕ) → request_text target kind a ≡ request_text target kind b → a ≡ b
unfolding head_with
one_asked target kind a b same =
    let size = same_length target kind a b same in
    append_cancel_left (request_head target kind b) a b (ap (λ n. head_with target kind n ++ a) (sym size) ∙ same)
