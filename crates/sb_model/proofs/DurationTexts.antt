-- Texts of durations, read and written.
use Rattle.std.proofs.Common.{◌≡◌, ℕ, zero, suc, ◌+◌, ◌-◌, ◌*◌, ◌/◌, ◌%◌, ◌^◌, ◌<◌, ◌≤◌, List, [], ◌∷◌, ◌++◌, Bool, true, false, length, take, drop, get_or, refl, sym, ap, ◌∙◌, arith, cond, Option, Some, None, append_assoc, append-nil, nat_lt, nat_eq}
use Rattle.std.specs.Prelude.{not, ◌&&◌, nat_le, replicate, decimal, option_and_then, Ok}
use Rattle.std.specs.Option.{option_map}
use Rattle.std.specs.Char.{is_ascii_digit}
use Rattle.std.specs.Fmt.{digits}
use Rattle.std.specs.List.{list_all, position_or_len}
use Rattle.std.specs.Str.Parse.{AllDigits, digits_value}
use Rattle.std.proofs.Math.Seq.{take-append_seam, drop-append_seam, get_or-append_seam}
use Rattle.std.proofs.lemmas.Bool.{and_parts, eqb-true, ltb-true, ltb-false, leb-true}
use Rattle.std.proofs.lemmas.Bool.Decides.{nat_tests}
use Rattle.std.proofs.lemmas.Fmt.{digits_decimal, digits_value-decimal, length-decimal-le}
use Rattle.std.proofs.lemmas.List.{length-append, length-replicate, take_all, take_more, take-append-drop, drop_more}
use Rattle.std.proofs.lemmas.Str.Parse.{tells_digits, numerals_by_value, digit_from_value}
use Rattle.sb_model.specs.Time.{point, unit, is_point, fraction_text, WritesNanos, before_unit, at_point, number_in, seconds_in, fraction_in, nanos_of_parts, nanos_in, duration_within, duration_of, padded, nanos_text, duration_text, most_nanos}
use Rattle.sb_model.proofs.Numerals.{all_digits}

-- ---- digits

test_of_digits : (ds : List ℕ) → AllDigits 10 ds → list_all is_ascii_digit ds ≡ true
test_of_digits [] h = refl
test_of_digits (d ∷ ds) h =
    let range = digit_from_value d h.0 in
    let here : is_ascii_digit d ≡ true = grind (arith, nat_tests) in
    rw (here, test_of_digits ds h.1) refl

number_of_digits : (ds : List ℕ) → AllDigits 10 ds → number_in ds ≡ Some (digits_value 10 ds)
number_of_digits ds h = rw (test_of_digits ds h) refl

-- what a number was read of
record IsNumber (ds : List ℕ) (n : ℕ) : Type 0 where
  digits : AllDigits 10 ds
  value : digits_value 10 ds ≡ n

number_from : (ds : List ℕ) (n : ℕ) → number_in ds ≡ Some n → IsNumber ds n
number_from ds n h = go (list_all is_ascii_digit ds) refl h
  where
    go : (b : Bool) → list_all is_ascii_digit ds ≡ b → cond b (Some (digits_value 10 ds)) None ≡ Some n → IsNumber ds n
    go true e k = record { digits = all_digits ds e; value = cc }
    go false e k = absurd (cc)

-- no digit is a point
no_point : (ds rest : List ℕ) → AllDigits 10 ds → position_or_len is_point (ds ++ rest) ≡ length ds + position_or_len is_point rest
no_point [] rest h = omega arith
no_point (d ∷ ds) rest h =
    let range = digit_from_value d h.0 in
    let other : is_point d ≡ false = grind (arith, nat_tests) in
    rw other (omega (arith, no_point ds rest h.1))

-- ---- the parts of a text

below_test : (m n : ℕ) → m < n → nat_lt m n ≡ true
below_test m n h = grind (arith, nat_tests)

within_test : (m n : ℕ) → m ≤ n → nat_le m n ≡ true
within_test m n h = grind (arith, nat_tests)

not_below_test : (m n : ℕ) → n ≤ m → nat_lt m n ≡ false
not_below_test m n h = grind (arith, nat_tests)

-- the point that a fraction stands after
after_digits : (w f : List ℕ) → AllDigits 10 w → at_point (w ++ point ∷ f) ≡ (w, Some f)
after_digits w f h =
    let place : position_or_len is_point (w ++ point ∷ f) ≡ length w = no_point w (point ∷ f) h ∙ omega arith in
    let within : nat_lt (length w) (length (w ++ point ∷ f)) ≡ true = below_test _ _ (omega (arith, length-append w (point ∷ f))) in
    let past : drop (length w + 1) (w ++ point ∷ f) ≡ f
    = ap (λ n. drop n (w ++ point ∷ f)) (omega (arith, length-append w (point ∷ []))) ∙ ap (drop (length (w ++ point ∷ []))) (sym (append_assoc w (point ∷ []) f)) ∙ drop-append_seam (w ++ point ∷ []) f in
    rw (place, within, past, take-append_seam w (point ∷ f)) refl

without_point : (w : List ℕ) → AllDigits 10 w → at_point w ≡ (w, None)
without_point w h =
    let place : position_or_len is_point w ≡ length w = ap (position_or_len is_point) (sym (append-nil w)) ∙ no_point w [] h ∙ omega arith in
    let past : nat_lt (length w) (length w) ≡ false = not_below_test _ _ (omega arith) in
    rw (place, past, take_all (length w) w (omega arith)) refl

-- what stands before the `s`
before_last : (body : List ℕ) → before_unit (body ++ unit ∷ []) ≡ Some body
before_last body =
    let size : length (body ++ unit ∷ []) - 1 ≡ length body = omega (arith, length-append body (unit ∷ [])) in
    let last : get_or (body ++ unit ∷ []) (length body) 0 ≡ unit = get_or-append_seam body unit [] 0 in
    rw (size, last, take-append_seam body (unit ∷ [])) refl

-- ---- a text with such digits is read as they say

read_parts : (w f : List ℕ) → 0 < length w → length f ≤ 9 → AllDigits 10 w → AllDigits 10 f
    → nanos_of_parts (at_point (w ++ fraction_text f)) ≡ Some (digits_value 10 w * 1000000000 + digits_value 10 f * 10 ^ (9 - length f))
read_parts w [] some nine dw df =
    ap nanos_of_parts (ap at_point (append-nil w) ∙ without_point w dw) ∙ parts
  where
    parts : nanos_of_parts (w, None) ≡ Some (digits_value 10 w * 1000000000 + digits_value 10 [] * 10 ^ 9)
    parts = let here : nat_lt 0 (length w) ≡ true = below_test _ _ some in rw (here, test_of_digits w dw) refl
read_parts w (d ∷ ds) some nine dw df =
    let here : nat_lt 0 (length w) ≡ true = below_test _ _ some in
    let there : nat_lt 0 (length (d ∷ ds)) ≡ true = below_test _ _ (omega arith) in
    let few : nat_le (length (d ∷ ds)) 9 ≡ true = within_test _ _ nine in
    let parts : nanos_of_parts (w, Some (d ∷ ds)) ≡ Some (digits_value 10 w * 1000000000 + digits_value 10 (d ∷ ds) * 10 ^ (9 - length (d ∷ ds)))
    = rw (here, there, few, test_of_digits w dw, test_of_digits (d ∷ ds) df) refl in
    ap nanos_of_parts (after_digits w (d ∷ ds) dw) ∙ parts

pub reads_nanos : (text : List ℕ) (nanos : ℕ) → WritesNanos text nanos → nanos_in text ≡ Some nanos
reads_nanos text nanos h =
    ap nanos_in h.form
    ∙ ap (option_and_then (λ body. nanos_of_parts (at_point body))) (before_last (h.whole ++ fraction_text h.fraction))
    ∙ read_parts h.whole h.fraction h.some h.nine h.whole_digits h.fraction_digits
    ∙ ap Some (sym h.value)

-- ---- a text that is read has such digits

ends_somewhere : (text : List ℕ) (i : ℕ) → get_or text i 0 ≡ unit → 0 < length text
ends_somewhere [] i h = absurd (omega (arith, h))
ends_somewhere (b ∷ bs) i h = omega arith

-- a text whose last byte is `s`
ends_so : (text body : List ℕ) → before_unit text ≡ Some body → text ≡ body ++ unit ∷ []
ends_so text body h = go (nat_eq (get_or text (length text - 1) 0) unit) refl h
  where
    go : (b : Bool) → nat_eq (get_or text (length text - 1) 0) unit ≡ b → cond b (Some (take (length text - 1) text)) None ≡ Some body → text ≡ body ++ unit ∷ []
    go false e k = absurd (cc)
    go true e k =
        let last : get_or text (length text - 1) 0 ≡ unit = eqb-true _ _ e in
        let some : 0 < length text = ends_somewhere text (length text - 1) last in
        let front : take (length text - 1) text ≡ body = cc in
        sym (take_all (length text - 1 + 1) text (omega (arith, some)))
        ∙ take_more text (length text - 1) 0 (omega (arith, some))
        ∙ ap (λ bs. bs ++ get_or text (length text - 1) 0 ∷ []) front
        ∙ ap (λ b. body ++ b ∷ []) last

-- the first point is one
found_point : (xs : List ℕ) → position_or_len is_point xs < length xs → get_or xs (position_or_len is_point xs) 0 ≡ point
found_point [] h = absurd (omega arith)
found_point (x ∷ xs) h = go (is_point x) refl h (found_point xs)
  where
    go : (b : Bool) → is_point x ≡ b → cond (not b) (1 + position_or_len is_point xs) 0 < length (x ∷ xs)
        → (position_or_len is_point xs < length xs → get_or xs (position_or_len is_point xs) 0 ≡ point)
        → get_or (x ∷ xs) (cond (not b) (1 + position_or_len is_point xs) 0) 0 ≡ point
    go true e l later = eqb-true _ _ e
    go false e l later =
        let next : 1 + position_or_len is_point xs ≡ suc (position_or_len is_point xs) = omega arith in
        ap (λ n. get_or (x ∷ xs) n 0) next ∙ later (omega (arith, l))

-- the text is what stands before and after the point
joined : (body f : List ℕ) → (at_point body).1 ≡ Some f → body ≡ (at_point body).0 ++ point ∷ f
joined body f h = go (nat_lt (position_or_len is_point body) (length body)) refl h
  where
    go : (b : Bool) → nat_lt (position_or_len is_point body) (length body) ≡ b
        → option_map (λ place. drop (place + 1) body) (cond b (Some (position_or_len is_point body)) None) ≡ Some f
        → body ≡ take (position_or_len is_point body) body ++ point ∷ f
    go false e k = absurd (cc)
    go true e k =
        let within : position_or_len is_point body < length body = ltb-true _ _ e in
        let rest : drop (position_or_len is_point body + 1) body ≡ f = cc in
        sym (take-append-drop (position_or_len is_point body) body)
        ∙ ap (λ bs. take (position_or_len is_point body) body ++ bs) (drop_more body (position_or_len is_point body) 0 within)
        ∙ ap (λ b. take (position_or_len is_point body) body ++ b ∷ drop (position_or_len is_point body + 1) body) (found_point body within)
        ∙ ap (λ bs. take (position_or_len is_point body) body ++ point ∷ bs) rest

alone : (body : List ℕ) → (at_point body).1 ≡ None → body ≡ (at_point body).0
alone body h = go (nat_lt (position_or_len is_point body) (length body)) refl h
  where
    go : (b : Bool) → nat_lt (position_or_len is_point body) (length body) ≡ b
        → option_map (λ place. drop (place + 1) body) (cond b (Some (position_or_len is_point body)) None) ≡ None
        → body ≡ take (position_or_len is_point body) body
    go true e k = absurd (cc)
    go false e k = sym (take_all (position_or_len is_point body) body (ltb-false _ _ e))

record IsSeconds (ds : List ℕ) (n : ℕ) : Type 0 where
  some : 0 < length ds
  number : IsNumber ds n

seconds_from : (ds : List ℕ) (n : ℕ) → seconds_in ds ≡ Some n → IsSeconds ds n
seconds_from ds n h = go (nat_lt 0 (length ds)) refl h
  where
    go : (b : Bool) → nat_lt 0 (length ds) ≡ b → cond b (number_in ds) None ≡ Some n → IsSeconds ds n
    go true e k = record { some = ltb-true _ _ e; number = number_from ds n k }
    go false e k = absurd (cc)

-- the digits of a fraction, none where there is no point
digits_of : Option (List ℕ) → List ℕ
digits_of None = []
digits_of (Some ds) = ds

record IsFraction (f : Option (List ℕ)) (ds : List ℕ) (n : ℕ) : Type 0 where
  nine : length ds ≤ 9
  digits : AllDigits 10 ds
  value : n ≡ digits_value 10 ds * 10 ^ (9 - length ds)
  text : (body : List ℕ) → (at_point body).1 ≡ f → body ≡ (at_point body).0 ++ fraction_text ds

point_before : (ds : List ℕ) → 0 < length ds → fraction_text ds ≡ point ∷ ds
point_before [] h = absurd (omega arith)
point_before (d ∷ ds) h = refl

scaled_from : (ds : List ℕ) (n : ℕ) → option_map (λ number. number * 10 ^ (9 - length ds)) (number_in ds) ≡ Some n → (m : ℕ) × IsNumber ds m × (n ≡ m * 10 ^ (9 - length ds))
scaled_from ds n h = go (number_in ds) refl h
  where
    go : (o : Option ℕ) → number_in ds ≡ o → option_map (λ number. number * 10 ^ (9 - length ds)) o ≡ Some n → (m : ℕ) × IsNumber ds m × (n ≡ m * 10 ^ (9 - length ds))
    go None e k = absurd (cc)
    go (Some m) e k = (m, number_from ds m e, cc)

fraction_from : (f : Option (List ℕ)) (n : ℕ) → fraction_in f ≡ Some n → (ds : List ℕ) × IsFraction f ds n
fraction_from None n h = ([], record { nine = omega arith; digits = tt; value = cc; text = λ body k. alone body k ∙ sym (append-nil _) })
fraction_from (Some ds) n h = go (nat_lt 0 (length ds) && nat_le (length ds) 9) refl h
  where
    go : (b : Bool) → (nat_lt 0 (length ds) && nat_le (length ds) 9) ≡ b
        → cond b (option_map (λ number. number * 10 ^ (9 - length ds)) (number_in ds)) None ≡ Some n → (ds' : List ℕ) × IsFraction (Some ds) ds' n
    go false e k = absurd (cc)
    go true e k =
        let both = and_parts _ _ e in
        let found = scaled_from ds n k in (
          ds,
          record {
            nine = leb-true _ _ both.1;
            digits = found.1.digits;
            value = found.2 ∙ ap (λ m. m * 10 ^ (9 - length ds)) (sym found.1.value);
            text = λ body k. joined body ds k ∙ ap (λ bs. (at_point body).0 ++ bs) (sym (point_before ds (ltb-true _ _ both.0)));
          },
        )

record AreParts (w : List ℕ) (f : Option (List ℕ)) (nanos : ℕ) : Type 0 where
  seconds : ℕ
  fraction : ℕ
  first : seconds_in w ≡ Some seconds
  second : fraction_in f ≡ Some fraction
  sum : nanos ≡ seconds * 1000000000 + fraction

parts_from : (w : List ℕ) (f : Option (List ℕ)) (nanos : ℕ) → nanos_of_parts (w, f) ≡ Some nanos → AreParts w f nanos
parts_from w f nanos h = go (seconds_in w) (fraction_in f) refl refl h
  where
    go : (s g : Option ℕ) → seconds_in w ≡ s → fraction_in f ≡ g
        → option_and_then (λ seconds. option_map (λ fraction. seconds * 1000000000 + fraction) g) s ≡ Some nanos → AreParts w f nanos
    go None g e d k = absurd (cc)
    go (Some s) None e d k = absurd (cc)
    go (Some s) (Some g) e d k = record { seconds = s; fraction = g; first = e; second = d; sum = cc }

of_body : (text body : List ℕ) (nanos : ℕ) → text ≡ body ++ unit ∷ [] → nanos_of_parts (at_point body) ≡ Some nanos → WritesNanos text nanos
of_body text body nanos last h =
    let parts = parts_from (at_point body).0 (at_point body).1 nanos h in
    let seconds = seconds_from (at_point body).0 parts.seconds parts.first in
    let fraction = fraction_from (at_point body).1 parts.fraction parts.second in
    record {
      whole = (at_point body).0;
      fraction = fraction.0;
      some = seconds.some;
      nine = fraction.1.nine;
      whole_digits = seconds.number.digits;
      fraction_digits = fraction.1.digits;
      form = last ∙ ap (λ bs. bs ++ unit ∷ []) (fraction.1.text body refl);
      value = parts.sum ∙ ap (λ n. n * 1000000000 + parts.fraction) (sym seconds.number.value) ∙ ap (λ n. digits_value 10 (at_point body).0 * 1000000000 + n) fraction.1.value;
    }

pub writes_nanos : (text : List ℕ) (nanos : ℕ) → nanos_in text ≡ Some nanos → WritesNanos text nanos
writes_nanos text nanos h = go (before_unit text) refl h
  where
    go : (o : Option (List ℕ)) → before_unit text ≡ o → option_and_then (λ body. nanos_of_parts (at_point body)) o ≡ Some nanos → WritesNanos text nanos
    go None e k = absurd (cc)
    go (Some body) e k = of_body text body nanos (ends_so text body e) k

-- ---- what is written is read again

decimal_digits : (n : ℕ) → n < 2 ^ 64 → AllDigits 10 (decimal n)
decimal_digits n h = digits_decimal (numerals_by_value (AllDigits 10) tells_digits) n h

decimal_value : (n : ℕ) → n < 2 ^ 64 → digits_value 10 (decimal n) ≡ n
decimal_value n h = digits_value-decimal (numerals_by_value (AllDigits 10) tells_digits) n h

decimal_some : (n : ℕ) → n < 2 ^ 64 → 0 < length (decimal n)
unfolding digits
decimal_some n h = go (decimal n) refl (decimal_value n h)
  where
    go : (ds : List ℕ) → decimal n ≡ ds → digits_value 10 ds ≡ n → 0 < length (decimal n)
    go (d ∷ ds) e v = rw e (omega arith)
    go [] e v = let nothing : decimal 0 ≡ [] = ap decimal v ∙ e in absurd (cc)

zeros_digits : (k : ℕ) (ds : List ℕ) → AllDigits 10 ds → AllDigits 10 (replicate k 48 ++ ds)
zeros_digits zero ds h = h
zeros_digits (suc k) ds h = (omega arith, zeros_digits k ds h)

zeros_value : (k : ℕ) (ds : List ℕ) → digits_value 10 (replicate k 48 ++ ds) ≡ digits_value 10 ds
zeros_value zero ds = refl
zeros_value (suc k) ds = zeros_value k ds

-- so many digits of a number that has no more
record IsPadded (size n : ℕ) : Type 0 where
  digits : AllDigits 10 (padded size n)
  filled : length (padded size n) ≡ size
  value : digits_value 10 (padded size n) ≡ n

padded_is : (size n : ℕ) → n < 2 ^ 64 → length (decimal n) ≤ size → IsPadded size n
padded_is size n h few =
    record {
      digits = zeros_digits (size - length (decimal n)) (decimal n) (decimal_digits n h);
      filled = omega (arith, few, length-append (replicate (size - length (decimal n)) 48) (decimal n), length-replicate {A = ℕ} (size - length (decimal n)) 48);
      value = zeros_value (size - length (decimal n)) (decimal n) ∙ decimal_value n h;
    }

-- the digits that are written of nanoseconds
record WritesFraction (nanos : ℕ) : Type 0 where
  ds : List ℕ
  nine : length ds ≤ 9
  digits : AllDigits 10 ds
  value : digits_value 10 ds * 10 ^ (9 - length ds) ≡ nanos
  text : nanos_text nanos ≡ fraction_text ds

fraction_is : (size scale number nanos : ℕ) → 0 < size → size ≤ 9 → scale ≡ 10 ^ (9 - size) → number * scale ≡ nanos → number < 2 ^ 64 → length (decimal number) ≤ size
    → nanos_text nanos ≡ point ∷ padded size number → WritesFraction nanos
fraction_is size scale number nanos some nine is value small few text =
    let p = padded_is size number small few in
    record {
      ds = padded size number;
      nine = omega (arith, p.filled, nine);
      digits = p.digits;
      value = ap (λ n. digits_value 10 (padded size number) * 10 ^ (9 - n)) p.filled ∙ ap (λ n. n * 10 ^ (9 - size)) p.value ∙ ap (λ n. number * n) (sym is) ∙ value;
      text = text ∙ sym (point_before (padded size number) (omega (arith, p.filled, some)));
    }

writes_fraction : (nanos : ℕ) → nanos < 1000000000 → WritesFraction nanos
writes_fraction nanos h = none (nat_eq nanos 0) refl
  where
    nine_digits : nat_eq nanos 0 ≡ false → nat_eq (nanos % 1000000) 0 ≡ false → nat_eq (nanos % 1000) 0 ≡ false → WritesFraction nanos
    nine_digits e d k =
        fraction_is 9 1 nanos nanos (omega arith) (omega arith) refl (omega arith) (omega (arith, h)) (length-decimal-le 9 nanos (omega arith) h (omega (arith, h)))
        (rw (e, d, k) refl)

    six : (b : Bool) → nat_eq nanos 0 ≡ false → nat_eq (nanos % 1000000) 0 ≡ false → nat_eq (nanos % 1000) 0 ≡ b → WritesFraction nanos
    six false e d k = nine_digits e d k
    six true e d k =
        fraction_is 6 1000 (nanos / 1000) nanos (omega arith) (omega arith) refl (omega (arith, eqb-true _ _ k)) (omega (arith, h))
        (length-decimal-le 6 (nanos / 1000) (omega arith) (omega (arith, h)) (omega (arith, h)))
        (rw (e, d, k) refl)

    three : (b : Bool) → nat_eq nanos 0 ≡ false → nat_eq (nanos % 1000000) 0 ≡ b → WritesFraction nanos
    three false e d = six (nat_eq (nanos % 1000) 0) e d refl
    three true e d =
        fraction_is 3 1000000 (nanos / 1000000) nanos (omega arith) (omega arith) refl (omega (arith, eqb-true _ _ d)) (omega (arith, h))
        (length-decimal-le 3 (nanos / 1000000) (omega arith) (omega (arith, h)) (omega (arith, h)))
        (rw (e, d) refl)

    none : (b : Bool) → nat_eq nanos 0 ≡ b → WritesFraction nanos
    none false e = three (nat_eq (nanos % 1000000) 0) e refl
    none true e = record { ds = []; nine = omega arith; digits = tt; value = omega (arith, eqb-true _ _ e); text = rw e refl }

pub written_nanos : (duration : ℕ) → duration ≤ most_nanos → WritesNanos (duration_text duration) duration
written_nanos duration h =
    let f = writes_fraction (duration % 1000000000) (omega arith) in
    record {
      whole = decimal (duration / 1000000000);
      fraction = f.ds;
      some = decimal_some (duration / 1000000000) (omega (arith, h));
      nine = f.nine;
      whole_digits = decimal_digits (duration / 1000000000) (omega (arith, h));
      fraction_digits = f.digits;
      form = ap (λ bs. decimal (duration / 1000000000) ++ bs ++ unit ∷ []) f.text;
      value =
          let seconds = decimal_value (duration / 1000000000) (omega (arith, h)) in
          let parts : duration ≡ duration / 1000000000 * 1000000000 + duration % 1000000000 = omega arith in
          parts
          ∙ ap (λ n. n * 1000000000 + duration % 1000000000) (sym seconds)
          ∙ ap (λ n. digits_value 10 (decimal (duration / 1000000000)) * 1000000000 + n) (sym f.value);
    }

pub written_again : (duration : ℕ) → duration ≤ most_nanos → duration_of (duration_text duration) ≡ Ok duration
written_again duration h =
    ap duration_within (reads_nanos (duration_text duration) duration (written_nanos duration h))
    ∙ (let within : nat_le duration most_nanos ≡ true = within_test _ _ h in rw within refl)
