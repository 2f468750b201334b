-- The values under a name, field by field, and the number that digits write, digit by digit.
use Rattle.std.proofs.Common.{◌≡◌, ℕ, ◌+◌, ◌*◌, ◌-◌, ◌<◌, min, List, [], ◌∷◌, ◌++◌, length, map, take, drop, get_or, suc, true, cond, Option, Some, None, refl, sym, ap, ◌∙◌, arith, length-append}
use Rattle.std.specs.Prelude.{is_some}
use Rattle.std.specs.Option.{option_copied, option_to_list}
use Rattle.std.specs.List.{cons_option, list_all}
use Rattle.std.specs.Char.{is_ascii_digit, digit_value}
use Rattle.std.specs.Str.Parse.{digits_value, digits_value_after}
use Rattle.std.proofs.lemmas.Grind.{common_steps}
use Rattle.std.proofs.lemmas.List.{map_more, take_more, map-append}
use Rattle.std.proofs.Math.Seq.{split_at}
use Rattle.std.proofs.lemmas.List.Sums.{AllPass-from_list_all}
use Rattle.std.proofs.lemmas.List.Elements.{filter_map-append}
use denote.Ref.{Bor}
use Rattle.httparse.specs.Spans.{header_bytes}
use Rattle.httparse.specs.declared.spans.HeaderSpan.{HeaderSpan}
use Rattle.http_edge.specs.Fields.{value_if_named, values_in, values_at, capped}

-- the values of one field more
pub values_more : (buffer : List ℕ) (fields : List HeaderSpan) (name : List ℕ) (i : ℕ) (d : HeaderSpan) → i < length fields
    → values_at buffer (take (i + 1) fields) name
    ≡ values_at buffer (take i fields) name ++ option_to_list (value_if_named name (header_bytes buffer (get_or fields i d)))
values_more buffer fields name i d less =
    ap (values_in name) (map_more (header_bytes buffer) fields i d less)
    ∙ filter_map-append (value_if_named name) (map (header_bytes buffer) (take i fields)) (header_bytes buffer (get_or fields i d) ∷ [])
    ∙ ap (λ last. values_at buffer (take i fields) name ++ last) (single (value_if_named name (header_bytes buffer (get_or fields i d))))
  where
    single : (value : Option (List ℕ)) → cons_option value [] ≡ option_to_list value
    single None = refl
    single (Some value) = refl

digits_after-push : (n : ℕ) (digits : List ℕ) (digit : ℕ) → digits_value_after 10 n (digits ++ digit ∷ []) ≡ digits_value_after 10 n digits * 10 + digit_value digit
digits_after-push n [] digit = refl
digits_after-push n (first ∷ digits) digit = digits_after-push (n * 10 + digit_value first) digits digit

capped_more : (n d : ℕ) → min (min (capped n * 10) 18446744073709551615 + d) 18446744073709551615 ≡ capped (n * 10 + d)
capped_more n d = omega arith

digit_of : (digit : ℕ) → is_ascii_digit digit ≡ true → digit_value digit ≡ digit - 48
digit_of digit is = grind (arith, common_steps)

list_all_each : (digits : List ℕ) (i : ℕ) → i < length digits → list_all is_ascii_digit digits ≡ true → is_ascii_digit (get_or digits i 0) ≡ true
list_all_each digits i less each =
    AllPass-from_list_all is_ascii_digit digits each i 0 less

-- the number of one digit more
pub number_more : (digits : List ℕ) (i number : ℕ) → i < length digits → list_all is_ascii_digit digits ≡ true
    → number ≡ capped (digits_value 10 (take i digits))
    → min (min (number * 10) 18446744073709551615 + (get_or digits i 0 - 48)) 18446744073709551615 ≡ capped (digits_value 10 (take (i + 1) digits))
number_more digits i number less each is =
    let one = digits_after-push 0 (take i digits) (get_or digits i 0) in
    let value = digit_of (get_or digits i 0) (list_all_each digits i less each) in
    rw is (capped_more (digits_value 10 (take i digits)) (get_or digits i 0 - 48)
    ∙ ap capped (sym (ap (digits_value 10) (take_more digits i 0 less) ∙ one ∙ ap (λ d. digits_value 10 (take i digits) * 10 + d) value)))

-- a name that is not found is not among the fields so far
pub none_more : (buffer : List ℕ) (fields : List HeaderSpan) (name : List ℕ) (i : ℕ) (d : HeaderSpan) (found : Option (Bor (List ℕ))) → i < length fields
    → values_at buffer (take i fields) name ≡ [] → option_copied found ≡ value_if_named name (header_bytes buffer (get_or fields i d)) → found ≡ None
    → values_at buffer (take (i + 1) fields) name ≡ []
none_more buffer fields name i d found less none is not =
    values_more buffer fields name i d less
    ∙ ap (λ values. values ++ option_to_list (value_if_named name (header_bytes buffer (get_or fields i d)))) none
    ∙ ap option_to_list (sym is ∙ ap option_copied not)

-- the values of all fields, from one on
pub values_from : (buffer : List ℕ) (fields : List HeaderSpan) (name : List ℕ) (i : ℕ) (d : HeaderSpan) → i < length fields
    → values_at buffer fields name
    ≡ values_at buffer (take i fields) name ++ cons_option (value_if_named name (header_bytes buffer (get_or fields i d))) (values_at buffer (drop (suc i) fields) name)
values_from buffer fields name i d less =
    ap (λ all. values_at buffer all name) (split_at fields i d less)
    ∙ ap (values_in name) (map-append (header_bytes buffer) (take i fields) (get_or fields i d ∷ drop (suc i) fields))
    ∙ filter_map-append (value_if_named name) (map (header_bytes buffer) (take i fields)) (map (header_bytes buffer) (get_or fields i d ∷ drop (suc i) fields))

pub first_found : (buffer : List ℕ) (fields : List HeaderSpan) (name : List ℕ) (i : ℕ) (d : HeaderSpan) (found : Option (Bor (List ℕ))) (value : Bor (List ℕ))
    → i < length fields
    → values_at buffer (take i fields) name ≡ [] → option_copied found ≡ value_if_named name (header_bytes buffer (get_or fields i d)) → found ≡ Some value
    → (values : List (List ℕ)) × (values_at buffer fields name ≡ value.now ∷ values)
first_found buffer fields name i d found value less none is some = (
  values_at buffer (drop (suc i) fields) name,
  values_from buffer fields name i d less
      ∙ ap (λ values. values ++ cons_option (value_if_named name (header_bytes buffer (get_or fields i d))) (values_at buffer (drop (suc i) fields) name)) none
      ∙ ap (λ first. cons_option first (values_at buffer (drop (suc i) fields) name)) (sym is ∙ ap option_copied some),
)

count_one : (value : Option (List ℕ)) (found : Option (Bor (List ℕ))) → option_copied found ≡ value → length (option_to_list value) ≡ cond (is_some found) 1 0
count_one value None is = sym (ap (λ v. length (option_to_list v)) is)
count_one value (Some found) is = sym (ap (λ v. length (option_to_list v)) is)

-- one field more is counted where it has the name
pub count_more : (buffer : List ℕ) (fields : List HeaderSpan) (name : List ℕ) (i : ℕ) (d : HeaderSpan) (found : Option (Bor (List ℕ))) → i < length fields
    → option_copied found ≡ value_if_named name (header_bytes buffer (get_or fields i d))
    → length (values_at buffer (take (i + 1) fields) name) ≡ length (values_at buffer (take i fields) name) + cond (is_some found) 1 0
count_more buffer fields name i d found less is =
    ap length (values_more buffer fields name i d less)
    ∙ length-append (values_at buffer (take i fields) name) (option_to_list (value_if_named name (header_bytes buffer (get_or fields i d))))
    ∙ ap (λ n. length (values_at buffer (take i fields) name) + n) (count_one (value_if_named name (header_bytes buffer (get_or fields i d))) found is)
