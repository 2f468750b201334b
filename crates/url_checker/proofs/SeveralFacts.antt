-- One find for the open hits of several findings.
use Rattle.std.proofs.Common.{◌≡◌, ℕ, zero, suc, ◌+◌, ◌<◌, ◌≤◌, List, [], ◌∷◌, ◌++◌, length, take, get_or, map, Result, refl, sym, ap, ◌∙◌, subst, arith, inl, inr}
use Rattle.std.specs.Prelude.{◌↔◌, ◌⊎◌, All, Contains}
use Rattle.std.proofs.lemmas.Grind.{flat_map-append}
use Rattle.std.proofs.lemmas.List.{append-nil, map-append, take_more}
use Rattle.std.proofs.lemmas.List.Elements.{All-contains, All-map, Contains-append_cases, Contains-append_left, Contains-append_right}
use Rattle.sb_model.specs.Prefixes.{IsRising, set_of}
use Rattle.sb_model.specs.declared.time.Moment.{Moment}
use Rattle.full_hash_cache.specs.Cache.{Pairs}
use Rattle.hash_messages.specs.Messages.{most_prefixes}
use Rattle.hash_messages.specs.declared.response.FindResponse.{FindResponse}
use Rattle.verdict_report.specs.declared.verdicts.Cause.{Cause}
use Rattle.verdict_report.specs.declared.verdicts.Verdict.{Verdict}
use Rattle.url_checker.specs.Hits.{prefixes_hit}
use Rattle.url_checker.specs.Looking.{unsafe_in}
use Rattle.url_checker.specs.Resolving.{open_cause, find_asked, lists_hit, message_in, unsafe_lists, verdict_by, verdict_from}
use Rattle.url_checker.specs.Several.{all_asked, prefixes_of_first, AreTogether, IsLookOf}
use Rattle.url_checker.specs.declared.findings.Hit.{Hit}
use Rattle.url_checker.specs.declared.looking.Looked.{Looked}
use Rattle.url_checker.specs.declared.looking.Looks.{Looks}
use Rattle.url_checker.specs.declared.several.Together.{Together}
use Rattle.url_checker.proofs.LookFacts.{unsafe_are}

-- ---- sets of prefixes

-- the prefixes of hits as they stand
abbrev pub prefixes_in : List Hit → List (List ℕ)
prefixes_in hits = map (λ (hit : Hit). hit.prefix) hits

-- a set that has each prefix of some hits is the set of both
pub joined_has : ((xs : List (List ℕ)) → IsRising (set_of xs)) → ((xs : List (List ℕ)) (x : List ℕ) → Contains (set_of xs) x ↔ Contains xs x)
    → ((xs ys : List (List ℕ)) → IsRising xs → IsRising ys → ((x : List ℕ) → Contains xs x ↔ Contains ys x) → xs ≡ ys)
    → (set : List (List ℕ)) (hits : List Hit) → IsRising set → All (λ (hit : Hit). Contains set hit.prefix) hits → set ≡ set_of (set ++ prefixes_in hits)
joined_has rising members only set hits rises all =
    only set (set_of (set ++ prefixes_in hits)) rises (rising (set ++ prefixes_in hits)) (λ x. (
      λ has. (members (set ++ prefixes_in hits) x).1 (Contains-append_left set (prefixes_in hits) x has),
      λ has. either x (Contains-append_cases set (prefixes_in hits) x ((members (set ++ prefixes_in hits) x).0 has)),
    ))
  where
    either : (x : List ℕ) → Contains set x ⊎ Contains (prefixes_in hits) x → Contains set x
    either x (inl has) = has
    either x (inr has) = All-contains (Contains set) (prefixes_in hits) x (All-map (Contains set) (λ (hit : Hit). hit.prefix) hits all) has

-- the set of a set and more is the set of all
set_again : ((xs : List (List ℕ)) (x : List ℕ) → Contains (set_of xs) x ↔ Contains xs x)
    → ((xs ys : List (List ℕ)) → ((x : List ℕ) → Contains xs x ↔ Contains ys x) → set_of xs ≡ set_of ys)
    → (xs ys : List (List ℕ)) → set_of (set_of xs ++ ys) ≡ set_of (xs ++ ys)
set_again members same xs ys = same (set_of xs ++ ys) (xs ++ ys) (λ x. (
  λ has. one x (Contains-append_cases (set_of xs) ys x has),
  λ has. other x (Contains-append_cases xs ys x has),
))
  where
    one : (x : List ℕ) → Contains (set_of xs) x ⊎ Contains ys x → Contains (xs ++ ys) x
    one x (inl has) = Contains-append_left xs ys x ((members xs x).0 has)
    one x (inr has) = Contains-append_right xs ys x has

    other : (x : List ℕ) → Contains xs x ⊎ Contains ys x → Contains (set_of xs ++ ys) x
    other x (inl has) = Contains-append_left (set_of xs) ys x ((members xs x).1 has)
    other x (inr has) = Contains-append_right (set_of xs) ys x has

-- ---- one more look

pub asked_more : (looks : List Looks) (count : ℕ) (look : Looks) → count < length looks → look ≡ get_or looks count look
    → all_asked (take (count + 1) looks) ≡ all_asked (take count looks) ++ look.asked
asked_more looks count look below is =
    ap all_asked (take_more looks count look below) ∙ flat_map-append (λ (one : Looks). one.asked) (take count looks) (get_or looks count look ∷ [])
    ∙ ap (λ (last : List Hit). all_asked (take count looks) ++ last) (append-nil (get_or looks count look).asked ∙ ap (λ (one : Looks). one.asked) (sym is))

pub prefixes_more : ((xs : List (List ℕ)) (x : List ℕ) → Contains (set_of xs) x ↔ Contains xs x)
    → ((xs ys : List (List ℕ)) → ((x : List ℕ) → Contains xs x ↔ Contains ys x) → set_of xs ≡ set_of ys)
    → (looks : List Looks) (count : ℕ) (look : Looks) (hits : List Hit) (set more : List (List ℕ)) → count < length looks → look ≡ get_or looks count look → hits ≡ look.asked
    → set ≡ prefixes_hit (all_asked (take count looks)) → more ≡ set_of (set ++ prefixes_in hits) → more ≡ prefixes_hit (all_asked (take (count + 1) looks))
prefixes_more members same looks count look hits set more below is own before made =
    made ∙ ap (λ (s : List (List ℕ)). set_of (s ++ prefixes_in hits)) before
    ∙ set_again members same (prefixes_in (all_asked (take count looks))) (prefixes_in hits)
    ∙ ap set_of (sym (map-append (λ (hit : Hit). hit.prefix) (all_asked (take count looks)) hits))
    ∙ ap (λ (last : List Hit). prefixes_hit (all_asked (take count looks) ++ last)) own
    ∙ ap prefixes_hit (sym (asked_more looks count look below is))

-- ---- the law

pub one_is_its_case : (states : List (List ℕ)) (look : Looks) → find_asked states (all_asked (look ∷ [])) ≡ find_asked states look.asked
one_is_its_case states look = ap (find_asked states) (append-nil look.asked)

pub takes_the_first : (looks : List Looks) (look : Looks) (together : Together) → length (prefixes_hit look.asked) ≤ most_prefixes → AreTogether (look ∷ looks) together → 0 < together.count
takes_the_first looks look together few are = go together.count refl
  where
    go : (count : ℕ) → together.count ≡ count → 0 < together.count
    go zero is =
        let past : most_prefixes < prefixes_of_first (together.count + 1) (look ∷ looks) = are.most (omega (arith, is)) in
        let at : prefixes_of_first (together.count + 1) (look ∷ looks) ≡ length (prefixes_hit look.asked) =
        ap (λ (k : ℕ). prefixes_of_first (k + 1) (look ∷ looks)) is ∙ ap (λ (hits : List Hit). length (prefixes_hit hits)) (append-nil look.asked) in
        absurd (omega (arith, past, at, few))
    go (suc count) is = omega (arith, is)

-- ---- what it says of a look

pub verdict_of_look : (pairs : Pairs) (now : Moment) (hits : List Hit) (look : Looks) (answer : Result FindResponse Cause) (verdict : Verdict) → IsLookOf pairs now hits look
    → verdict ≡ verdict_from (lists_hit (unsafe_in (message_in answer) look.looked)) (open_cause answer look.asked) → verdict ≡ verdict_by pairs now answer hits
verdict_of_look pairs now hits look answer verdict is made =
    made ∙ ap (λ (looked : List Looked). verdict_from (lists_hit (unsafe_in (message_in answer) looked)) (open_cause answer look.asked)) is.looked
    ∙ ap (λ (bad : List Hit). verdict_from (lists_hit bad) (open_cause answer look.asked)) (unsafe_are pairs now (message_in answer) hits)
    ∙ ap (λ (open_ones : List Hit). verdict_from (unsafe_lists pairs now (message_in answer) hits) (open_cause answer open_ones)) is.asked
