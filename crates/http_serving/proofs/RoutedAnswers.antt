-- A request has one answer by a table of routes, where it has one by each.
use Rattle.std.proofs.Common.{◌≡◌, inl, inr, ℕ, List, [], get_or, Bool, true, false, Some, None, sym, ap, ◌∙◌, subst, arith}
use Rattle.std.specs.Prelude.{slice_get, position}
use Rattle.std.proofs.lemmas.Bool.{and_parts}
use Rattle.std.proofs.lemmas.List.Quantifiers.{position-Some}
use Rattle.std.proofs.lemmas.List.Sums.{fails_before_first}
use Rattle.http_edge.specs.Responses.{allow_line}
use Rattle.http_edge.specs.declared.messages.Allow.{Allow}
use Rattle.http_edge.specs.declared.messages.Allow.TheVariants.{Get}
use Rattle.http_edge.specs.declared.messages.HttpRequest.{HttpRequest}
use Rattle.http_edge.specs.declared.messages.ResponseFields.{ResponseFields}
use Rattle.http_edge.specs.declared.messages.Status.{Status}
use Rattle.http_edge.specs.declared.messages.Status.TheVariants.{NotFound}
use Rattle.http_serving.proofs.Parts.{none_long}
use Rattle.http_serving.specs.Law.{AsksForOneThing, HasOneAnswer}
use Rattle.http_serving.specs.Routes.{Route, AsksAt, HasOtherMethod, HasNoRoute, RoutedAnswer, has_path, takes}
use Rattle.http_serving.specs.declared.forms.Form.TheVariants.{Plain}

some_of : {A : Type 0} (a b : A) → Some a ≡ Some b → a ≡ b
some_of a b e = cc

-- where one element passes a test, another test that it passes too has a place
no_place : {X : Type 0} (p q : X → Bool) (xs : List X) (i : ℕ) (d : X) → ((x : X) → p x ≡ true → q x ≡ true) → position p xs ≡ Some i → position q xs ≡ None → ⊥
no_place p q xs i d weaker found none =
    let at = position-Some p xs i d found in
    let fails : q (get_or xs i d) ≡ false = fails_before_first q xs i d (omega (arith, at.0, none_long q xs none)) in
    let e : true ≡ false = sym (weaker (get_or xs i d) at.1) ∙ fails in absurd (cc)

a_route : Route
a_route = record { path = []; method = Get; form = Plain }

no_route : (routes : List Route) (request : HttpRequest) (place : ℕ) → AsksAt routes request place → HasNoRoute routes request → ⊥
no_route routes request place asks none =
    no_place (λ route. takes route request) (λ route. has_path route request) routes place a_route
    (λ route passes. (and_parts (has_path route request) _ passes).0) asks none

one_place : (routes : List Route) (request : HttpRequest) (p q : ℕ) → AsksAt routes request p → AsksAt routes request q → p ≡ q
one_place routes request p q first second = some_of p q (sym first ∙ second)

by_its_method : (routes : List Route) (request : HttpRequest) (place : ℕ) (allow : Allow) → AsksAt routes request place → HasOtherMethod routes request allow → ⊥
by_its_method routes request place allow asks other = let e : Some place ≡ None = sym asks ∙ other.untaken in absurd (cc)

other_place : (routes : List Route) (request : HttpRequest) (allow : Allow) → HasOtherMethod routes request allow → HasNoRoute routes request → ⊥
other_place routes request allow other none = let e : Some other.place ≡ None = sym other.first ∙ none in absurd (cc)

same_allow : (routes : List Route) (request : HttpRequest) (a b : Allow) → HasOtherMethod routes request a → HasOtherMethod routes request b → a ≡ b
same_allow routes request a b first second =
    let place : first.place ≡ second.place = some_of first.place second.place (sym first.first ∙ second.first) in
    let route : first.route ≡ second.route = some_of first.route second.route (sym first.stands ∙ ap (slice_get routes) place ∙ second.stands) in
    first.allowed ∙ ap (λ (r : Route). r.method) route ∙ sym second.allowed

pub asks_for_one : (routes : List Route) (request : HttpRequest) → AsksForOneThing routes request
asks_for_one routes request place asks = record {
  only = λ other asks'. one_place routes request other place asks' asks;
  taken = λ allow other. by_its_method routes request place allow asks other;
  found = λ none. no_route routes request place asks none;
}

same_line : (first second : Status) (a b : Allow) → first ≡ second → a ≡ b → allow_line first a ≡ allow_line second b
same_line first second a b s e = ap (λ (t : Status). allow_line t a) s ∙ ap (allow_line second) e

no_line : (status : Status) (allow : Allow) → status ≡ NotFound → allow_line status allow ≡ []
no_line status allow is = ap (λ (s : Status). allow_line s allow) is

pub one_routed : (routes : List Route) (Right : ℕ → HttpRequest → Status → ResponseFields → (body cause : List ℕ) → Type 0) (request : HttpRequest)
    → ((place : ℕ) → HasOneAnswer (Right place) request) → HasOneAnswer (RoutedAnswer routes Right) request
one_routed routes Right request one first second fields other a b why because (inl (p, asks, right)) (inl (q, asks', right')) =
    let same : q ≡ p = one_place routes request q p asks' asks in
    one p first second fields other a b why because right (subst (λ (k : ℕ). Right k request second other b because) same right')
one_routed routes Right request one first second fields other a b why because (inl (p, asks, right)) (inr (inl (wrong, code, json, bare, untold))) =
    absurd (by_its_method routes request p other.allow asks wrong)
one_routed routes Right request one first second fields other a b why because (inl (p, asks, right)) (inr (inr (none, code, json, bare, untold))) =
    absurd (no_route routes request p asks none)
one_routed routes Right request one first second fields other a b why because (inr (inl (wrong, code, json, bare, untold))) (inl (p, asks, right)) =
    absurd (by_its_method routes request p fields.allow asks wrong)
one_routed routes Right request one first second fields other a b why because (inr (inl (wrong, code, json, bare, untold))) (inr (inl (wrong', code', json', bare', untold'))) =
    let same : first ≡ second = code ∙ sym code' in
    (same, same_line first second fields.allow other.allow same (same_allow routes request fields.allow other.allow wrong wrong'), json ∙ sym json', bare ∙ sym bare', untold ∙ sym untold')
one_routed routes Right request one first second fields other a b why because (inr (inl (wrong, code, json, bare, untold))) (inr (inr (none', code', json', bare', untold'))) =
    absurd (other_place routes request fields.allow wrong none')
one_routed routes Right request one first second fields other a b why because (inr (inr (none, code, json, bare, untold))) (inl (p, asks, right)) =
    absurd (no_route routes request p asks none)
one_routed routes Right request one first second fields other a b why because (inr (inr (none, code, json, bare, untold))) (inr (inl (wrong', code', json', bare', untold'))) =
    absurd (other_place routes request other.allow wrong' none)
one_routed routes Right request one first second fields other a b why because (inr (inr (none, code, json, bare, untold))) (inr (inr (none', code', json', bare', untold'))) =
    (code ∙ sym code', no_line first fields.allow code ∙ sym (no_line second other.allow code'), json ∙ sym json', bare ∙ sym bare', untold ∙ sym untold')
