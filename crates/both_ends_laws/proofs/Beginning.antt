-- The lists that a run begins with.
use Rattle.std.proofs.Common.{◌≡◌, ◌≤◌, ℕ, ◌+◌, List, [], ◌∷◌, Bool, true, false, length, map, refl, sym, ap, ◌∙◌, subst, inl, inr, Option, Some, None, Result, Ok, Err, arith}
use Rattle.std.specs.Prelude.{All, unwrap_or, if◌then◌else◌}
use Rattle.std.specs.Ordering.{match_ordering, ordering_reverse}
use Rattle.std.specs.List.{AllByRecursion}
use Rattle.std.specs.List.Sorted.{IsStrictlySortedBy}
use Rattle.std.specs.declared.cmp.Ordering.{Ordering}
use Rattle.std.specs.declared.cmp.Ordering.TheVariants.{Less, Equal, Greater}
use Rattle.std.proofs.lemmas.List.Elements.{All-nil, All-cons}
use Rattle.sb_model.specs.declared.names.ListName.{ListName}
use Rattle.sb_model.specs.Names.{same_name, name_cmp}
use Rattle.sb_model.specs.History.{History}
use Rattle.sb_model.specs.Naming.{Naming, IsNaming}
use Rattle.update_client.specs.Held.{Held, AreHeldLists, nothing_held, with_name, in_order, most_lists}
use Rattle.update_client.specs.Replica.{IsReplicaOf, AreReplicas}
use Rattle.update_client.specs.Step.{list_named}
use Rattle.client_store.specs.Reading.{store_reading}
use Rattle.client_store.specs.Selected.{stored_or_nothing}
use Rattle.client_store.specs.declared.fault.StoreFault.{StoreFault}
use Rattle.update_run.specs.Opening.{lists_from, first_lists}
use Rattle.update_run.specs.declared.plan.Plan.{Plan}
use Rattle.both_ends_laws.specs.Answered.{HasByteTokens, IsToken, CanBeAsked}
use Rattle.both_ends_laws.specs.Complete.{AsksServer}
use Rattle.both_ends_laws.proofs.Asking.{empty_token, length-names}
use Rattle.both_ends_laws.proofs.Lists.{name_total}
use Rattle.both_ends_laws.proofs.Steps.{NamesGo}

-- ---- names in their order

turned : (a b : ListName) → name_cmp a b ≡ Greater → name_cmp b a ≡ Less
turned a b h = name_total.antisymm b a ∙ ap ordering_reverse h

with_all_after : (low name : ListName) (names : List ListName) → name_cmp low name ≡ Less → AllByRecursion (λ later. name_cmp low later ≡ Less) names
    → AllByRecursion (λ later. name_cmp low later ≡ Less) (with_name name names)
with_all_after low name [] h k = (h, tt)
with_all_after low name (first ∷ names) h k = go (name_cmp name first) (with_all_after low name names h k.1)
  where
    go : (order : Ordering) → AllByRecursion (λ later. name_cmp low later ≡ Less) (with_name name names) → AllByRecursion (λ later. name_cmp low later ≡ Less) (match_ordering order (name ∷ first ∷ names) (first ∷ names) (first ∷ with_name name names))
    go Less rest = (h, k)
    go Equal rest = k
    go Greater rest = (k.0, rest)

all_after : (name first : ListName) (names : List ListName) → name_cmp name first ≡ Less → AllByRecursion (λ later. name_cmp first later ≡ Less) names → AllByRecursion (λ later. name_cmp name later ≡ Less) names
all_after name first [] h k = tt
all_after name first (next ∷ names) h k = (name_total.trans name first next h k.0, all_after name first names h k.1)

with_sorted : (name : ListName) (names : List ListName) → IsStrictlySortedBy name_cmp names → IsStrictlySortedBy name_cmp (with_name name names)
unfolding IsStrictlySortedBy
with_sorted name [] h = (tt, tt)
with_sorted name (first ∷ names) h = go (name_cmp name first) refl (with_sorted name names h.1)
  where
    go : (order : Ordering) → name_cmp name first ≡ order → IsStrictlySortedBy name_cmp (with_name name names) → IsStrictlySortedBy name_cmp (match_ordering order (name ∷ first ∷ names) (first ∷ names) (first ∷ with_name name names))
    go Less is rest = ((is, all_after name first names is h.0), h)
    go Equal is rest = h
    go Greater is rest = (with_all_after first name names (turned name first is) h.0, rest)

sorted_names : (names : List ListName) → IsStrictlySortedBy name_cmp (in_order names)
unfolding IsStrictlySortedBy
sorted_names [] = tt
sorted_names (name ∷ names) = with_sorted name (in_order names) (sorted_names names)

one_longer : (name : ListName) (names : List ListName) → length (with_name name names) ≤ length names + 1
one_longer name [] = omega arith
one_longer name (first ∷ names) = go (name_cmp name first) (one_longer name names)
  where
    go : (order : Ordering) → length (with_name name names) ≤ length names + 1 → length (match_ordering order (name ∷ first ∷ names) (first ∷ names) (first ∷ with_name name names)) ≤ length (first ∷ names) + 1
    go Less rest = omega arith
    go Equal rest = omega arith
    go Greater rest = omega (arith, rest)

no_more : (names : List ListName) → length (in_order names) ≤ length names
no_more [] = omega arith
no_more (name ∷ names) = omega (arith, one_longer name (in_order names), no_more names)

-- ---- the lists have these names

nothing_names : (names : List ListName) → map (λ (held : Held). held.name) (map nothing_held names) ≡ names
nothing_names [] = refl
nothing_names (name ∷ names) = ap (λ (rest : List ListName). name ∷ rest) (nothing_names names)

named_so : NamesGo → (name : ListName) (stored : List Held) → (unwrap_or (list_named name stored) (nothing_held name)).name ≡ name
named_so go name [] = refl
named_so go name (held ∷ stored) = by_case (same_name held.name name) refl (named_so go name stored)
  where
    by_case : (same : Bool) → same_name held.name name ≡ same → (unwrap_or (list_named name stored) (nothing_held name)).name ≡ name → (unwrap_or (if same then Some held else list_named name stored) (nothing_held name)).name ≡ name
    by_case true is rest = go held.name name is
    by_case false is rest = rest

stored_names : NamesGo → (stored : List Held) (names : List ListName) → map (λ (held : Held). held.name) (map (stored_or_nothing stored) names) ≡ names
stored_names go stored [] = refl
stored_names go stored (name ∷ names) =
    ap (λ (first : ListName). first ∷ map (λ (held : Held). held.name) (map (stored_or_nothing stored) names)) (named_so go name stored)
    ∙ ap (λ (rest : List ListName). name ∷ rest) (stored_names go stored names)

names_from : NamesGo → (names : List ListName) (reading : Result (List Held) StoreFault) → map (λ (held : Held). held.name) (lists_from names reading) ≡ in_order names
names_from go names (Ok stored) = stored_names go stored (in_order names)
names_from go names (Err fault) = nothing_names (in_order names)

pub first_names : NamesGo → (names : List ListName) (kept : Option (List ℕ)) → map (λ (held : Held). held.name) (first_lists names kept) ≡ in_order names
first_names go names None = nothing_names (in_order names)
first_names go names (Some text) = names_from go names (store_reading text)

-- ---- what they keep to

pub first_are_lists : NamesGo → (names : List ListName) (kept : Option (List ℕ)) → length names ≤ most_lists → AreHeldLists (first_lists names kept)
first_are_lists go names kept few =
    let same = first_names go names kept in
    record {
      few = omega (arith, ap length same, length-names (first_lists names kept), no_more names, few);
      rising = subst (IsStrictlySortedBy name_cmp) (sym same) (sorted_names names);
    }

pub replica_tokens : (history : History) (token_at : Naming) → IsNaming history token_at → HasByteTokens history token_at → (lists : List Held)
    → AreReplicas history token_at lists → All (λ (held : Held). IsToken held.token) lists
replica_tokens history token_at naming bytes [] replicas = All-nil (λ (held : Held). IsToken held.token)
replica_tokens history token_at naming bytes (held ∷ lists) replicas =
    All-cons (λ (held : Held). IsToken held.token) held lists (one replicas.0) (replica_tokens history token_at naming bytes lists replicas.1)
  where
    one : IsReplicaOf history token_at held → IsToken held.token
    one (inl empty) = subst IsToken (sym empty.token) empty_token
    one (inr at) = subst IsToken (sym at.token) (record { bytes = bytes.bytes held.name at.version at.declared at.within; short = naming.short held.name at.version at.declared at.within })

pub first_askable : NamesGo → (history : History) (token_at : Naming) (plan : Plan) (kept : Option (List ℕ)) → AsksServer history token_at plan kept → CanBeAsked (first_lists plan.names kept)
first_askable go history token_at plan kept asks = record {
  few = (first_are_lists go plan.names kept asks.few).few;
  tokens = replica_tokens history token_at asks.naming asks.tokens (first_lists plan.names kept) asks.replicas;
}
