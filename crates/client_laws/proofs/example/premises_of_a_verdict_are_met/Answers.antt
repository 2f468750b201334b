use Rattle.std.proofs.Common.{◌≡◌, ℕ, zero, suc, ◌≤◌, List, [], ◌∷◌, refl, ap, subst, arith}
use Rattle.full_hash_cache.specs.Law.{after_steps}
use Rattle.url_checker.specs.declared.findings.Hit.{Hit}
use Rattle.url_checker.specs.Resolving.{verdict_of, answer_in, open_cause, hits_asked}
use Rattle.client_laws.specs.Faithful.{IsFaithful}
use Rattle.client_laws.specs.Example.{example_url_history, example_tokens, example_hit, example_asked, answer_at, got_at, held_at, second_later, steps_at}
use Rattle.client_laws.proofs.Members.{nothing}
use Rattle.client_laws.proofs.ExampleHits.{one_hit}
use Rattle.client_laws.proofs.ExamplePremises.{naming, either_version, answer_is_faithful, taken_is_faithful, premises, same_message, no_message}
use Rattle.client_laws.proofs.example.premises_of_a_verdict_are_met.Goals as goal

pub returns-clause-hit : goal.returns-clause-hit
returns-clause-hit c version = one_hit version

pub returns-clause-naming : goal.returns-clause-naming
returns-clause-naming c = naming

pub returns-clause-got : goal.returns-clause-got
returns-clause-got c version now session word waits low high =
    let one = c.full_hashes_are_one.ensures.one example_url_history example_tokens in
    let served = c.served_answers_are_faithful.ensures in
    let is = either_version version low high in
    let lists = held_at version ∷ [] in
    let r = got_at version now session word in
    let decided = c.faithful_finds_decide.ensures example_url_history example_tokens lists [] [] waits (example_hit ∷ []) r
    (λ at names asked response member. absurd (nothing _ member))
    (λ message same. subst (IsFaithful example_url_history example_tokens lists example_asked) (same_message (answer_at version) message same) (answer_is_faithful one served version is)) in
    premises one served version is [] waits r decided ((c.resolved_verdicts_are_lookups.ensures.open [] waits (example_hit ∷ []) r).1 refl)

pub returns-clause-got_first : goal.returns-clause-got_first
returns-clause-got_first c now session word waits = ap (λ (hits : List Hit). verdict_of [] waits hits (got_at 1 now session word)) (one_hit 1)

pub returns-clause-got_second : goal.returns-clause-got_second
returns-clause-got_second c now session word waits = ap (λ (hits : List Hit). verdict_of [] waits hits (got_at 2 now session word)) (one_hit 2)

pub returns-clause-kept_first : goal.returns-clause-kept_first
returns-clause-kept_first c waits = ap (λ (hits : List Hit). verdict_of (after_steps [] (steps_at 1)) waits hits second_later) (one_hit 1)

pub returns-clause-kept_second : goal.returns-clause-kept_second
returns-clause-kept_second c waits = ap (λ (hits : List Hit). verdict_of (after_steps [] (steps_at 2)) waits hits second_later) (one_hit 2)

none_asked : (version : ℕ) → 1 ≤ version → version ≤ 2 → hits_asked (after_steps [] (steps_at version)) second_later.now (example_hit ∷ []) ≡ []
none_asked zero low high = absurd (omega arith)
none_asked (suc zero) low high = refl
none_asked (suc (suc zero)) low high = refl
none_asked (suc (suc (suc more))) low high = absurd (omega arith)

pub returns-clause-kept : goal.returns-clause-kept
returns-clause-kept c version waits low high =
    let one = c.full_hashes_are_one.ensures.one example_url_history example_tokens in
    let served = c.served_answers_are_faithful.ensures in
    let is = either_version version low high in
    let answer = answer_in waits second_later.talk in
    let decided = c.faithful_finds_decide.ensures example_url_history example_tokens (held_at version ∷ []) [] (steps_at version) waits (example_hit ∷ []) second_later
    (taken_is_faithful one served version is)
    (λ message same. absurd (no_message _ message same)) in
    premises one served version is (steps_at version) waits second_later decided
    ((c.resolved_verdicts_are_lookups.ensures.open (steps_at version) waits (example_hit ∷ []) second_later).1 (ap (λ (asked : List Hit). open_cause answer asked) (none_asked version low high)))
