-- A resolution as steps of a cache.
use Rattle.std.proofs.Common.{◌≡◌, ℕ, List, [], ◌∷◌, ◌++◌, map, Option, Some, None, Result, Ok, Err, refl, sym, ap, ◌∙◌}
use Rattle.std.proofs.lemmas.List.Sums.{fold-append}
use Rattle.sb_model.specs.declared.time.Moment.{Moment}
use Rattle.hash_messages.specs.declared.response.FindResponse.{FindResponse}
use Rattle.verdict_report.specs.declared.verdicts.Cause.{Cause}
use Rattle.full_hash_cache.specs.Cache.{Pairs, asked_pairs}
use Rattle.full_hash_cache.specs.Law.{Step, after_step, after_steps}
use Rattle.full_hash_cache.specs.Law.Step.{Asks}
use Rattle.url_checker.specs.declared.findings.Hit.{Hit}
use Rattle.url_checker.specs.Resolving.{Resolution, FindTalk, hits_asked, lists_hit, find_asked, looked_up_pairs, kept_by, pairs_after_talk, pairs_after}
use Rattle.client_laws.specs.Faithful.{pair_of_hit}
use Rattle.client_laws.specs.Resolved.{steps_of_answer, steps_of_talk, steps_after}

abbrev asks_of : Moment → List Hit → List Step
asks_of now hits = map (λ (hit : Hit). Asks now (pair_of_hit hit) hit.hash) hits

looked_up : (now : Moment) (hits : List Hit) (pairs : Pairs) → after_steps pairs (asks_of now hits) ≡ looked_up_pairs pairs hits
looked_up now [] pairs = refl
looked_up now (hit ∷ hits) pairs = looked_up now hits (asked_pairs pairs (pair_of_hit hit))

answer_taken : (states : List (List ℕ)) (asked : List Hit) (at : Moment) (answer : Result FindResponse Cause) (pairs : Pairs)
    → after_steps pairs (steps_of_answer states asked at answer) ≡ kept_by at (lists_hit asked) (find_asked states asked) answer pairs
answer_taken states asked at (Ok message) pairs = refl
answer_taken states asked at (Err cause) pairs = refl

talk_taken : (states : List (List ℕ)) (asked : List Hit) (talk : Option FindTalk) (pairs : Pairs)
    → after_steps pairs (steps_of_talk states asked talk) ≡ pairs_after_talk states asked talk pairs
talk_taken states asked None pairs = refl
talk_taken states asked (Some talk) pairs = answer_taken states asked talk.session.closed talk.answer pairs

pub look_steps : (steps : List Step) (now : Moment) (hits : List Hit) → looked_up_pairs (after_steps [] steps) hits ≡ after_steps [] (steps ++ asks_of now hits)
look_steps steps now hits = sym (fold-append after_step [] steps (asks_of now hits) ∙ looked_up now hits (after_steps [] steps))

pub answer_steps : (steps : List Step) (states : List (List ℕ)) (asked : List Hit) (at : Moment) (answer : Result FindResponse Cause)
    → kept_by at (lists_hit asked) (find_asked states asked) answer (after_steps [] steps) ≡ after_steps [] (steps ++ steps_of_answer states asked at answer)
answer_steps steps states asked at answer =
    sym (fold-append after_step [] steps (steps_of_answer states asked at answer) ∙ answer_taken states asked at answer (after_steps [] steps))

pub resolution_steps : (steps : List Step) (states : List (List ℕ)) (hits : List Hit) (r : Resolution)
    → pairs_after states hits (after_steps [] steps) r ≡ after_steps [] (steps_after steps states hits r)
resolution_steps steps states hits r =
    let pairs = after_steps [] steps in
    let asked = hits_asked pairs r.now hits in
    let talk = steps_of_talk states asked r.talk in
    let all : after_steps [] (steps ++ asks_of r.now hits ++ talk) ≡ pairs_after_talk states asked r.talk (looked_up_pairs pairs hits) =
    fold-append after_step [] (steps ++ asks_of r.now hits) talk
    ∙ ap (λ kept. after_steps kept talk) (fold-append after_step [] steps (asks_of r.now hits) ∙ looked_up r.now hits pairs)
    ∙ talk_taken states asked r.talk (looked_up_pairs pairs hits) in
    sym all
