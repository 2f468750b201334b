use Rattle.std.proofs.Common.{◌≡◌, ℕ, ◌*◌, List, ap, ◌∙◌}
use Rattle.sb_model.specs.History.{History}
use Rattle.hash_messages.specs.declared.response.FindResponse.{FindResponse}
use Rattle.hash_messages.specs.declared.response.Match.{Match}
use Rattle.named_answers.specs.Answers.{named_matches}
use Rattle.named_answers.proofs.Finds.{matches_found}
use Rattle.named_answers.proofs.finding.answer_named_find.Goals as goal

pub returns : goal.returns
returns c =
    let versions : History = c.args.history.now.versions in
    let made : List Match → ℕ → ℕ → FindResponse = λ matches wait negative. record { matches = matches; wait = wait; negative = negative } in
    let found : c.as_slice.result.now ≡ c.in_ok-found.field-0.matches = cc (c.as_slice.ensures) in
    record {
      answer =
          ap (λ (matches : List Match). made matches c.in_ok-found.field-0.wait c.in_ok-found.field-0.negative)
          (matches_found c.names_go_by_their_codes.ensures.same c.answers_match_what_is_asked.ensures.lists c.answered_names_are_those_of_lists.ensures.names
          versions c.args.settings.now.cache c.args.request.now c.in_ok-wider.wider c.in_ok-wider.ensures c.as_slice-2.result.now c.as_slice.result.now
          c.in_ok-matches_for_each.field-0 (c.as_slice-2.ensures ∙ c.in_ok-names.ensures) (found ∙ ap (λ (r : FindResponse). r.matches) c.in_ok-found.ensures)
          c.in_ok-matches_for_each.ensures)
          ∙ ap (λ (wait : ℕ). made (named_matches versions c.args.settings.now.cache c.args.request.now) wait c.in_ok-found.field-0.negative) (ap (λ (r : FindResponse). r.wait) c.in_ok-found.ensures)
          ∙ ap (λ (negative : ℕ). made (named_matches versions c.args.settings.now.cache c.args.request.now) (c.args.settings.now.find_wait * 1000000000) negative) (ap (λ (r : FindResponse). r.negative) c.in_ok-found.ensures);
    }
