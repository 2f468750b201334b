use Rattle.std.proofs.Common.{List, Option, ap, ◌∙◌}
use Rattle.hash_messages.specs.declared.response.FindResponse.{FindResponse}
use Rattle.sb_model.specs.declared.names.ListName.{ListName}
use Rattle.url_checker.specs.Looking.{unsafe_in}
use Rattle.url_checker.specs.Resolving.{lists_hit, verdict_from}
use Rattle.url_checker.proofs.SeveralFacts.{verdict_of_look}
use Rattle.url_checker.proofs.several.verdict_by_answer.Goals as goal

pub returns : goal.returns
returns c = λ pairs now hits is.
    verdict_of_look pairs now hits c.args.look.now c.args.answer.now c.verdict_with.result is
    (c.verdict_with.ensures
    ∙ ap (λ (names : List ListName). verdict_from names c.cause_after-cause.result) c.in_ok-names.ensures
    ∙ ap (λ (message : Option FindResponse). verdict_from (lists_hit (unsafe_in message c.as_slice.result.now)) c.cause_after-cause.result) c.message_of.ensures
    ∙ cc (c.as_slice.ensures, c.cause_after-cause.ensures, c.as_slice-2.ensures))
