use Rattle.std.proofs.Common.{ap, ◌∙◌}
use Rattle.lookup_messages.specs.Messages.{AskedUrls}
use Rattle.sb_lookup.proofs.Asked.{served_by}
use Rattle.sb_lookup.proofs.answering.answer_lookup.Goals as goal

pub returns : goal.returns
returns c =
    served_by c.args.history.now.versions c.args.settings.now.cache c.args.request.now c.in_ok-matches.matches c.as_slice.result.now c.as_slice-2.result.now
    c.as_slice-3.result.now (c.as_slice.ensures ∙ c.in_ok-answered.ensures) (c.as_slice-2.ensures ∙ c.in_ok-names.ensures)
    (c.as_slice-3.ensures ∙ ap (λ (asked : AskedUrls). asked.urls) c.request.view_is) c.in_ok-matches.ensures
