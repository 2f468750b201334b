use Rattle.std.proofs.Common.{List, sym, ap, ◌∙◌}
use Rattle.lookup_messages.specs.declared.response.LookupMatch.{LookupMatch}
use Rattle.proxy_serving.specs.Told.{fate_left}
use Rattle.proxy_serving.specs.declared.fate.LookFate.TheVariants.{Answered}
use Rattle.proxy_serving.proofs.told.fate_of.Goals as goal

pub returns : goal.returns
returns c =
    ap (λ (matches : List LookupMatch). Answered (record { matches = matches })) c.in_ok-matches_of.ensures
    ∙ sym (ap (fate_left c.args.urls.now) (sym c.is_one_open.ensures ∙ c.if-is_one_open.false))
