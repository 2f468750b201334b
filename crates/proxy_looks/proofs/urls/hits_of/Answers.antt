use Rattle.std.proofs.Common.{◌≡◌, Bool, filter, ap, sym, ◌∙◌, subst}
use Rattle.lookup_messages.specs.Lookups.{looks_up_list}
use Rattle.url_checker.specs.Hits.{AreAskable}
use Rattle.url_checker.specs.declared.findings.Hit.{Hit}
use Rattle.proxy_looks.proofs.Askable.{askable_some}
use Rattle.proxy_looks.proofs.urls.hits_of.Goals as goal

pub returns-in-Ok-clause-askable : goal.returns-in-Ok-clause-askable
returns-in-Ok-clause-askable c =
    let asks : Hit → Bool = λ (hit : Hit). looks_up_list c.args.request.now hit.list in
    let is : c.in_ok-asked_hits-in-Ok.field-0 ≡ filter asks c.in-Ok.field-0.hits = c.in_ok-asked_hits-in-Ok.ensures ∙ ap (filter asks) c.as_slice.ensures in
    subst AreAskable (sym is)
    (askable_some c.sets_go_by_members.ensures.rising c.sets_go_by_members.ensures.members asks c.in-Ok.field-0.hits c.in-Ok.ensures.askable)
