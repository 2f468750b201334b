use Rattle.std.proofs.Common.{drop, ap, ◌∙◌, subst}
use Rattle.std.proofs.lemmas.List.{take_rest}
use Rattle.url_canon.specs.Url.{IsLaidOut}
use Rattle.url_canon.proofs.Laid.{from_host}
use Rattle.url_canon.proofs.url.CanonicalUrl.without_scheme.Goals as goal

pub returns : goal.returns
returns c =
    let in_self = c.self.inside in
    let laid = subst (IsLaidOut in_self.text in_self.host_at in_self.path_at in_self.query_at) c.self.view_is c.self.invariant.0 in
    take_rest c.as_slice.result.now in_self.host_at ∙ (ap (λ t. drop in_self.host_at t) c.as_slice.ensures ∙ from_host in_self.text in_self.host_at in_self.path_at in_self.query_at c.args.self.now laid)
