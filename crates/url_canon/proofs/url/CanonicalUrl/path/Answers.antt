use Rattle.std.proofs.Common.{◌-◌, take, drop, ap, ◌∙◌, subst}
use Rattle.url_canon.specs.Url.{IsLaidOut}
use Rattle.url_canon.specs.Canonical.{IsCanonical}
use Rattle.url_canon.proofs.Laid.{path_piece}
use Rattle.url_canon.proofs.url.CanonicalUrl.path.Goals as goal

pub returns : goal.returns
returns c =
    let in_self = c.self.inside in
    let laid = subst (IsLaidOut in_self.text in_self.host_at in_self.path_at in_self.query_at) c.self.view_is c.self.invariant.0 in
    let canonical = subst IsCanonical c.self.view_is c.self.invariant.1 in
    record {
      value = ap (λ t. take (in_self.query_at - in_self.path_at) (drop in_self.path_at t)) c.as_slice.ensures ∙ path_piece in_self.text in_self.host_at in_self.path_at in_self.query_at c.args.self.now laid;
      normal = canonical.path;
    }
