use Rattle.std.proofs.Common.{◌-◌, take, drop, ap, ◌∙◌, subst}
use Rattle.url_canon.specs.Url.{Url, url_at_places}
use Rattle.url_canon.specs.Canonical.{IsCanonical}
use Rattle.url_canon.proofs.url.CanonicalUrl.host.Goals as goal

pub returns : goal.returns
unfolding url_at_places
returns c =
    let in_self = c.self.inside in
    let canonical = subst IsCanonical c.self.view_is c.self.invariant.1 in
    record {
      value = ap (λ t. take (in_self.path_at - in_self.host_at) (drop in_self.host_at t)) c.as_slice.ensures ∙ ap (λ (url : Url). url.host) c.self.view_is;
      no_slash = canonical.host;
    }
