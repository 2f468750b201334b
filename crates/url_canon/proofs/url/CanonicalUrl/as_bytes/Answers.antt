use Rattle.std.proofs.Common.{◌≡◌, ◌≤◌, Ok, length, sym, ◌∙◌, subst}
use Rattle.url_canon.specs.Url.{text_of_url, IsLaidOut}
use Rattle.url_canon.specs.Canonical.{canonical_of, IsCanonical}
use Rattle.url_canon.proofs.url.CanonicalUrl.as_bytes.Goals as goal

pub returns : goal.returns
returns c =
    let in_self = c.self.inside in
    let url = c.args.self.now in
    let laid = subst (IsLaidOut in_self.text in_self.host_at in_self.path_at in_self.query_at) c.self.view_is c.self.invariant.0 in
    let canonical = subst IsCanonical c.self.view_is c.self.invariant.1 in
    let value : c.as_slice.result.now ≡ text_of_url url = c.as_slice.ensures ∙ laid.whole in
    record { value = value; again = subst (λ t. length t ≤ 8192 → canonical_of t ≡ Ok url) (sym value) canonical.again }
