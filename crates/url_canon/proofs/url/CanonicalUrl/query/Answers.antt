use Rattle.std.proofs.Common.{subst}
use Rattle.url_canon.specs.Url.{IsLaidOut}
use Rattle.url_canon.proofs.Laid.{query_piece}
use Rattle.url_canon.proofs.url.CanonicalUrl.query.Goals as goal

pub returns-in-len1-up : goal.returns-in-len1-up
returns-in-len1-up c =
    let in_self = c.self.inside in
    let laid = subst (IsLaidOut in_self.text in_self.host_at in_self.path_at in_self.query_at) c.self.view_is c.self.invariant.0 in
    rw (c.as_slice.ensures) (query_piece in_self.text in_self.host_at in_self.path_at in_self.query_at c.args.self.now laid (rw (c.as_slice.ensures) at c.in-len1-up.len_at_least))
