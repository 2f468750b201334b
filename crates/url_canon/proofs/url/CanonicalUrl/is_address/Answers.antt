use Rattle.std.proofs.Common.{ap}
use Rattle.url_canon.specs.Url.{Url, url_at_places}
use Rattle.url_canon.proofs.url.CanonicalUrl.is_address.Goals as goal

pub returns : goal.returns
unfolding url_at_places
returns c = ap (λ (url : Url). url.is_address) c.self.view_is
