use Rattle.both_ends_laws.proofs.Versions.{keeps_versions}
use Rattle.both_ends_laws.proofs.served.versions_do_not_go_back.Goals as goal

pub returns : goal.returns
returns c = keeps_versions (λ a b h. (c.names_go_by_their_codes.ensures.same a b).0 h) c.targets_are_the_greatest.ensures.greatest c.targets_are_the_greatest.ensures.last
