use Rattle.std.proofs.Common.{refl}
use Rattle.both_ends_laws.proofs.Lists.{installs}
use Rattle.both_ends_laws.proofs.served.answers_are_installed.Goals as goal

pub returns : goal.returns
returns c =
    installs (λ a b h. (c.names_go_by_their_codes.ensures.same a b).0 h) (λ name. (c.names_go_by_their_codes.ensures.same name name).1 refl) c.encoding_is_decoded.ensures c.answers_are_genuine.ensures
