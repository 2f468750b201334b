use Rattle.std.proofs.Common.{refl, ◌∙◌, codes}
use Rattle.std.proofs.lemmas.Str.{chars-encodes}
use Rattle.url_checker.proofs.TypeFacts.{client_is}
use Rattle.url_checker.proofs.request.client_info.Goals as goal

pub returns : goal.returns
unfolding lib.Utf8.encode
returns c =
    client_is c.in_ok-id.id c.in_ok-version.version (c.in_ok-id.ensures ∙ chars-encodes (codes "sblist") refl) (c.in_ok-version.ensures ∙ chars-encodes (codes "1") refl)
