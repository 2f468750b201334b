use Rattle.std.proofs.Common.{ℕ, List, refl, ap, ◌∙◌}
use Rattle.proxy_looks.proofs.Texts.{text_bytes}
use Rattle.proxy_looks.specs.Urls.{hits_found}
use Rattle.url_canon.specs.Canonical.{canonical_of}
use Rattle.proxy_looks.proofs.urls.url_of.Goals as goal

pub returns-clause-is : goal.returns-clause-is
returns-clause-is c =
    let url = c.in_ok-copy.ensures in
    let hits = c.in_ok-hits_of.ensures.found
    ∙ ap (λ (text : List ℕ). hits_found c.args.lists.now c.args.request.now (canonical_of text)) (text_bytes c.as_str.result.now c.args.url.now c.as_str.utf8 c.as_str.ensures) in
    rw (url, hits) refl
