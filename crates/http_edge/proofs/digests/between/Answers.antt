use Rattle.std.proofs.Common.{◌≡◌, ℕ, List, ◌++◌, codes, ap, ◌∙◌}
use Rattle.std.proofs.lemmas.Bool.Decides.{Decides-eqb}
use Rattle.std.proofs.lemmas.Slice.Eq.{strip_prefix_is, strip_suffix_is}
use Rattle.http_edge.proofs.digests.between.Goals as goal

pub returns-in-Some-strip_suffix : goal.returns-in-Some-strip_suffix
returns-in-Some-strip_suffix c =
    let member = c.args.member.now in
    let rest = c.in-Some.rest.now in
    let first : member ≡ codes "sha-256=:" ++ rest =
    rw c.in-Some.is at (strip_prefix_is Decides-eqb member (codes "sha-256=:") c.strip_prefix.result c.strip_prefix.ensures.cases) in
    let second : rest ≡ c.in-Some-strip_suffix.text.now ++ codes ":" =
    rw c.in-Some-strip_suffix.is at (strip_suffix_is Decides-eqb rest (codes ":") c.strip_suffix.result c.strip_suffix.ensures.cases) in
    first ∙ ap (λ (r : List ℕ). codes "sha-256=:" ++ r) second
