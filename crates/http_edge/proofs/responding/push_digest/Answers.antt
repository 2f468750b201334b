use Rattle.std.proofs.Common.{◌≡◌, ℕ, List, ◌++◌, codes, subst, ap, ◌∙◌}
use Rattle.std.specs.Prelude.{OnOk}
use Rattle.sha2.specs.Sha256.{sha256}
use Rattle.http_edge.specs.Responses.{line, digest_text}
use Rattle.http_edge.proofs.responding.push_digest.Goals as goal

pub returns : goal.returns
returns c =
    let is : c.as_slice.result.now ≡ digest_text (sha256 c.args.body.now) =
    c.as_slice.ensures ∙ c.in_ok-text.ensures ∙ ap digest_text c.full_hash-digest.ensures in
    subst (λ (text : List ℕ). OnOk c.push_line.result (c.push_line.new.page ≡ c.args.page.now ++ line (codes "Content-Digest: " ++ text))) is c.push_line.ensures
