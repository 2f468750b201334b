use Rattle.std.proofs.Common.{◌≡◌, ◌∙◌, List, ℕ, ◌++◌, codes, ap, length, decimal}
use Rattle.sha2.specs.Sha256.{sha256}
use Rattle.http_edge.specs.Responses.{line, media_text, status_text, allow_line, digest_text}
use Rattle.http_edge.proofs.responding.head_of.Goals as goal

pub returns : goal.returns
returns c =
    let text : c.as_bytes.result.now ≡ status_text c.args.status = c.as_bytes.ensures.value ∙ c.status_text.ensures in
    let media : c.as_bytes-2.result.now ≡ media_text c.args.fields.media = c.as_bytes-2.ensures.value ∙ c.media_text.ensures in
    let first : c.push_line.new.page ≡ line (codes "HTTP/1.1 " ++ status_text c.args.status) =
    c.in_ok-push_line.ensures ∙ ap (λ (page : List ℕ). page ++ line (codes "HTTP/1.1 " ++ c.as_bytes.result.now)) c.new-page.ensures
    ∙ ap (λ (value : List ℕ). line (codes "HTTP/1.1 " ++ value)) text in
    let second : c.push_line-2.new.page ≡ line (codes "HTTP/1.1 " ++ status_text c.args.status) ++ line (codes "Content-Type: " ++ media_text c.args.fields.media) =
    c.in_ok-push_line-2.ensures ∙ ap (λ (page : List ℕ). page ++ line (codes "Content-Type: " ++ c.as_bytes-2.result.now)) first
    ∙ ap (λ (value : List ℕ). line (codes "HTTP/1.1 " ++ status_text c.args.status) ++ line (codes "Content-Type: " ++ value)) media in
    c.in_ok-push_line-4.ensures
    ∙ ap (λ (page : List ℕ). page ++ line (codes "")) (
    c.in_ok-push_line-3.ensures
    ∙ ap (λ (page : List ℕ). page ++ line (codes "Connection: close")) (
    c.in_ok-push_allow.ensures
    ∙ ap (λ (page : List ℕ). page ++ allow_line c.args.status c.args.fields.allow) (
    c.in_ok-push_digest.ensures
    ∙ ap (λ (page : List ℕ). page ++ line (codes "Content-Digest: " ++ digest_text (sha256 c.args.body.now))) (
    c.in_ok-push_length.ensures
    ∙ ap (λ (page : List ℕ). page ++ line (codes "Content-Length: " ++ decimal (length c.args.body.now))) second))))
