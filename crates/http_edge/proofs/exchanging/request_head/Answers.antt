use Rattle.std.proofs.Common.{◌≡◌, ◌∙◌, List, ℕ, ◌++◌, codes, ap, length, decimal}
use Rattle.std.specs.Prelude.{encode_utf8_all}
use Rattle.http_edge.specs.Responses.{line}
use Rattle.http_edge.specs.Exchanges.{path_of_kind, query_of}
use Rattle.http_edge.proofs.exchanging.request_head.Goals as goal

pub returns : goal.returns
returns c =
    let first : c.push_line.new.page ≡ line (codes "POST " ++ (path_of_kind c.args.kind ++ query_of c.args.target.now.key ++ codes " HTTP/1.1")) =
    c.in_ok-push_line.ensures ∙ ap (λ (page : List ℕ). page ++ line (codes "POST " ++ c.as_slice.result.now)) c.new-page.ensures
    ∙ ap (λ (value : List ℕ). line (codes "POST " ++ value)) (c.as_slice.ensures ∙ c.in_ok-rest.ensures) in
    c.in_ok-push_line-4.ensures
    ∙ ap (λ (page : List ℕ). page ++ line (codes "")) (
    c.in_ok-push_line-3.ensures
    ∙ ap (λ (page : List ℕ). page ++ line (codes "Connection: close")) (
    c.in_ok-push_length.ensures
    ∙ ap (λ (page : List ℕ). page ++ line (codes "Content-Length: " ++ decimal (length c.args.body.now))) (
    c.in_ok-push_line-2.ensures
    ∙ ap (λ (page : List ℕ). page ++ line (codes "Content-Type: application/json")) (
    c.in_ok-push_host.ensures
    ∙ ap (λ (page : List ℕ). page ++ line (codes "Host: " ++ encode_utf8_all c.args.target.now.host)) first))))
