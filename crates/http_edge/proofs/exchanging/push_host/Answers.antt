use Rattle.std.proofs.Common.{◌≡◌, ℕ, List, ◌++◌, codes, subst, ◌∙◌}
use Rattle.std.specs.Prelude.{OnOk, encode_utf8_all}
use Rattle.http_edge.specs.Responses.{line}
use Rattle.http_edge.proofs.TalkFacts.{text_bytes}
use Rattle.http_edge.proofs.exchanging.push_host.Goals as goal

pub returns : goal.returns
returns c =
    let value : c.as_bytes.result.now ≡ encode_utf8_all c.args.host.now =
    c.as_bytes.ensures.value ∙ text_bytes c.as_str.result.now c.args.host.now c.as_str.utf8 c.as_str.ensures in
    subst (λ (bytes : List ℕ). OnOk c.push_line.result (c.push_line.new.page ≡ c.args.page.now ++ line (codes "Host: " ++ bytes))) value c.push_line.ensures
