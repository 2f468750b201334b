use Rattle.std.proofs.Common.{◌≡◌, ◌≢◌, ℕ, List, [], ◌++◌, codes, subst, sym, ap, ◌∙◌, append_assoc}
use Rattle.std.specs.Prelude.{OnOk, encode_utf8_all}
use Rattle.http_edge.specs.Exchanges.{query_of}
use Rattle.http_edge.proofs.TalkFacts.{text_bytes, query_some}
use Rattle.http_edge.proofs.exchanging.push_query.Goals as goal

pub returns : goal.returns
returns c =
    let page = c.args.page.now in
    let key = c.args.key.now in
    let value : c.as_bytes.result.now ≡ encode_utf8_all key =
    c.as_bytes.ensures.value ∙ text_bytes c.as_str.result.now key c.as_str.utf8 c.as_str.ensures in
    let some : key ≢ [] = λ (empty : key ≡ []). let yes = c.is_empty.ensures.1 empty in let no = c.if-is_empty.false in absurd (cc (yes, no)) in
    let all : c.append.new.self ++ c.as_bytes.result.now ≡ page ++ query_of key =
    ap (λ (front : List ℕ). front ++ c.as_bytes.result.now) c.in_ok-append.ensures.ok
    ∙ append_assoc page (codes "?key=") c.as_bytes.result.now
    ∙ ap (λ (bytes : List ℕ). page ++ (codes "?key=" ++ bytes)) value
    ∙ ap (λ (query : List ℕ). page ++ query) (sym (query_some key some)) in
    subst (λ (text : List ℕ). OnOk c.append-2.result (c.append-2.new.self ≡ text)) all c.append-2.ensures.ok
