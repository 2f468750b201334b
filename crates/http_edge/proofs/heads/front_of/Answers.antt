use Rattle.std.proofs.Common.{ℕ, ◌∙◌, ap, take, arith}
use Rattle.std.proofs.lemmas.List.{take_min}
use Rattle.http_edge.proofs.heads.front_of.Goals as goal

pub returns : goal.returns
returns c =
    let text = c.args.text.now in
    ap (λ (n : ℕ). take n text) (c.min.ensures ∙ omega arith) ∙ take_min c.args.limit text
