use Rattle.std.proofs.Common.{ℕ, List, [], ◌∷◌, ◌++◌, get_or, take, sym, ap, ◌∙◌, subst, append_assoc}
use Rattle.std.proofs.lemmas.List.{take_more, take_all}
use Rattle.http_edge.specs.Deciding.{StandsFor}
use Rattle.http_edge.proofs.deciding.RequestWatch.feed.Goals as goal

pub loop-byte-preserved : goal.loop-byte-preserved
loop-byte-preserved c = λ bytes stands.
    let piece = c.args.piece.now in
    let i = c.loop-byte.byte-index in
    subst (StandsFor c.take.new.self)
    (append_assoc bytes (take i piece) (get_or piece i 0 ∷ []) ∙ ap (λ (t : List ℕ). bytes ++ t) (sym (take_more piece i 0 c.loop-byte-test.true)))
    (c.take.ensures (bytes ++ take i piece) (c.loop-byte.invariant bytes stands))

pub returns : goal.returns
returns c = λ bytes stands.
    subst (λ (t : List ℕ). StandsFor c.loop-byte.self (bytes ++ t)) (take_all c.loop-byte.byte-index c.args.piece.now c.loop-byte-test.false) (c.loop-byte.invariant bytes stands)
