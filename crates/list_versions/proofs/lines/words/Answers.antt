use Rattle.std.proofs.Common.{sym, ap, ◌∷◌, ◌∙◌}
use Rattle.list_versions.proofs.Words.{nothing_of_spaced, words_unspaced}
use Rattle.list_versions.proofs.lines.words.Goals as goal

pub returns-then-has_space : goal.returns-then-has_space
returns-then-has_space c = nothing_of_spaced c.args.line.now _ _ _ c.in-Some-split_word-2.rest.now
    (c.in-Some.ensures ∙ ap (λ ws. c.in-Some.first.now ∷ ws) (c.in-Some-split_word.ensures ∙ ap (λ ws. c.in-Some-split_word.second.now ∷ ws) c.in-Some-split_word-2.ensures)) (sym c.has_space.ensures ∙ c.if-has_space.true)

pub returns : goal.returns
returns c =
    c.in-Some.ensures ∙ ap (λ ws. c.in-Some.first.now ∷ ws) (c.in-Some-split_word.ensures ∙ ap (λ ws. c.in-Some-split_word.second.now ∷ ws)
    (c.in-Some-split_word-2.ensures ∙ ap (λ ws. c.in-Some-split_word-2.third.now ∷ ws) (words_unspaced c.in-Some-split_word-2.rest.now (sym c.has_space.ensures ∙ c.if-has_space.false))))
