use Rattle.std.proofs.Common.{◌≡◌, [], ◌∷◌, ap, sym, ◌∙◌}
use Rattle.list_versions.specs.Lines.{words_in_line}
use Rattle.list_versions.proofs.Words.{words_unspaced, nothing_unsized, nothing_of_three, nothing_alone}
use Rattle.list_versions.proofs.lines.longer_add.Goals as goal
use Rattle.list_versions.proofs.lines.longer_add.Goals.{then-not-sized-via-then-not-sized, then-not-sized-via-else-not-sized+then-has_space}

pub returns-then-not-sized-clause-value : goal.returns-then-not-sized-clause-value
returns-then-not-sized-clause-value c = elim c.then-not-sized.branch [
  | then-not-sized-via-then-not-sized w ↦ rw w.if-not-sized.true (nothing_unsized c.args.declared c.args.text.now _ _ c.in-Some.ensures)
  | then-not-sized-via-else-not-sized+then-has_space w ↦ nothing_of_three c.args.sized c.args.declared c.args.text.now _ c.in-Some.size.now c.in-Some.ensures (sym w.has_space.ensures ∙ w.if-has_space.true)
]

pub returns-clause-value : goal.returns-clause-value
returns-clause-value c =
    let two : words_in_line c.args.text.now ≡ c.in-Some.digits.now ∷ c.in-Some.size.now ∷ [] =
    c.in-Some.ensures ∙ ap (λ ws. c.in-Some.digits.now ∷ ws) (words_unspaced c.in-Some.size.now (sym c.has_space.ensures ∙ c.if-has_space.false)) in
    rw (two, c.if-not-sized.false) c.sized_add.ensures.value

pub returns-in_default-clause-value : goal.returns-in_default-clause-value
returns-in_default-clause-value c = nothing_alone c.args.sized c.args.declared c.args.text.now c.requires c.in_default.ensures
