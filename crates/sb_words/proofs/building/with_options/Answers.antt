use Rattle.std.proofs.Common.{◌≡◌, ◌∙◌, ap, sym, ℕ, ◌+◌, ◌<◌, List, map, take, length, slice_index_or, arith, rules, ◌++◌, ◌∷◌, []}
use Rattle.std.proofs.lemmas.List.{map-append, take_more}
use Rattle.clap.specs.Words.{App, with_rule}
use Rattle.sb_words.specs.declared.shape.OptionShape.{OptionShape}
use Rattle.sb_words.specs.ClapCommand.{with_rules}
use Rattle.sb_words.specs.Views.{rule_for}
use Rattle.sb_words.proofs.building.with_options.Goals as goal

one_more : (old new : App) (options : List OptionShape) (i : ℕ) (o : OptionShape) → i < length options → o ≡ slice_index_or options i o
    → new ≡ with_rule old (rule_for o) → old ≡ with_rules (map rule_for (take i options)) → new ≡ with_rules (map rule_for (take (i + 1) options))
one_more old new options i o lt at is was =
    is ∙ ap (λ (a : App). with_rule a (rule_for o)) was
    ∙ ap with_rules (ap (λ x. map rule_for (take i options) ++ rule_for x ∷ []) at
    ∙ sym (map-append rule_for (take i options) (slice_index_or options i o ∷ []))
    ∙ ap (map rule_for) (sym (take_more options i o lt)))

pub loop-option-preserved : goal.loop-option-preserved
loop-option-preserved c =
    one_more _ _ c.args.shape.now.options.now c.loop-option.option-index _ (omega arith) (search rules) c.in_ok-command.ensures c.loop-option.invariant
