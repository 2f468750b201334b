use Rattle.std.proofs.Common.{◌≡◌, ◌∙◌, ◌++◌, ◌∷◌, ap, ap₂, refl, sym, true, false, List, [], map, append-nil, if◌then◌else◌}
use Rattle.std.proofs.lemmas.Result.{IfOk-weaker}
use Rattle.clap.specs.Words.{with_rule}
use Rattle.sb_words.specs.declared.shape.OptionShape.{OptionShape}
use Rattle.sb_words.specs.declared.shape.Shape.{Shape}
use Rattle.sb_words.specs.ClapCommand.{app_for, option_rule, positional_rule, with_rules}
use Rattle.sb_words.specs.Views.{option_of, rule_for, shape_of}
use Rattle.sb_words.proofs.building.command_of.Goals as goal

same_rules : (options : List OptionShape) → map rule_for options ≡ map option_rule (map option_of options)
unfolding rule_for
same_rules [] = refl
same_rules (o ∷ options) = ap (λ rules. option_rule (option_of o) ∷ rules) (same_rules options)

without_positionals : (shape : Shape) → shape.takes_positionals ≡ false → with_rules (map rule_for shape.options.now) ≡ app_for (shape_of shape)
without_positionals shape e =
    ap with_rules (same_rules shape.options.now ∙ sym (append-nil (map option_rule (map option_of shape.options.now)))
    ∙ ap (λ b. map option_rule (map option_of shape.options.now) ++ (if b then positional_rule ∷ [] else [])) (sym e))

with_positionals : (shape : Shape) → shape.takes_positionals ≡ true → with_rule (with_rules (map rule_for shape.options.now)) positional_rule ≡ app_for (shape_of shape)
with_positionals shape e =
    ap with_rules (ap₂ (λ rules b. rules ++ (if b then positional_rule ∷ [] else [])) (same_rules shape.options.now) (sym e))

pub returns-then-not-shape : goal.returns-then-not-shape
returns-then-not-shape c = c.in_ok-command.ensures ∙ without_positionals c.args.shape.now c.if-not-shape.true

pub returns : goal.returns
returns c =
    IfOk-weaker c.arg.result _ _ (λ r added. added.shape c.positional_arg.ensures.local
    ∙ ap₂ with_rule c.in_ok-command.ensures c.positional_arg.ensures.rule ∙ with_positionals c.args.shape.now c.if-not-shape.false) c.arg.ensures
