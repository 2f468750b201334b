use Rattle.std.proofs.Common.{◌≡◌, ◌∙◌, ◌+◌, ◌-◌, ap, sym, ℕ, List, Some, option_map, length, take, drop, length-drop, le_of_eq, take_all}
use Rattle.sb_words.proofs.Barring.{value_at}
use Rattle.sb_words.proofs.barred.value_after_equals.Goals as goal

whole_rest : (n : ℕ) (text : List ℕ) → take (length text - n) (drop n text) ≡ drop n text
whole_rest n text = take_all (length text - n) (drop n text) (le_of_eq (length-drop n text))

pub returns-in_default : goal.returns-in_default
returns-in_default c = sym (value_at c.args.text.now ∙ ap (option_map (λ i. drop (i + 1) c.args.text.now)) (sym c.equals_in.ensures ∙ c.in_default.is))

pub returns : goal.returns
returns c =
    ap Some (whole_rest (c.in-Some.equals + 1) c.args.text.now)
    ∙ sym (value_at c.args.text.now ∙ ap (option_map (λ i. drop (i + 1) c.args.text.now)) (sym c.equals_in.ensures ∙ c.in-Some.is))
