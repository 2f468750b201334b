use Rattle.std.proofs.Common.{◌<◌, List, ℕ, length, ap, arith, sym, subst, ◌∙◌}
use Rattle.std.specs.Prelude.{filter}
use Rattle.rice_coding.specs.Encoding.{encoding_of}
use Rattle.update_messages.specs.Answer.{has_size}
use Rattle.update_messages.specs.declared.sets.Additions.TheVariants as added
use Rattle.set_updates.proofs.NumberFacts.{rice_kept, some_numbers}
use Rattle.set_updates.proofs.SetFacts.{few_kept, some_kept}
use Rattle.set_updates.proofs.sets.rice_set.Goals as goal

pub encode-requires-clause-some : goal.encode-requires-clause-some
encode-requires-clause-some c =
    let quads : List (List ℕ) = filter (has_size 4) c.args.set.now in
    subst (λ (xs : List ℕ). 0 < length xs) (sym c.requires.numbers) (some_numbers quads (c.sent_numbers_rise.ensures.numbers quads) (some_kept (has_size 4) c.args.set.now c.requires.some))

pub encode-requires-clause-few : goal.encode-requires-clause-few
encode-requires-clause-few c =
    omega (arith, ap length c.requires.numbers, (c.sent_numbers_rise.ensures.numbers (filter (has_size 4) c.args.set.now)).few, few_kept (has_size 4) c.args.set.now, c.len.ensures.count)

pub returns-clause-set : goal.returns-clause-set
returns-clause-set c = ap added.Rice (c.in_ok-encode.ensures.exact ∙ ap encoding_of c.requires.numbers)

pub returns-clause-keeps : goal.returns-clause-keeps
returns-clause-keeps c =
    rice_kept c.in_ok-encode.field-0 c.args.numbers.now
    (omega (arith, ap length c.requires.numbers, (c.sent_numbers_rise.ensures.numbers (filter (has_size 4) c.args.set.now)).few, few_kept (has_size 4) c.args.set.now, c.len.ensures.count))
    c.in_ok-encode.ensures.stands c.in_ok-encode.ensures.single
