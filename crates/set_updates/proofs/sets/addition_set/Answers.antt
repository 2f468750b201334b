use Rattle.std.proofs.Common.{◌≡◌, ℕ, ◌<◌, ◌%◌, List, length, true, ◌∙◌, ap, arith, sym, subst}
use Rattle.std.specs.Prelude.{filter}
use Rattle.std.specs.List.{list_any}
use Rattle.sb_model.specs.Prefixes.{concatenation}
use Rattle.update_messages.specs.Answer.{has_size, numbers_of}
use Rattle.set_updates.proofs.NumberFacts.{rice_kept, some_numbers}
use Rattle.set_updates.proofs.SetFacts.{few_kept, some_kept, whole_pieces}
use Rattle.set_updates.proofs.sets.addition_set.Goals as goal

pub encode-requires-clause-some : goal.encode-requires-clause-some
encode-requires-clause-some c =
    let ms : List (List ℕ) = c.requires.members.0 in
    let four : c.args.size ≡ 4 = c.if-size-eq4.true in
    let there : list_any (has_size 4) ms ≡ true = subst (λ n. list_any (has_size n) ms ≡ true) four c.requires.members.2 in
    let quads : c.quads_of.result.now ≡ filter (has_size 4) ms
    = c.quads_of.ensures ms (c.as_slice.ensures ∙ c.requires.members.1 ∙ ap (λ n. concatenation (filter (has_size n) ms)) four) in
    let is : c.deref.result.now ≡ numbers_of (filter (has_size 4) ms) = c.deref.ensures.value ∙ c.in_ok-numbers.ensures.numbers ∙ ap numbers_of quads in
    let some : 0 < length (numbers_of (filter (has_size 4) ms)) = some_numbers (filter (has_size 4) ms) (c.sent_numbers_rise.ensures.numbers (filter (has_size 4) ms)) (some_kept (has_size 4) ms there) in
    subst (λ (xs : List ℕ). 0 < length xs) (sym is) some

pub encode-requires-clause-few : goal.encode-requires-clause-few
encode-requires-clause-few c =
    let ms : List (List ℕ) = c.requires.members.0 in
    let four : c.args.size ≡ 4 = c.if-size-eq4.true in
    let quads : c.quads_of.result.now ≡ filter (has_size 4) ms
    = c.quads_of.ensures ms (c.as_slice.ensures ∙ c.requires.members.1 ∙ ap (λ n. concatenation (filter (has_size n) ms)) four) in
    omega (arith, ap length c.deref.ensures.value, c.in_ok-numbers.ensures.few, ap length quads, few_kept (has_size 4) ms, c.requires.members.3)

pub returns-in_ok-encode-clause-keeps : goal.returns-in_ok-encode-clause-keeps
returns-in_ok-encode-clause-keeps c =
    let ms : List (List ℕ) = c.requires.members.0 in
    let four : c.args.size ≡ 4 = c.if-size-eq4.true in
    let quads : c.quads_of.result.now ≡ filter (has_size 4) ms
    = c.quads_of.ensures ms (c.as_slice.ensures ∙ c.requires.members.1 ∙ ap (λ n. concatenation (filter (has_size n) ms)) four) in
    rice_kept c.in_ok-encode.field-0 c.deref.result.now
    (omega (arith, ap length c.deref.ensures.value, c.in_ok-numbers.ensures.few, ap length quads, few_kept (has_size 4) ms, c.requires.members.3))
    c.in_ok-encode.ensures.stands c.in_ok-encode.ensures.single

pub returns-else-size-eq4-clause-keeps : goal.returns-else-size-eq4-clause-keeps
returns-else-size-eq4-clause-keeps c = record {
  low = c.requires.size.low;
  high = c.requires.size.high;
  whole = subst (λ (bytes : List ℕ). length bytes % c.args.size ≡ 0) (sym c.requires.members.1) (whole_pieces c.args.size c.requires.members.0 c.requires.size.low);
}
