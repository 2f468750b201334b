use Rattle.std.proofs.Common.{◌≡◌, ◌∙◌, length, sym, ap, subst}
use Rattle.sb_model.specs.Prefixes.{IsRising}
use Rattle.list_versions.specs.Numbers.{quads_in}
use Rattle.list_versions.specs.Quads.{quads_of}
use Rattle.list_versions.proofs.QuadLines.{all_quads}
use Rattle.list_versions.proofs.QuadOrder.{each_small, numbers_rise}
use Rattle.list_versions.proofs.quads.members_of.Goals as goal

members : (c : goal.After-drop-bytes-inside-2) → quads_of c.in_ok-numbers.numbers.items ≡ c.args.set.now
members c =
    let quads : c.quads_of-quads.result.now ≡ quads_in c.args.set.now = c.quads_of-quads.ensures c.args.set.now (c.as_slice.ensures ∙ c.in_ok-bytes.ensures) in
    c.in_ok-numbers.ensures.prefixes ∙ quads ∙ all_quads c.args.set.now (sym (ap length quads) ∙ c.if-quads-len.false ∙ c.len.ensures.value)

pub returns-clause-prefixes : goal.returns-clause-prefixes
returns-clause-prefixes c = members c

pub returns-clause-rising : goal.returns-clause-rising
returns-clause-rising c = numbers_rise c.in_ok-numbers.numbers.items (each_small c.in_ok-numbers.numbers.items c.in_ok-numbers.ensures.small) (subst IsRising (sym (members c)) c.len.ensures.rising)
