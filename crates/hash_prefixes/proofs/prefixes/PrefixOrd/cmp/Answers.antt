use Rattle.std.proofs.Common.{◌≡◌, drop, arith, refl, sym, ◌∙◌, ap}
use Rattle.std.specs.declared.cmp.Ordering.{Ordering}
use Rattle.std.specs.declared.cmp.Ordering.TheVariants.{Equal}
use Rattle.std.specs.Ordering.{nat_cmp, ordering_then}
use Rattle.std.specs.Cmp.Lexicographic.{slice_cmp}
use Rattle.std.proofs.lemmas.List.{take_rest}
use Rattle.hash_prefixes.proofs.OrderFacts.{slice_cmp-fronts, ordering_then-unequal}
use Rattle.hash_prefixes.proofs.prefixes.PrefixOrd.cmp.Goals as goal

-- the leading numbers tie, so the rest decides
pub returns-in-Equal : goal.returns-in-Equal
returns-in-Equal c =
    let order = slice_cmp-fronts c.self.inside.size c.other.inside.size c.self.inside.bytes c.other.inside.bytes c.args.self.now c.args.other.now
    c.leading_number.result c.leading_number-2.result c.self.invariant.at_least c.other.invariant.at_least (omega arith) (omega arith)
    c.leading_number.ensures.bytes c.leading_number-2.ensures.bytes c.self.view_is c.other.view_is
    c.leading_number.ensures.value c.leading_number-2.ensures.value in
    let tie : nat_cmp c.leading_number.result c.leading_number-2.result ≡ Equal = sym c.cmp.ensures ∙ c.in-Equal.is in
    c.cmp-in-Equal.ensures
    ∙ rw (c.as_bytes.ensures, c.as_bytes-in-Equal.ensures, order, tie, take_rest c.args.self.now 4, take_rest c.args.other.now 4) refl

-- the leading numbers differ, and decide
pub returns-in_default : goal.returns-in_default
returns-in_default c =
    let order = slice_cmp-fronts c.self.inside.size c.other.inside.size c.self.inside.bytes c.other.inside.bytes c.args.self.now c.args.other.now
    c.leading_number.result c.leading_number-2.result c.self.invariant.at_least c.other.invariant.at_least (omega arith) (omega arith)
    c.leading_number.ensures.bytes c.leading_number-2.ensures.bytes c.self.view_is c.other.view_is
    c.leading_number.ensures.value c.leading_number-2.ensures.value in
    let unequal : ordering_then c.cmp.result (slice_cmp nat_cmp (drop 4 c.args.self.now) (drop 4 c.args.other.now)) ≡ c.cmp.result
    = ordering_then-unequal c.cmp.result _ c.in_default.not-Equal in
    sym (order ∙ ap (λ (o : Ordering). ordering_then o (slice_cmp nat_cmp (drop 4 c.args.self.now) (drop 4 c.args.other.now))) (sym c.cmp.ensures) ∙ unequal)
