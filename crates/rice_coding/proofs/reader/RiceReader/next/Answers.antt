use Rattle.std.proofs.Common.{◌≡◌, ◌+◌, ◌-◌, Some, None, refl, arith, ap, sym, ◌∙◌}
use Rattle.rice_coding.specs.declared.fault.RiceFault.TheVariants.{Ended, Range, LeftOver}
use Rattle.rice_coding.specs.Bits.{bits_from}
use Rattle.rice_coding.specs.Reading.{Reading, stopped, with_value, reading_after}
use Rattle.rice_coding.proofs.NextFacts.{reading_given, reading_over, reading_end, reading_ended, reading_beyond, reading_value}
use Rattle.rice_coding.proofs.reader.RiceReader.next.Goals as goal

pub returns-then-bits-ge8-clause-fault : goal.returns-then-bits-ge8-clause-fault
returns-then-bits-ge8-clause-fault c =
    let r = c.self.inside in
    let bits = bits_from r.at.bytes.now r.at.bit in
    let is : c.args.self.now ≡ stopped (Some (LeftOver c.bits_left-bits.result)) =
    sym c.self.view_is ∙ reading_given r.parameter r.left r.given r.value bits c.if-self-eq0.false
    ∙ reading_over r.parameter r.left r.given r.value c.bits_left-bits.result bits c.if-self-eq0-2.true c.bits_left-bits.ensures c.if-bits-ge8.true in
    (ap (λ (x : Reading). x.values) is, ap (λ (x : Reading). x.fault) is, refl)

pub returns-then-self-eq0-2-clause-end : goal.returns-then-self-eq0-2-clause-end
returns-then-self-eq0-2-clause-end c =
    let r = c.self.inside in
    let bits = bits_from r.at.bytes.now r.at.bit in
    let is : c.args.self.now ≡ stopped None =
    sym c.self.view_is ∙ reading_given r.parameter r.left r.given r.value bits c.if-self-eq0.false
    ∙ reading_end r.parameter r.left r.given r.value c.bits_left-bits.result bits c.if-self-eq0-2.true c.bits_left-bits.ensures c.if-bits-ge8.false in
    (ap (λ (x : Reading). x.values) is, ap (λ (x : Reading). x.fault) is, refl)

pub returns-in_default-clause-fault : goal.returns-in_default-clause-fault
returns-in_default-clause-fault c =
    let r = c.self.inside in
    let bits = bits_from r.at.bytes.now r.at.bit in
    let is : c.args.self.now ≡ stopped (Some (Ended r.given)) =
    sym c.self.view_is ∙ reading_given r.parameter r.left r.given r.value bits c.if-self-eq0.false
    ∙ reading_ended r.parameter r.left r.given r.value bits c.if-self-eq0-2.false c.in_default.ensures.none in
    (ap (λ (x : Reading). x.values) is, ap (λ (x : Reading). x.fault) is, refl)

pub returns-then-value-from-clause-fault : goal.returns-then-value-from-clause-fault
returns-then-value-from-clause-fault c =
    let r = c.self.inside in
    let bits = bits_from r.at.bytes.now r.at.bit in
    let code = c.in-Some.ensures.some in
    let is : c.args.self.now ≡ stopped (Some (Range r.given)) =
    sym c.self.view_is ∙ reading_given r.parameter r.left r.given r.value bits c.if-self-eq0.false
    ∙ reading_beyond r.parameter r.left r.given r.value code.0 bits _ c.if-self-eq0-2.false code.1 (omega (arith, code.2)) in
    (ap (λ (x : Reading). x.values) is, ap (λ (x : Reading). x.fault) is, refl)

pub returns-clause-value : goal.returns-clause-value
returns-clause-value c =
    let r = c.self.inside in
    let bits = bits_from r.at.bytes.now r.at.bit in
    let code = c.in-Some.ensures.some in
    let value = c.from.result + c.in-Some.delta in
    let is : c.args.self.now ≡ with_value value (reading_after r.parameter (r.left - 1) (r.given + 1) value (bits_from c.in-Some.at.bytes.now c.in-Some.at.bit)) =
    sym c.self.view_is ∙ reading_given r.parameter r.left r.given r.value bits c.if-self-eq0.false
    ∙ reading_value r.parameter r.left r.given r.value code.0 value bits (bits_from c.in-Some.at.bytes.now c.in-Some.at.bit) c.if-self-eq0-2.false code.1 (omega (arith, code.2)) (omega arith) in
    ap (λ (x : Reading). x.values) is

pub returns-clause-value_fault : goal.returns-clause-value_fault
returns-clause-value_fault c =
    let r = c.self.inside in
    let bits = bits_from r.at.bytes.now r.at.bit in
    let code = c.in-Some.ensures.some in
    let value = c.from.result + c.in-Some.delta in
    let is : c.args.self.now ≡ with_value value (reading_after r.parameter (r.left - 1) (r.given + 1) value (bits_from c.in-Some.at.bytes.now c.in-Some.at.bit)) =
    sym c.self.view_is ∙ reading_given r.parameter r.left r.given r.value bits c.if-self-eq0.false
    ∙ reading_value r.parameter r.left r.given r.value code.0 value bits (bits_from c.in-Some.at.bytes.now c.in-Some.at.bit) c.if-self-eq0-2.false code.1 (omega (arith, code.2)) (omega arith) in
    ap (λ (x : Reading). x.fault) (sym is)
