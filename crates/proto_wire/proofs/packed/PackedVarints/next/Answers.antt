use Rattle.std.proofs.Common.{◌≡◌, ℕ, ◌+◌, ◌-◌, ◌<◌, length, Some, None, refl, sym, ap, ◌∙◌, arith}
use Rattle.std.proofs.lemmas.Bool.Decides.{nat_tests}
use Rattle.std.proofs.lemmas.List.{nil_from_length}
use Rattle.std.proofs.lemmas.Result.{err_from_is_err_and}
use Rattle.proto_wire.specs.Reading.{WireReading, with_item, ended_with, items_from, varint_at}
use Rattle.proto_wire.proofs.ItemFacts.{read_end, read_fault, read_item}
use Rattle.proto_wire.proofs.VarintExact.{varint_shrinks}
use Rattle.proto_wire.proofs.packed.PackedVarints.next.Goals as goal

pub returns-then-is_empty-clause-end : goal.returns-then-is_empty-clause-end
returns-then-is_empty-clause-end c =
    let r = c.self.inside in
    let none : length r.rest.now ≡ 0 = grind (arith, nat_tests, c.if-is_empty.ensures) in
    let is : c.args.self.now ≡ ended_with None =
    sym c.self.view_is ∙ read_end varint_at r.place r.rest.now (nil_from_length r.rest.now none) in
    (ap (λ (x : WireReading ℕ). x.items) is, ap (λ (x : WireReading ℕ). x.fault) is, refl)

pub returns-in_err-taken-clause-fault : goal.returns-in_err-taken-clause-fault
returns-in_err-taken-clause-fault c =
    let r = c.self.inside in
    let err = err_from_is_err_and c.from_residual.result c.from_residual.ensures.1 in
    let some : 0 < length r.rest.now = grind (arith, nat_tests, c.if-is_empty.ensures) in
    let is : c.args.self.now ≡ ended_with (Some c.in_err-taken.field-0.0) =
    sym c.self.view_is ∙ read_fault varint_at r.place r.rest.now c.in_err-taken.field-0.0 some c.in_err-taken.ensures.fault in
    rw (err.1, err.2) (ap (λ (x : WireReading ℕ). x.items) is, ap (λ (x : WireReading ℕ). x.fault) is, refl)

pub overflow_sub-self : goal.overflow_sub-self
overflow_sub-self c =
    let r = c.self.inside in
    let t = c.in_ok-taken in
    omega (arith, varint_shrinks r.place r.rest.now _ t.taken.rest.now t.ensures.read)

pub invariant_of-self : goal.invariant_of-self
invariant_of-self c =
    let r = c.self.inside in
    let t = c.in_ok-taken in
    omega (arith, varint_shrinks r.place r.rest.now _ t.taken.rest.now t.ensures.read, c.self.invariant)

pub returns-clause-number : goal.returns-clause-number
returns-clause-number c =
    let r = c.self.inside in
    let t = c.in_ok-taken in
    let later = items_from varint_at (r.place + (length r.rest.now - length t.taken.rest.now)) t.taken.rest.now in
    let is : c.args.self.now ≡ with_item t.taken.number later =
    sym c.self.view_is ∙ read_item varint_at varint_shrinks r.place r.rest.now t.taken.number t.taken.rest.now t.ensures.read in
    ap (λ (x : WireReading ℕ). x.items) is

pub returns-clause-number_fault : goal.returns-clause-number_fault
returns-clause-number_fault c =
    let r = c.self.inside in
    let t = c.in_ok-taken in
    let later = items_from varint_at (r.place + (length r.rest.now - length t.taken.rest.now)) t.taken.rest.now in
    let is : c.args.self.now ≡ with_item t.taken.number later =
    sym c.self.view_is ∙ read_item varint_at varint_shrinks r.place r.rest.now t.taken.number t.taken.rest.now t.ensures.read in
    ap (λ (x : WireReading ℕ). x.fault) (sym is)
