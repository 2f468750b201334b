use Rattle.std.proofs.Common.{◌≡◌, ◌+◌, ◌-◌, ◌<◌, length, Some, None, refl, sym, ap, ◌∙◌, arith}
use Rattle.std.proofs.lemmas.Bool.Decides.{nat_tests}
use Rattle.std.proofs.lemmas.List.{nil_from_length}
use Rattle.std.proofs.lemmas.Result.{err_from_is_err_and}
use Rattle.proto_wire.specs.Wire.{WireField}
use Rattle.proto_wire.specs.Reading.{WireReading, with_item, ended_with, items_from, field_at}
use Rattle.proto_wire.specs.Given.{given_field}
use Rattle.proto_wire.proofs.ItemFacts.{read_end, read_fault, read_item}
use Rattle.proto_wire.proofs.FieldExact.{field_shrinks}
use Rattle.proto_wire.proofs.fields.Fields.next.Goals as goal

pub returns-then-is_empty-clause-end : goal.returns-then-is_empty-clause-end
returns-then-is_empty-clause-end c =
    let r = c.self.inside in
    let none : length r.rest.now ≡ 0 = grind (arith, nat_tests, c.if-is_empty.ensures) in
    let is : c.args.self.now ≡ ended_with None =
    sym c.self.view_is ∙ read_end field_at r.place r.rest.now (nil_from_length r.rest.now none) in
    (ap (λ (x : WireReading WireField). x.items) is, ap (λ (x : WireReading WireField). x.fault) is, refl)

pub returns-in_err-taken-clause-fault : goal.returns-in_err-taken-clause-fault
returns-in_err-taken-clause-fault c =
    let r = c.self.inside in
    let err = err_from_is_err_and c.from_residual.result c.from_residual.ensures.1 in
    let some : 0 < length r.rest.now = grind (arith, nat_tests, c.if-is_empty.ensures) in
    let is : c.args.self.now ≡ ended_with (Some c.in_err-taken.field-0.0) =
    sym c.self.view_is ∙ read_fault field_at r.place r.rest.now c.in_err-taken.field-0.0 some c.in_err-taken.ensures.fault in
    rw (err.1, err.2) (ap (λ (x : WireReading WireField). x.items) is, ap (λ (x : WireReading WireField). x.fault) is, refl)

pub overflow_sub-self : goal.overflow_sub-self
overflow_sub-self c =
    let r = c.self.inside in
    let t = c.in_ok-taken in
    omega (arith, field_shrinks r.place r.rest.now _ t.taken.rest.now t.ensures.read)

pub invariant_of-self : goal.invariant_of-self
invariant_of-self c =
    let r = c.self.inside in
    let t = c.in_ok-taken in
    omega (arith, field_shrinks r.place r.rest.now _ t.taken.rest.now t.ensures.read, c.self.invariant)

pub returns-clause-field : goal.returns-clause-field
returns-clause-field c =
    let r = c.self.inside in
    let t = c.in_ok-taken in
    let later = items_from field_at (r.place + (length r.rest.now - length t.taken.rest.now)) t.taken.rest.now in
    let is : c.args.self.now ≡ with_item (given_field t.taken.field) later =
    sym c.self.view_is ∙ read_item field_at field_shrinks r.place r.rest.now (given_field t.taken.field) t.taken.rest.now t.ensures.read in
    ap (λ (x : WireReading WireField). x.items) is

pub returns-clause-field_fault : goal.returns-clause-field_fault
returns-clause-field_fault c =
    let r = c.self.inside in
    let t = c.in_ok-taken in
    let later = items_from field_at (r.place + (length r.rest.now - length t.taken.rest.now)) t.taken.rest.now in
    let is : c.args.self.now ≡ with_item (given_field t.taken.field) later =
    sym c.self.view_is ∙ read_item field_at field_shrinks r.place r.rest.now (given_field t.taken.field) t.taken.rest.now t.ensures.read in
    ap (λ (x : WireReading WireField). x.fault) (sym is)
