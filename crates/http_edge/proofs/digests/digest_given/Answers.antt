use Rattle.std.proofs.Common.{codes, subst}
use Rattle.std.specs.Prelude.{All}
use Rattle.std.proofs.lemmas.List.{take_all}
use Rattle.std.specs.List.{flat_map}
use Rattle.http_edge.specs.Fields.{values_at}
use Rattle.http_edge.specs.Digests.{members_in, IsNoDigest}
use Rattle.http_edge.proofs.DigestFacts.{none_in_more, first_in_fields}
use Rattle.http_edge.proofs.digests.digest_given.Goals as goal

pub returns-in-Some : goal.returns-in-Some
returns-in-Some c =
    first_in_fields c.args.buffer.now c.args.fields.now (codes "content-digest") c.loop-field.field-index _ c.in-Some.digest
    c.loop-field-test.true c.loop-field.invariant (rw c.in-Some.is at c.in_ok-digest.ensures)

pub loop-field-preserved : goal.loop-field-preserved
loop-field-preserved c =
    none_in_more c.args.buffer.now c.args.fields.now (codes "content-digest") c.loop-field.field-index _
    c.loop-field-test.true c.loop-field.invariant (rw c.in_default.is at c.in_ok-digest.ensures)

pub returns : goal.returns
returns c =
    let fields = c.args.fields.now in
    subst (λ all. All IsNoDigest (flat_map members_in (values_at c.args.buffer.now all (codes "content-digest"))))
    (take_all c.loop-field.field-index fields c.loop-field-test.false) c.loop-field.invariant
