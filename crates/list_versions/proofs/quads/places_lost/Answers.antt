use Rattle.std.proofs.Common.{◌≡◌, ◌∙◌, append-nil, get_or, refl, sym, true, false}
use Rattle.std.specs.Int.{w32, to_be_bytes}
use Rattle.sb_model.specs.Difference.{has_member}
use Rattle.list_versions.specs.Quads.{quads_of}
use Rattle.list_versions.proofs.QuadRows.{place_noted, tells_first, tells_here, tells_next}
use Rattle.list_versions.proofs.quads.places_lost.Goals as goal
use Rattle.list_versions.proofs.quads.places_lost.Goals.{then-not-is_first+in_ok-push, else-not-is_first}

pub loop-i-init : goal.loop-i-init
loop-i-init c = record { places = c.in_ok-places.ensures; tells = tells_first c.args.newer.now c.requires.newer }

pub loop-i-preserved : goal.loop-i-preserved
loop-i-preserved c =
    let older = c.args.older.now in
    let newer = c.args.newer.now in
    let i = c.loop-i.i in
    let next = c.from_number-rest.result.now in
    let has : has_member (quads_of newer) (to_be_bytes w32 (get_or older i 0)) ≡ c.is_first.result =
    tells_here older newer c.loop-i.rest.now next i (get_or older i 0) c.requires.older c.loop-i-test.true refl c.loop-i.invariant.tells c.from_number-rest.ensures
    (λ k. (c.type_inv.newer k).fits) (c.type_inv.older i).fits ∙ sym c.is_first.ensures in
    let tells = tells_next older newer c.loop-i.rest.now next i (get_or older i 0) c.loop-i-test.true refl c.loop-i.invariant.tells c.from_number-rest.ensures in
    elim c.if-not-is_first.branch [
      | then-not-is_first+in_ok-push w ↦ record {
        places = place_noted older newer i (get_or older i 0) false c.loop-i.places c.if-not-is_first.places c.loop-i-test.true refl (has ∙ w.if-not-is_first.true) c.loop-i.invariant.places
            (w.places-is ∙ w.in_ok-push.ensures.ok);
        tells = tells;
      }
      | else-not-is_first w ↦ record {
        places = place_noted older newer i (get_or older i 0) true c.loop-i.places c.if-not-is_first.places c.loop-i-test.true refl (has ∙ w.if-not-is_first.false) c.loop-i.invariant.places
            (w.places-is ∙ sym (append-nil c.loop-i.places));
        tells = tells;
      }
    ]
