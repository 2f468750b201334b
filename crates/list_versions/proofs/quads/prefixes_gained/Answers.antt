use Rattle.std.proofs.Common.{◌≡◌, ◌∙◌, ◌++◌, ◌∷◌, [], ℕ, List, append-nil, get_or, refl, sym, ap, true, false}
use Rattle.std.specs.Int.{w32, to_be_bytes}
use Rattle.sb_model.specs.Difference.{has_member}
use Rattle.list_versions.specs.Quads.{quads_of}
use Rattle.list_versions.proofs.QuadRows.{prefix_noted, tells_first, tells_here, tells_next}
use Rattle.list_versions.proofs.quads.prefixes_gained.Goals as goal
use Rattle.list_versions.proofs.quads.prefixes_gained.Goals.{then-not-is_first+in_ok-push, else-not-is_first}

pub loop-number-init : goal.loop-number-init
loop-number-init c = record { prefixes = c.in_ok-prefixes.ensures; tells = tells_first c.args.older.now c.requires.older }

pub loop-number-preserved : goal.loop-number-preserved
loop-number-preserved c =
    let older = c.args.older.now in
    let newer = c.args.newer.now in
    let i = c.loop-number.number-index in
    let next = c.from_number-rest.result.now in
    let has : has_member (quads_of older) (to_be_bytes w32 (get_or newer i 0)) ≡ c.is_first.result =
    tells_here newer older c.loop-number.rest.now next i (get_or newer i 0) c.requires.newer c.loop-number-test.true refl c.loop-number.invariant.tells c.from_number-rest.ensures
    (λ k. (c.type_inv.older k).fits) (c.type_inv.newer i).fits ∙ sym c.is_first.ensures in
    let tells = tells_next newer older c.loop-number.rest.now next i (get_or newer i 0) c.loop-number-test.true refl c.loop-number.invariant.tells c.from_number-rest.ensures in
    elim c.if-not-is_first.branch [
      | then-not-is_first+in_ok-push w ↦ record {
        prefixes = prefix_noted older newer i (get_or newer i 0) false c.loop-number.prefixes c.if-not-is_first.prefixes c.loop-number-test.true refl (has ∙ w.if-not-is_first.true)
            c.loop-number.invariant.prefixes (w.prefixes-is ∙ w.in_ok-push.ensures.ok ∙ ap (λ (q : List ℕ). c.loop-number.prefixes ++ q ∷ []) w.prefix_from.ensures);
        tells = tells;
      }
      | else-not-is_first w ↦ record {
        prefixes = prefix_noted older newer i (get_or newer i 0) true c.loop-number.prefixes c.if-not-is_first.prefixes c.loop-number-test.true refl (has ∙ w.if-not-is_first.false)
            c.loop-number.invariant.prefixes (w.prefixes-is ∙ sym (append-nil c.loop-number.prefixes));
        tells = tells;
      }
    ]
