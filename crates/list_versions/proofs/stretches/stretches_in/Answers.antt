use Rattle.std.proofs.Common.{◌≡◌, ◌∙◌, ◌+◌, List, length, take, drop, sym, ap, subst, arith, true, false}
use Rattle.std.specs.Prelude.{All}
use Rattle.std.specs.List.{list_any}
use Rattle.std.proofs.lemmas.List.{drop-drop, length-drop}
use Rattle.list_versions.specs.declared.stretch.Stretch.{Stretch}
use Rattle.list_versions.specs.Ends.{adds_of}
use Rattle.list_versions.specs.Stretches.{IsStretch, shows_at}
use Rattle.list_versions.proofs.Standings.{part, part_adds, part_ends, part_fits}
use Rattle.list_versions.proofs.StretchLines.{shown_other, shown_own}
use Rattle.list_versions.proofs.Versions.{count_step}
use Rattle.list_versions.proofs.stretches.stretches_in.Goals as goal
use Rattle.list_versions.proofs.stretches.stretches_in.Goals.{then-same+in_ok-push_stretches, else-same}

pub split_at-requires : goal.split_at-requires
split_at-requires c =
    let changes = c.args.changes.now in
    let i = c.loop-i.i in
    omega (
      arith,
      part_fits c.args.list changes i c.index-changes-i.result c.loop-i-test.true c.index-changes-i.is (sym c.same.ensures ∙ c.if-same.true),
      c.requires.ends,
      c.len.ensures,
      ap length c.loop-i.invariant.rest,
      length-drop (length (adds_of c.args.list (take i changes))) c.args.ends.now,
    )

pub loop-i-preserved : goal.loop-i-preserved
loop-i-preserved c =
    let changes = c.args.changes.now in
    let i = c.loop-i.i in
    let item = c.index-changes-i.result in
    let from = length (adds_of c.args.list (take i changes)) in
    let lt = c.loop-i-test.true in
    let is = c.index-changes-i.is in
    elim c.if-same.branch [
      | then-same+in_ok-push_stretches w ↦ (
          let own = sym c.same.ensures ∙ w.if-same.true in
          let next : from + length item.adds ≡ length (adds_of c.args.list (take (i + 1) changes)) = sym (count_step c.args.list changes i item true lt is own) in
          let count : w.len.result ≡ length item.adds = w.len.ensures in
          record {
            rest = ap (λ r. r.now) w.rest-is ∙ w.split_at.ensures.back ∙ ap (λ n. drop n c.loop-i.rest.now) count ∙ ap (drop (length item.adds)) c.loop-i.invariant.rest
                ∙ drop-drop (length item.adds) from c.args.ends.now ∙ ap (λ n. drop n c.args.ends.now) next;
            shown = λ lines a e version prefix.
                ap (λ v. list_any (shows_at version prefix) v.items) w.found-is
                ∙ shown_own c.args.list changes i item lines c.loop-i.found.items w.push_stretches.new.found.items lt is own
                (w.in_ok-push_stretches.ensures.shown (part from (length item.adds) lines) (part_adds c.args.list changes i item lines lt is own a ∙ sym w.as_slice.ensures)
                (part_ends from (length item.adds) lines c.args.ends.now c.loop-i.rest.now e c.loop-i.invariant.rest ∙ ap (λ n. take n c.loop-i.rest.now) (sym count) ∙ sym w.split_at.ensures.front))
                (c.loop-i.invariant.shown lines a e) version prefix;
            each = λ versions fits.
                subst (λ (ss : List Stretch). All (IsStretch versions) ss) (sym (ap (λ v. v.items) w.found-is))
                (w.in_ok-push_stretches.ensures.each versions (omega (arith, lt, fits)) (c.loop-i.invariant.each versions fits));
          })
      | else-same w ↦ (
          let other = sym c.same.ensures ∙ w.if-same.false in
          let next : from ≡ length (adds_of c.args.list (take (i + 1) changes)) = omega (arith, count_step c.args.list changes i item false lt is other) in
          record {
            rest = ap (λ r. r.now) w.rest-is ∙ c.loop-i.invariant.rest ∙ ap (λ n. drop n c.args.ends.now) next;
            shown = λ lines a e version prefix.
                ap (λ v. list_any (shows_at version prefix) v.items) w.found-is
                ∙ shown_other c.args.list changes i item lines c.loop-i.found.items lt is other (c.loop-i.invariant.shown lines a e) version prefix;
            each = λ versions fits. subst (λ (ss : List Stretch). All (IsStretch versions) ss) (sym (ap (λ v. v.items) w.found-is)) (c.loop-i.invariant.each versions fits);
          })
    ]
