use Rattle.std.proofs.Common.{◌≡◌, ◌∙◌, ◌+◌, List, length, map, take, drop, refl, sym, ap, arith, true, false}
use Rattle.std.proofs.lemmas.List.{take_all, drop-drop, length-drop, length-map}
use Rattle.sb_model.specs.declared.history.Added.{Added}
use Rattle.sb_model.specs.declared.history.Change.{Change}
use Rattle.sb_model.specs.History.{prefix_of}
use Rattle.list_versions.specs.Ends.{Line, adds_of, lasting}
use Rattle.list_versions.specs.Quads.{quads_of}
use Rattle.list_versions.proofs.QuadLines.{part_pushed}
use Rattle.list_versions.proofs.Standings.{part, part_adds, part_ends, part_fits}
use Rattle.list_versions.proofs.Versions.{count_step}
use Rattle.list_versions.proofs.quads.heads_in.Goals as goal
use Rattle.list_versions.proofs.quads.heads_in.Goals.{then-same+in_ok-push_heads+else-not-branch, else-same}

pub split_at-requires : goal.split_at-requires
split_at-requires c =
    let changes = c.args.changes.now in
    let i = c.loop-change.change-index in
    omega (
      arith,
      part_fits c.args.list changes i c.change-item.result c.loop-change-test.true c.change-item.is (sym c.same.ensures ∙ c.if-same.true),
      c.requires,
      c.len.ensures,
      ap length c.loop-change.invariant.rest,
      length-drop (length (adds_of c.args.list (take i changes))) c.args.ends.now,
    )

pub loop-change-preserved : goal.loop-change-preserved
loop-change-preserved c =
    let changes = c.args.changes.now in
    let i = c.loop-change.change-index in
    let item = c.change-item.result in
    let from = length (adds_of c.args.list (take i changes)) in
    let lt = c.loop-change-test.true in
    let is = c.change-item.is in
    elim c.if-same.branch [
      | then-same+in_ok-push_heads+else-not-branch w ↦ (
          let own = sym c.same.ensures ∙ w.if-same.true in
          let next : from + length item.adds ≡ length (adds_of c.args.list (take (i + 1) changes)) = sym (count_step c.args.list changes i item true lt is own) in
          let count : w.len.result ≡ length item.adds = w.len.ensures in
          record {
            rest = ap (λ r. r.now) w.rest-is ∙ w.split_at.ensures.back ∙ ap (λ n. drop n c.loop-change.rest.now) count ∙ ap (drop (length item.adds)) c.loop-change.invariant.rest
                ∙ drop-drop (length item.adds) from c.args.ends.now ∙ ap (λ n. drop n c.args.ends.now) next;
            found = λ lines a e.
                part_pushed c.args.version from (length item.adds) lines (quads_of c.loop-change.found.items) (quads_of c.if-same.found.items) (c.loop-change.invariant.found lines a e)
                (ap (λ v. quads_of v.items) w.found-is
                ∙ w.in_ok-push_heads.ensures w.if-not-branch.false (part from (length item.adds) lines) (part_adds c.args.list changes i item lines lt is own a ∙ sym w.as_slice.ensures)
                (part_ends from (length item.adds) lines c.args.ends.now c.loop-change.rest.now e c.loop-change.invariant.rest ∙ ap (λ n. take n c.loop-change.rest.now) (sym count) ∙ sym w.split_at.ensures.front))
                ∙ ap (λ n. map prefix_of (lasting c.args.version true (take n lines))) next;
          })
      | else-same w ↦ (
          let next : from ≡ length (adds_of c.args.list (take (i + 1) changes)) = omega (arith, count_step c.args.list changes i item false lt is (sym c.same.ensures ∙ w.if-same.false)) in
          record {
            rest = ap (λ r. r.now) w.rest-is ∙ c.loop-change.invariant.rest ∙ ap (λ n. drop n c.args.ends.now) next;
            found = λ lines a e. ap (λ v. quads_of v.items) w.found-is ∙ c.loop-change.invariant.found lines a e ∙ ap (λ n. map prefix_of (lasting c.args.version true (take n lines))) next;
          })
    ]

pub returns : goal.returns
returns c = λ lines a e.
    let changes = c.args.changes.now in
    let whole : take c.loop-change.change-index changes ≡ changes = take_all c.loop-change.change-index changes (omega (arith, c.loop-change-test.false)) in
    let long : length lines ≡ length (adds_of c.args.list changes) = sym (length-map {B = Added} lines (λ (l : Line). l.0)) ∙ ap length a in
    c.loop-change.invariant.found lines a e ∙ ap (λ (cs : List Change). map prefix_of (lasting c.args.version true (take (length (adds_of c.args.list cs)) lines))) whole
    ∙ ap (λ (ls : List Line). map prefix_of (lasting c.args.version true ls)) (take_all (length (adds_of c.args.list changes)) lines (omega (arith, long)))
