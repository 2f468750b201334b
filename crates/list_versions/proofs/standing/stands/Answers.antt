use Rattle.std.proofs.Common.{◌≡◌, ◌∙◌, ◌+◌, List, length, take, drop, refl, sym, ap, arith, true, false}
use Rattle.std.proofs.lemmas.List.{take_all, drop-drop, length-drop, length-map}
use Rattle.sb_model.specs.declared.history.Added.{Added}
use Rattle.sb_model.specs.declared.history.Change.{Change}
use Rattle.list_versions.specs.Ends.{Line, adds_of, has_standing}
use Rattle.list_versions.proofs.Standings.{part, part_adds, part_ends, part_fits}
use Rattle.list_versions.proofs.Stands.{part_here, part_none}
use Rattle.list_versions.proofs.Versions.{count_step}
use Rattle.list_versions.proofs.standing.stands.Goals as goal
use Rattle.list_versions.proofs.standing.stands.Goals.{then-same+else-has_lasting, else-same}

pub split_at-requires : goal.split_at-requires
split_at-requires c =
    let changes = c.args.changes.now in
    let i = c.loop-change.change-index in
    omega (
      arith,
      part_fits c.args.list changes i c.change-item.result c.loop-change-test.true c.change-item.is (sym c.same.ensures ∙ c.if-same.true),
      c.requires,
      c.len.ensures,
      ap length c.loop-change.invariant.rest,
      length-drop (length (adds_of c.args.list (take i changes))) c.args.ends.now,
    )

pub returns-then-has_lasting : goal.returns-then-has_lasting
returns-then-has_lasting c = λ lines a e.
    let changes = c.args.changes.now in
    let i = c.loop-change.change-index in
    let item = c.change-item.result in
    let from = length (adds_of c.args.list (take i changes)) in
    let own = sym c.same.ensures ∙ c.if-same.true in
    let count : c.len.result ≡ length item.adds = c.len.ensures in
    sym (part_here c.args.version c.args.hash.now from (length item.adds) lines
    (sym (c.has_lasting.ensures (part from (length item.adds) lines) (part_adds c.args.list changes i item lines c.loop-change-test.true c.change-item.is own a ∙ sym c.as_slice.ensures)
    (part_ends from (length item.adds) lines c.args.ends.now c.loop-change.rest.now e c.loop-change.invariant.rest ∙ ap (λ n. take n c.loop-change.rest.now) (sym count) ∙ sym c.split_at.ensures.front))
    ∙ c.if-has_lasting.true))

pub loop-change-preserved : goal.loop-change-preserved
loop-change-preserved c =
    let changes = c.args.changes.now in
    let i = c.loop-change.change-index in
    let item = c.change-item.result in
    let from = length (adds_of c.args.list (take i changes)) in
    let lt = c.loop-change-test.true in
    let is = c.change-item.is in
    elim c.if-same.branch [
      | then-same+else-has_lasting w ↦ (
          let own = sym c.same.ensures ∙ w.if-same.true in
          let next : from + length item.adds ≡ length (adds_of c.args.list (take (i + 1) changes)) = sym (count_step c.args.list changes i item true lt is own) in
          let count : w.len.result ≡ length item.adds = w.len.ensures in
          record {
            rest = ap (λ r. r.now) w.rest-is ∙ w.split_at.ensures.back ∙ ap (λ n. drop n c.loop-change.rest.now) count ∙ ap (drop (length item.adds)) c.loop-change.invariant.rest
                ∙ drop-drop (length item.adds) from c.args.ends.now ∙ ap (λ n. drop n c.args.ends.now) next;
            none = λ lines a e.
                ap (λ n. has_standing c.args.version c.args.hash.now (take n lines)) (sym next)
                ∙ part_none c.args.version c.args.hash.now from (length item.adds) lines (c.loop-change.invariant.none lines a e)
                (sym (w.has_lasting.ensures (part from (length item.adds) lines) (part_adds c.args.list changes i item lines lt is own a ∙ sym w.as_slice.ensures)
                (part_ends from (length item.adds) lines c.args.ends.now c.loop-change.rest.now e c.loop-change.invariant.rest ∙ ap (λ n. take n c.loop-change.rest.now) (sym count) ∙ sym w.split_at.ensures.front))
                ∙ w.if-has_lasting.false);
          })
      | else-same w ↦ (
          let next : from ≡ length (adds_of c.args.list (take (i + 1) changes)) = omega (arith, count_step c.args.list changes i item false lt is (sym c.same.ensures ∙ w.if-same.false)) in
          record {
            rest = ap (λ r. r.now) w.rest-is ∙ c.loop-change.invariant.rest ∙ ap (λ n. drop n c.args.ends.now) next;
            none = λ lines a e. ap (λ n. has_standing c.args.version c.args.hash.now (take n lines)) (sym next) ∙ c.loop-change.invariant.none lines a e;
          })
    ]

pub returns : goal.returns
returns c = λ lines a e.
    let changes = c.args.changes.now in
    let whole : take c.loop-change.change-index changes ≡ changes = take_all c.loop-change.change-index changes (omega (arith, c.loop-change-test.false)) in
    let long : length lines ≡ length (adds_of c.args.list changes) = sym (length-map {B = Added} lines (λ (l : Line). l.0)) ∙ ap length a in
    sym (ap (λ (ls : List Line). has_standing c.args.version c.args.hash.now ls) (sym (take_all (length (adds_of c.args.list changes)) lines (omega (arith, long))))
    ∙ ap (λ (cs : List Change). has_standing c.args.version c.args.hash.now (take (length (adds_of c.args.list cs)) lines)) (sym whole) ∙ c.loop-change.invariant.none lines a e)
