use Rattle.std.proofs.Common.{◌∙◌, List, length, sym, ap, subst, arith}
use Rattle.std.specs.Prelude.{All}
use Rattle.std.specs.List.{list_all, list_any}
use Rattle.sb_model.specs.declared.history.Change.{Change}
use Rattle.sb_model.specs.Names.{same_name}
use Rattle.list_versions.specs.Draft.{history_of}
use Rattle.list_versions.specs.Ends.{adds_of}
use Rattle.list_versions.specs.Live.{HasRead}
use Rattle.list_versions.specs.Stretches.{AreStretches}
use Rattle.list_versions.specs.declared.draft.Listed.{Listed}
use Rattle.list_versions.specs.declared.stretch.Stretch.{Stretch}
use Rattle.list_versions.proofs.ReadBack.{ends_long}
use Rattle.list_versions.proofs.StretchLines.{all_adds, of_four, no_stretches, stretches_are}
use Rattle.list_versions.proofs.stretches.stretches_of.Goals as goal

pub returns-then-not-all_have_four_bytes-clause-none : goal.returns-then-not-all_have_four_bytes-clause-none
returns-then-not-all_have_four_bytes-clause-none c =
    ap (λ (cs : List Change). list_all of_four (adds_of c.args.list cs)) (sym c.as_slice-changes.ensures.value)
    ∙ all_adds c.args.list c.as_slice-changes.result.now ∙ sym c.all_have_four_bytes.ensures ∙ c.if-not-all_have_four_bytes.true

pub returns-in_default-clause-some : goal.returns-in_default-clause-some
returns-in_default-clause-some c =
    subst (λ (ss : List Stretch). AreStretches (history_of c.args.draft.now) c.args.list ss) (sym c.new.ensures.items)
    (no_stretches c.args.draft.now c.args.list c.requires
    (ap (λ (ls : List Listed). list_any (λ (listed : Listed). same_name listed.name c.args.list) ls) (sym c.as_slice.ensures.value) ∙ c.in_default.ensures.none))

pub stretches_in-requires-clause-ends : goal.stretches_in-requires-clause-ends
stretches_in-requires-clause-ends c =
    let read = c.in-Some.ensures.read c.args.draft.now.changes.items (subst (λ (ls : List Listed). All (λ (list : Listed). HasRead list.name c.args.draft.now.changes.items list.live) ls) (sym c.as_slice.ensures.value) c.requires.read) in
    ap length c.as_slice-2.ensures.value ∙ ends_long c.args.list c.args.draft.now.changes.items c.in-Some.live.now read
    ∙ ap (λ (cs : List Change). length (adds_of c.args.list cs)) (sym c.as_slice-changes.ensures.value)

pub returns-clause-some : goal.returns-clause-some
returns-clause-some c =
    let read = c.in-Some.ensures.read c.args.draft.now.changes.items (subst (λ (ls : List Listed). All (λ (list : Listed). HasRead list.name c.args.draft.now.changes.items list.live) ls) (sym c.as_slice.ensures.value) c.requires.read) in
    stretches_are c.args.draft.now c.args.list c.in-Some.live.now c.as_slice-changes.result.now c.as_slice-2.result.now c.in_ok-found.found.items c.put_in_order.new.stretches.items read
    c.as_slice-changes.ensures.value c.as_slice-2.ensures.value (all_adds c.args.list c.as_slice-changes.result.now ∙ sym c.all_have_four_bytes.ensures ∙ c.if-not-all_have_four_bytes.false) c.in_ok-found.ensures.shown
    (c.in_ok-found.ensures.each (history_of c.args.draft.now) (omega (arith, ap length c.as_slice-changes.ensures.value))) c.put_in_order.ensures.moved c.put_in_order.ensures.order
