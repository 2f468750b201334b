use Rattle.std.proofs.Common.{◌∙◌, List, length, take, drop, sym, ap, subst, arith, false}
use Rattle.std.specs.Prelude.{All}
use Rattle.sb_model.specs.declared.history.Added.{Added}
use Rattle.sb_model.specs.declared.history.Change.{Change}
use Rattle.list_versions.specs.Ends.{adds_of, lasting, unended}
use Rattle.list_versions.specs.Limits.{hash_lines}
use Rattle.list_versions.specs.Live.{IsPublishable}
use Rattle.list_versions.proofs.Folds.{read_placed}
use Rattle.list_versions.proofs.Mapped.{SetLaws}
use Rattle.list_versions.proofs.ReadBack.{ends_long}
use Rattle.list_versions.proofs.Shifts.{found_of, shift_to, shifts}
use Rattle.list_versions.proofs.shifting.older_set.Goals as goal

pub shift_since-requires : goal.shift_since-requires
shift_since-requires c = record {
  version = omega (arith, c.requires.version, ap length c.as_slice-changes.ensures.value);
  ends = ap length c.as_slice.ensures.value ∙ ends_long c.args.list c.args.draft.now.changes.items c.args.live.now (read_placed c.args.list c.args.draft.now.changes.items c.args.live.now c.requires.placed)
      ∙ ap (λ (cs : List Change). length (adds_of c.args.list cs)) (sym c.as_slice-changes.ensures.value);
  few = omega (arith, ap hash_lines c.as_slice-changes.ensures.value, c.requires.stem.hashes, c.requires.stem.few_hashes);
}

pub shifted-requires : goal.shifted-requires
shifted-requires c =
    let count = c.in_ok-shift.shift.count in
    let found = found_of c.args.list c.args.draft.now.changes.items c.args.live.now c.requires.placed c.args.version count c.in_ok-shift.shift.went.items c.in_ok-shift.shift.came.items c.as_slice-changes.result.now c.as_slice.result.now
    c.as_slice-changes.ensures.value c.as_slice.ensures.value c.in_ok-shift.ensures.went c.in_ok-shift.ensures.came in
    let laws : SetLaws = record { rising = c.sets_go_by_members.ensures.rising; members = c.sets_go_by_members.ensures.members; only = c.sets_go_by_members.ensures.only } in
    let fact = shifts laws c.args.draft.now c.args.list c.args.version count c.args.live.now c.requires.placed c.requires.stem c.requires.version
    (c.in_ok-shift.ensures.count ∙ ap (λ (cs : List Change). length (adds_of c.args.list (take c.args.version cs))) c.as_slice-changes.ensures.value) in
    record {
      leaving = subst (λ (es : List Added). All IsPublishable es) (sym (c.as_slice-2.ensures.value ∙ found.came)) fact.came;
      coming = subst (λ (es : List Added). All IsPublishable es) (sym (c.as_slice-3.ensures.value ∙ found.went)) fact.went;
    }

pub returns : goal.returns
returns c =
    let count = c.in_ok-shift.shift.count in
    let found = found_of c.args.list c.args.draft.now.changes.items c.args.live.now c.requires.placed c.args.version count c.in_ok-shift.shift.went.items c.in_ok-shift.shift.came.items c.as_slice-changes.result.now c.as_slice.result.now
    c.as_slice-changes.ensures.value c.as_slice.ensures.value c.in_ok-shift.ensures.went c.in_ok-shift.ensures.came in
    let laws : SetLaws = record { rising = c.sets_go_by_members.ensures.rising; members = c.sets_go_by_members.ensures.members; only = c.sets_go_by_members.ensures.only } in
    let fact = shifts laws c.args.draft.now c.args.list c.args.version count c.args.live.now c.requires.placed c.requires.stem c.requires.version
    (c.in_ok-shift.ensures.count ∙ ap (λ (cs : List Change). length (adds_of c.args.list (take c.args.version cs))) c.as_slice-changes.ensures.value) in
    shift_to c.shifted.result c.args.live.now c.requires.placed.lines count c.args.newest.now _ c.as_slice-2.result.now c.as_slice-3.result.now
    (unended (drop count c.requires.placed.lines)) (lasting c.args.version false (take count c.requires.placed.lines))
    c.requires.placed.placed fact.first (c.as_slice-2.ensures.value ∙ found.came) (c.as_slice-3.ensures.value ∙ found.went) (c.requires.newest ∙ fact.newer) fact.older c.shifted.ensures
