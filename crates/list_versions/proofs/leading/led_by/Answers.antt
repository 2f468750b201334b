use Rattle.std.proofs.Common.{◌≡◌, ◌∙◌, List, ◌++◌, map, take}
use Rattle.std.specs.Prelude.{All}
use Rattle.prefix_set.specs.declared.difference.Delta.{Delta}
use Rattle.sb_model.specs.Difference.{removed_places, added_members}
use Rattle.sb_model.specs.History.{prefix_of}
use Rattle.sb_model.specs.Prefixes.{set_of}
use Rattle.list_versions.specs.Ends.{Line, unended}
use Rattle.list_versions.specs.Leading.{older_place}
use Rattle.list_versions.specs.Live.{IsPlaced, IsPublishable}
use Rattle.list_versions.proofs.Leads.{AreApart, gained_apart, ok_then, removals_apart}
use Rattle.list_versions.proofs.Mapped.{SetLaws}
use Rattle.list_versions.proofs.leading.led_by.Goals as goal

pub returns-clause-removals : goal.returns-clause-removals
returns-clause-removals c =
    let laws : SetLaws = record { rising = c.sets_go_by_members.ensures.rising; members = c.sets_go_by_members.ensures.members; only = c.sets_go_by_members.ensures.only } in
    let are : AreApart c.args.live.now c.args.count c.args.newest.now c.in_ok-lost.lost c.in_ok-gained.gained c.args.went.now c.args.came.now =
    record { well_went = c.requires.went; well_came = c.requires.came; is_lost = c.in_ok-lost.ensures; is_gained = c.in_ok-gained.ensures } in
    ok_then c.delta_of.result (λ (delta : Delta). delta.removals ≡ map (older_place c.args.newest.now c.in_ok-lost.lost c.in_ok-gained.gained) c.in_ok-lost.lost)
    (λ (delta : Delta). (lines : List Line) → IsPlaced c.args.live.now lines → All IsPublishable (unended (take c.args.count lines))
    → c.args.newest.now ≡ set_of (map prefix_of (unended (take c.args.count lines) ++ c.args.came.now))
    → delta.removals ≡ removed_places (set_of (map prefix_of (unended (take c.args.count lines) ++ c.args.went.now))) c.args.newest.now)
    (λ delta places lines placed well is. removals_apart laws c.args.live.now lines c.args.count c.args.newest.now c.in_ok-lost.lost c.in_ok-gained.gained c.args.went.now c.args.came.now delta.removals are placed well is places)
    c.delta_of.ensures.removals

pub returns-clause-additions : goal.returns-clause-additions
returns-clause-additions c =
    let laws : SetLaws = record { rising = c.sets_go_by_members.ensures.rising; members = c.sets_go_by_members.ensures.members; only = c.sets_go_by_members.ensures.only } in
    let are : AreApart c.args.live.now c.args.count c.args.newest.now c.in_ok-lost.lost c.in_ok-gained.gained c.args.went.now c.args.came.now =
    record { well_went = c.requires.went; well_came = c.requires.came; is_lost = c.in_ok-lost.ensures; is_gained = c.in_ok-gained.ensures } in
    ok_then c.delta_of.result (λ (delta : Delta). delta.additions ≡ c.in_ok-gained.gained)
    (λ (delta : Delta). (lines : List Line) → IsPlaced c.args.live.now lines → All IsPublishable (unended (take c.args.count lines))
    → c.args.newest.now ≡ set_of (map prefix_of (unended (take c.args.count lines) ++ c.args.came.now))
    → delta.additions ≡ added_members (set_of (map prefix_of (unended (take c.args.count lines) ++ c.args.went.now))) c.args.newest.now)
    (λ delta same lines placed well is. same ∙ gained_apart laws c.args.live.now lines c.args.count c.args.newest.now c.in_ok-lost.lost c.in_ok-gained.gained c.args.went.now c.args.came.now are placed well is)
    c.delta_of.ensures.additions
