use Rattle.std.proofs.Common.{◌∙◌, ◌⊎◌, List, ℕ, map, subst}
use Rattle.std.specs.Prelude.{Contains, ◌↔◌}
use Rattle.prefix_set.specs.Apply.{Stays}
use Rattle.sb_model.specs.History.{prefix_of}
use Rattle.list_versions.proofs.Mapped.{SetLaws}
use Rattle.list_versions.proofs.Shiftings.{reached}
use Rattle.list_versions.proofs.Shown.{all_shown}
use Rattle.list_versions.proofs.shifting.shifted.Goals as goal

pub returns-in-Ok : goal.returns-in-Ok
returns-in-Ok c = λ lines placed well is.
    let additions = c.as_slice-2.ensures.value ∙ c.in_ok-additions.ensures ∙ all_shown c.args.coming.now c.requires.coming in
    let going = c.in_ok-removals.ensures in
    let laws : SetLaws = record { rising = c.sets_go_by_members.ensures.rising; members = c.sets_go_by_members.ensures.members; only = c.sets_go_by_members.ensures.only } in
    reached laws c.args.live.now lines c.args.count c.args.set.now c.in-Ok.next c.args.leaving.now c.args.coming.now c.in_ok-removals.removals.items placed well is going c.in-Ok.ensures.rising
    (λ x. subst (λ (rs : List ℕ). Contains c.in-Ok.next x ↔ (Stays c.args.set.now rs x ⊎ Contains (map prefix_of c.args.coming.now) x)) c.as_slice.ensures.value
    (subst (λ (ps : List (List ℕ)). Contains c.in-Ok.next x ↔ (Stays c.args.set.now c.as_slice.result.now x ⊎ Contains ps x)) additions (c.in-Ok.ensures.members x)))
