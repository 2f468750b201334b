use Rattle.std.proofs.Common.{◌<◌, ◌^◌}
use Rattle.std.proofs.lemmas.List.Elements.{All-weaker}
use Rattle.sb_model.specs.History.{History}
use Rattle.list_versions.specs.Stretches.{AreStretches, IsStretch}
use Rattle.list_versions.specs.declared.stretch.Stretch.{Stretch}
use Rattle.delta_server.proofs.CountFacts.{SetLaws}
use Rattle.delta_server.proofs.LeadFacts.{few_at, digest_is, lead_is}
use Rattle.delta_server.proofs.passages.kept_lead.Goals as goal

pub lead_between-requires-clause-order : goal.lead_between-requires-clause-order
lead_between-requires-clause-order c =
    let versions : History = c.args.history.now.versions in
    let are : AreStretches versions c.args.list c.in-Some.stretches.now = c.in-Some.ensures versions c.requires.swept in
    are.order

pub lead_between-requires-clause-heads : goal.lead_between-requires-clause-heads
lead_between-requires-clause-heads c =
    let versions : History = c.args.history.now.versions in
    let are : AreStretches versions c.args.list c.in-Some.stretches.now = c.in-Some.ensures versions c.requires.swept in
    All-weaker (IsStretch versions) (λ (stretch : Stretch). stretch.head < 2 ^ 32) (λ stretch is. is.head) c.in-Some.stretches.now are.each

pub lead_between-requires-clause-few : goal.lead_between-requires-clause-few
lead_between-requires-clause-few c =
    let laws : SetLaws = record { members = c.sets_go_by_members.ensures.members; same = c.sets_go_by_members.ensures.same } in
    let versions : History = c.args.history.now.versions in
    let are : AreStretches versions c.args.list c.in-Some.stretches.now = c.in-Some.ensures versions c.requires.swept in
    few_at laws versions c.args.list c.in-Some.stretches.now are c.args.held c.requires.within c.len.ensures.within

pub returns-clause-leads : goal.returns-clause-leads
returns-clause-leads c =
    let laws : SetLaws = record { members = c.sets_go_by_members.ensures.members; same = c.sets_go_by_members.ensures.same } in
    let versions : History = c.args.history.now.versions in
    let are : AreStretches versions c.args.list c.in-Some.stretches.now = c.in-Some.ensures versions c.requires.swept in
    lead_is laws versions c.args.list c.in-Some.stretches.now are c.args.held c.args.version c.requires.within c.requires.version c.in_ok-lead.lead.delta
    c.in_ok-lead.ensures.removals c.in_ok-lead.ensures.additions

pub returns-clause-digest : goal.returns-clause-digest
returns-clause-digest c =
    let laws : SetLaws = record { members = c.sets_go_by_members.ensures.members; same = c.sets_go_by_members.ensures.same } in
    let versions : History = c.args.history.now.versions in
    let are : AreStretches versions c.args.list c.in-Some.stretches.now = c.in-Some.ensures versions c.requires.swept in
    digest_is laws versions c.args.list c.in-Some.stretches.now are c.args.version c.requires.version c.in_ok-lead.lead.digest c.in_ok-lead.ensures.digest
