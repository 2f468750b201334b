use Rattle.std.proofs.Common.{◌≡◌, ℕ, ◌<◌, ◌≤◌, ◌^◌, ◌∙◌, subst, arith}
use Rattle.std.proofs.lemmas.List.Elements.{All-weaker}
use Rattle.sb_model.specs.History.{History, version_count}
use Rattle.list_versions.specs.Stretches.{AreStretches, IsStretch}
use Rattle.list_versions.specs.declared.stretch.Stretch.{Stretch}
use Rattle.delta_server.specs.Served.{LeadsTo}
use Rattle.delta_server.proofs.CountFacts.{SetLaws}
use Rattle.delta_server.proofs.LeadFacts.{few_at, lead_is}
use Rattle.delta_server.proofs.passages.kept_delta.Goals as goal

pub passage_between-requires-clause-order : goal.passage_between-requires-clause-order
passage_between-requires-clause-order c =
    let versions : History = c.args.history.now.versions in
    let are : AreStretches versions c.args.list c.in-Some.stretches.now = c.in-Some.ensures versions c.requires.swept in
    are.order

pub passage_between-requires-clause-heads : goal.passage_between-requires-clause-heads
passage_between-requires-clause-heads c =
    let versions : History = c.args.history.now.versions in
    let are : AreStretches versions c.args.list c.in-Some.stretches.now = c.in-Some.ensures versions c.requires.swept in
    All-weaker (IsStretch versions) (λ (stretch : Stretch). stretch.head < 2 ^ 32) (λ stretch is. is.head) c.in-Some.stretches.now are.each

pub passage_between-requires-clause-few : goal.passage_between-requires-clause-few
passage_between-requires-clause-few c =
    let laws : SetLaws = record { members = c.sets_go_by_members.ensures.members; same = c.sets_go_by_members.ensures.same } in
    let versions : History = c.args.history.now.versions in
    let are : AreStretches versions c.args.list c.in-Some.stretches.now = c.in-Some.ensures versions c.requires.swept in
    few_at laws versions c.args.list c.in-Some.stretches.now are c.args.held c.requires.within c.len-newest.ensures.within

pub returns : goal.returns
returns c =
    let laws : SetLaws = record { members = c.sets_go_by_members.ensures.members; same = c.sets_go_by_members.ensures.same } in
    let versions : History = c.args.history.now.versions in
    let are : AreStretches versions c.args.list c.in-Some.stretches.now = c.in-Some.ensures versions c.requires.swept in
    let newest : c.len-newest.result ≡ version_count versions = c.len-newest.ensures.count in
    let within : c.len-newest.result ≤ version_count versions = omega (arith, newest) in
    subst (λ (v : ℕ). LeadsTo versions c.args.list c.args.held v c.into_delta-delta.result) newest
    (lead_is laws versions c.args.list c.in-Some.stretches.now are c.args.held c.len-newest.result c.requires.within within c.into_delta-delta.result
    (c.into_delta-delta.ensures.removals ∙ c.in_ok-passage.ensures.removals) (c.into_delta-delta.ensures.additions ∙ c.in_ok-passage.ensures.additions))
