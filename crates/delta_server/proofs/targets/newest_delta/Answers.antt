use Rattle.std.proofs.Common.{◌≡◌, ◌≤◌, ◌+◌, ℕ, List, Some, true, length, refl, sym, ap, ◌∙◌, arith}
use Rattle.sb_model.specs.declared.names.ListName.{ListName}
use Rattle.sb_model.specs.Difference.{difference_count}
use Rattle.sb_model.specs.History.{History, version_count, prefixes_at}
use Rattle.sb_model.specs.Target.{is_within, target_version}
use Rattle.delta_server.proofs.AnswerFacts.{told_takes, reaches_newest}
use Rattle.delta_server.proofs.targets.newest_delta.Goals as goal

pub returns-then-is_within-clause-target : goal.returns-then-is_within-clause-target
returns-then-is_within-clause-target c =
    let versions : History = c.args.history.now.versions in
    let list : ListName = c.args.list in
    let update : ℕ = c.args.limits.update in
    let database : ℕ = c.args.limits.database in
    let old : List (List ℕ) = prefixes_at versions list c.args.held in
    let newer : List (List ℕ) = prefixes_at versions list (version_count versions) in
    let count : c.len-2.result + c.len-3.result ≡ difference_count old newer =
    omega (arith, c.len-2.ensures, c.len-3.ensures, ap length c.in_ok-delta.ensures.removals, ap length c.in_ok-delta.ensures.additions) in
    let few : is_within database (length newer) ≡ true =
    ap (λ (s : List (List ℕ)). is_within database (length s)) (sym c.requires.newest)
    ∙ ap (is_within database) (sym (c.from.ensures ∙ c.len.ensures.value)) ∙ sym c.is_within.ensures ∙ c.if-not-is_within.false in
    let takes = told_takes old newer update database (ap (is_within update) (sym count) ∙ sym c.is_within-2.ensures ∙ c.if-is_within.true) few in
    let reach = reaches_newest versions list update database (Some c.args.held) old newer c.requires.within refl refl takes in
    let up : version_count versions ≤ target_version versions list (Some c.args.held) update database =
    c.targets_are_the_greatest.ensures.greatest versions list (Some c.args.held) update database (version_count versions) (omega arith) reach in
    let down : target_version versions list (Some c.args.held) update database ≤ version_count versions =
    c.targets_are_the_greatest.ensures.last versions list (Some c.args.held) update database in
    omega (arith, up, down)
