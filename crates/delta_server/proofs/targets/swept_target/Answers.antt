use Rattle.std.proofs.Common.{◌≡◌, ◌+◌, ◌≤◌, ℕ, ap, arith}
use Rattle.sb_model.specs.History.{History, version_count}
use Rattle.sb_model.specs.Target.{target_version}
use Rattle.delta_server.proofs.CountFacts.{SetLaws}
use Rattle.delta_server.proofs.SweepFacts.{swept_from}
use Rattle.delta_server.proofs.targets.swept_target.Goals as goal

abbrev versions : goal.In_ok-taken → History
versions c = c.args.history.now.versions

abbrev target : goal.In_ok-taken → ℕ
target c = target_version (versions c) c.args.list c.args.from c.args.limits.update c.args.limits.database

total : (c : goal.In_ok-taken) → c.unwrap_or-first.result + c.in_ok-taken.taken ≡ target c
total c =
    let laws : SetLaws = record { members = c.sets_go_by_members.ensures.members; same = c.sets_go_by_members.ensures.same } in
    swept_from laws (versions c) c.args.list c.args.stretches.now c.requires.stretches c.args.limits.update c.args.limits.database c.args.from
    c.unwrap_or-first.result (c.len-end.result + 1) c.in_ok-taken.taken c.requires.within c.unwrap_or-first.ensures (ap (λ n. n + 1) c.len-end.ensures.count) c.in_ok-taken.ensures

down : (c : goal.In_ok-taken) → target c ≤ version_count (versions c)
down c = c.targets_are_the_greatest.ensures.last (versions c) c.args.list c.args.from c.args.limits.update c.args.limits.database

pub overflow_add-result : goal.overflow_add-result
overflow_add-result c = omega (arith, total c, down c, c.len-end.ensures.few, c.len-end.ensures.count)

pub returns-clause-target : goal.returns-clause-target
returns-clause-target c = total c

pub returns-clause-within : goal.returns-clause-within
returns-clause-within c = omega (arith, total c, down c)
