use Rattle.std.proofs.Common.{◌≡◌, ◌≤◌, ◌∙◌, List, [], sym, subst, ℕ}
use Rattle.std.specs.Option.{unwrap_or}
use Rattle.std.proofs.lemmas.Result.{IfOk-weaker}
use Rattle.sb_model.specs.declared.history.Added.{Added}
use Rattle.sb_model.specs.declared.history.Change.{Change}
use Rattle.sb_model.specs.History.{History, version_count, sizes_at}
use Rattle.sb_model.specs.Target.{target_version}
use Rattle.delta_server.specs.Counts.{HaveHashesApart}
use Rattle.delta_server.specs.Walk.{HaveSame, entries_after}
use Rattle.delta_server.proofs.CountFacts.{SetLaws}
use Rattle.delta_server.proofs.SameFacts.{published_same, sized_alike}
use Rattle.delta_server.proofs.targets.walked_target.Goals as goal

pub target_of-requires-clause-held : goal.target_of-requires-clause-held
target_of-requires-clause-held c =
    let laws : SetLaws = record { members = c.sets_go_by_members.ensures.members; same = c.sets_go_by_members.ensures.same } in
    let versions : History = c.args.history.now.versions in
    let entries : List Added = c.deref.result.now in
    let read = subst (λ (e : List Added). HaveSame e (sizes_at versions c.args.list c.unwrap_or.result)) (sym c.deref.ensures.value) c.in_ok-entries.ensures.same in
    let same = subst (λ (n : ℕ). HaveSame entries (sizes_at versions c.args.list n)) c.unwrap_or.ensures read in
    c.requires.held ∙ sym (published_same laws entries (sizes_at versions c.args.list (unwrap_or c.args.from 0)) same)

pub target_of-requires-clause-apart : goal.target_of-requires-clause-apart
target_of-requires-clause-apart c =
    subst HaveHashesApart (sym c.deref.ensures.value) c.in_ok-entries.ensures.apart

pub target_of-requires-clause-sizes : goal.target_of-requires-clause-sizes
target_of-requires-clause-sizes c =
    let versions : History = c.args.history.now.versions in
    let entries : List Added = c.deref.result.now in
    let read = subst (λ (e : List Added). HaveSame e (sizes_at versions c.args.list c.unwrap_or.result)) (sym c.deref.ensures.value) c.in_ok-entries.ensures.same in
    let same = subst (λ (n : ℕ). HaveSame entries (sizes_at versions c.args.list n)) c.unwrap_or.ensures read in
    sized_alike versions c.args.list (unwrap_or c.args.from 0) entries c.len.ensures.well_formed
    same

pub target_of-requires-clause-same : goal.target_of-requires-clause-same
target_of-requires-clause-same c =
    let versions : History = c.args.history.now.versions in
    let entries : List Added = c.deref.result.now in
    let read = subst (λ (e : List Added). HaveSame e (sizes_at versions c.args.list c.unwrap_or.result)) (sym c.deref.ensures.value) c.in_ok-entries.ensures.same in
    let same = subst (λ (n : ℕ). HaveSame entries (sizes_at versions c.args.list n)) c.unwrap_or.ensures read in
    subst (λ (changes : List Change). HaveSame entries (entries_after c.args.list [] changes (unwrap_or c.args.from 0))) (sym c.changes.ensures)
    same

pub returns-clause-within : goal.returns-clause-within
returns-clause-within c =
    let versions : History = c.args.history.now.versions in
    let target : ℕ = target_version versions c.args.list c.args.from c.args.limits.update c.args.limits.database in
    let down : target ≤ version_count versions = c.targets_are_the_greatest.ensures.last versions c.args.list c.args.from c.args.limits.update c.args.limits.database in
    IfOk-weaker c.target_of.result
    (λ (version : ℕ). (history : History) → history.changes ≡ c.changes.result.now → version ≡ target_version history c.args.list c.args.from c.args.limits.update c.args.limits.database)
    (λ (version : ℕ). version ≤ version_count versions)
    (λ version is. subst (λ v. v ≤ version_count versions) (sym (is versions (sym c.changes.ensures))) down)
    c.target_of.ensures
