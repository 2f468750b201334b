use Rattle.std.proofs.Common.{◌≡◌, ℕ, All, get_or, inl, inr, subst, arith}
use Rattle.std.proofs.lemmas.Bool.{cases_lt}
use Rattle.std.proofs.lemmas.List.{get_or_default}
use Rattle.hex.specs.Hex.{IsBytes}
use Rattle.sb_model.specs.declared.history.Added.{Added}
use Rattle.sb_model.specs.declared.names.ListName.{ListName}
use Rattle.sb_journal.specs.Compacted.{newest_entries}
use Rattle.journal_run.proofs.Newest.{next_text, whole_text}
use Rattle.journal_run.proofs.compacting.push_each_newest.Goals as goal

pub loop-list-preserved : goal.loop-list-preserved
loop-list-preserved c =
    let lists = c.args.lists.now in
    let i = c.loop-list.list-index in
    let HasBytes : ListName × ℕ → Type 0 = λ list. All (λ (entry : Added). IsBytes entry.hash) (newest_entries c.args.history.now.versions list.0) in record {
      records = next_text c.args.history.now.versions lists i _ _ _ _ c.loop-list-test.true c.loop-list.invariant.records c.in_ok-push_newest.ensures.records;
      bytes = λ k d lt. elim (cases_lt k i) [
        | inl before ↦ c.loop-list.invariant.bytes k d before
        | inr at ↦ (
            let same : i ≡ k = omega (arith, at, lt) in
            subst (λ (n : ℕ). HasBytes (get_or lists n d)) same (subst HasBytes (get_or_default lists i _ d c.loop-list-test.true) c.in_ok-push_newest.ensures.bytes))
      ];
    }

pub returns-clause-records : goal.returns-clause-records
returns-clause-records c =
    whole_text c.args.history.now.versions c.args.lists.now c.loop-list.list-index _ _ (omega (arith, c.loop-list-test.false)) c.loop-list.invariant.records

pub returns-clause-bytes : goal.returns-clause-bytes
returns-clause-bytes c = λ k d lt. c.loop-list.invariant.bytes k d (omega (arith, lt, c.loop-list-test.false))
