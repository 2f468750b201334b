use Rattle.std.proofs.Common.{◌∙◌, ℕ, List, All, subst, arith}
use Rattle.hex.specs.Hex.{IsBytes}
use Rattle.sb_model.specs.declared.history.Added.{Added}
use Rattle.sb_model.specs.declared.names.ListName.{ListName}
use Rattle.sb_journal.specs.Compacted.{newest_entries}
use Rattle.journal_run.proofs.compacting.compacted_text.Goals as goal

pub returns-clause-has : goal.returns-clause-has
returns-clause-has c =
    c.compacted_histories_have_texts.ensures c.args.epoch c.args.history.now.versions (omega (arith, c.ranges.epoch.fits)) c.len.ensures.well_formed
    (subst (λ (lists : List (ListName × ℕ)). All (λ (list : ListName × ℕ). All (λ (entry : Added). IsBytes entry.hash) (newest_entries c.args.history.now.versions list.0)) lists)
    (c.as_slice-2.ensures ∙ c.in_ok-lists.ensures.value) c.in_ok-push_each_newest.ensures.bytes)
