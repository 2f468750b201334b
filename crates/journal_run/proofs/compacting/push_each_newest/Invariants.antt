use Rattle.std.proofs.Common.{◌≡◌, ◌++◌, ◌<◌, All, ℕ, drop, get_or}
use Rattle.std.specs.List.{flat_map}
use Rattle.hex.specs.Hex.{IsBytes}
use Rattle.sb_model.specs.declared.history.Added.{Added}
use Rattle.sb_model.specs.declared.names.ListName.{ListName}
use Rattle.sb_journal.specs.Compacted.{newest_entries}
use Rattle.journal_run.proofs.Newest.{list_text}
use Rattle.journal_run.proofs.compacting.push_each_newest.Given as goal

-- the records so far, and those of the lists that are left, are all records; and the full hashes so far are bytes
abbrev pub invariant-loop-list : goal.invariant-loop-list
invariant-loop-list l = record {
  records : l.page ++ flat_map (list_text l.history.versions) (drop l.list-index l.lists) ≡ l.initial.page ++ flat_map (list_text l.history.versions) l.lists;
  bytes : (k : ℕ) (d : ListName × ℕ) → k < l.list-index → All (λ (entry : Added). IsBytes entry.hash) (newest_entries l.history.versions (get_or l.lists k d).0);
}
