use Rattle.sb_journal.proofs.Following.{leads_to_wanted, others_stay}
use Rattle.sb_journal.proofs.RisingSets.{SetLaws}
use Rattle.sb_journal.specs.Records.{leading_lines, newest_hashes}
use Rattle.sb_journal.proofs.laws.synced_lists_have_what_is_wanted.Goals as goal

pub returns-clause-wanted : goal.returns-clause-wanted
returns-clause-wanted c =
    let laws : SetLaws = record { rising = c.sets_go_by_members.ensures.rising; members = c.sets_go_by_members.ensures.members; only = c.sets_go_by_members.ensures.only } in
    leads_to_wanted laws

pub returns-clause-others : goal.returns-clause-others
returns-clause-others c = λ history list other size wanted apart. others_stay history list other (leading_lines size (newest_hashes history list) wanted) apart
