use Rattle.sb_journal.proofs.Following.{others_stay}
use Rattle.sb_journal.proofs.LastLeft.{last_lines_leave}
use Rattle.sb_journal.proofs.RisingSets.{SetLaws}
use Rattle.sb_journal.proofs.laws.changed_lists_have_what_lines_say.Goals as goal

pub returns-clause-hashes : goal.returns-clause-hashes
returns-clause-hashes c =
    let laws : SetLaws = record { rising = c.sets_go_by_members.ensures.rising; members = c.sets_go_by_members.ensures.members; only = c.sets_go_by_members.ensures.only } in
    λ history list lines hash. last_lines_leave laws history list lines hash

pub returns-clause-others : goal.returns-clause-others
returns-clause-others c = λ history list other lines apart. others_stay history list other lines apart
