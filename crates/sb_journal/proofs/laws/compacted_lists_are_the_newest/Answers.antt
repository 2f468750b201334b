use Rattle.sb_model.specs.declared.history.Added.{Added}
use Rattle.sb_model.specs.History.{prefix_of, version_count}
use Rattle.sb_journal.proofs.Anew.{Codes, anew_shows, told_anew}
use Rattle.sb_journal.proofs.RisingSets.{SetLaws}
use Rattle.sb_journal.proofs.laws.compacted_lists_are_the_newest.Goals as goal

pub returns-clause-entries : goal.returns-clause-entries
returns-clause-entries c =
    let laws : SetLaws = record { rising = c.sets_go_by_members.ensures.rising; members = c.sets_go_by_members.ensures.members; only = c.sets_go_by_members.ensures.only } in
    let codes : Codes = λ a b e. (c.names_go_by_their_codes.ensures.same a b).0 e in
    λ epoch history list declared. told_anew laws codes epoch history list declared (c.full_hashes_stand_once.ensures history list (version_count history))

pub returns-clause-hashes : goal.returns-clause-hashes
returns-clause-hashes c =
    let laws : SetLaws = record { rising = c.sets_go_by_members.ensures.rising; members = c.sets_go_by_members.ensures.members; only = c.sets_go_by_members.ensures.only } in
    let codes : Codes = λ a b e. (c.names_go_by_their_codes.ensures.same a b).0 e in
    λ epoch history list declared.
    anew_shows laws codes (λ (entry : Added). entry.hash) epoch history list declared (c.full_hashes_stand_once.ensures history list (version_count history))

pub returns-clause-prefixes : goal.returns-clause-prefixes
returns-clause-prefixes c =
    let laws : SetLaws = record { rising = c.sets_go_by_members.ensures.rising; members = c.sets_go_by_members.ensures.members; only = c.sets_go_by_members.ensures.only } in
    let codes : Codes = λ a b e. (c.names_go_by_their_codes.ensures.same a b).0 e in
    λ epoch history list declared. anew_shows laws codes prefix_of epoch history list declared (c.full_hashes_stand_once.ensures history list (version_count history))
