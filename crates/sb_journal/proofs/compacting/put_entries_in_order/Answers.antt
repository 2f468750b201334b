use Rattle.std.proofs.Common.{rules}
use Rattle.std.proofs.lemmas.Map.Keys.{IsDistinct-IsPermutation}
use Rattle.std.proofs.lemmas.List.Sorted.{IsPermutation-map, answers_always}
use Rattle.sb_model.specs.declared.history.Added.{Added}
use Rattle.sb_journal.proofs.Ordered.{ordered}
use Rattle.sb_journal.proofs.Following.{bytes_sym, hashes_of}
use Rattle.sb_journal.proofs.RisingSets.{SetLaws}
use Rattle.std.specs.Str.{bytes_eq}
use Rattle.sb_journal.proofs.compacting.put_entries_in_order.Goals as goal

pub returns : goal.returns
returns c =
    let laws : SetLaws = record { rising = c.sets_go_by_members.ensures.rising; members = c.sets_go_by_members.ensures.members; only = c.sets_go_by_members.ensures.only } in
    let before = c.args.entries.now.items in
    let after = c.sort_unstable_by_key.new.self.items in
    let moved = c.sort_unstable_by_key.ensures.permutation in
    ordered laws before after moved c.requires
    (IsDistinct-IsPermutation bytes_eq bytes_sym (hashes_of before) (hashes_of after) (IsPermutation-map (λ (entry : Added). entry.hash) before after moved) c.requires)
    (c.sort_unstable_by_key.ensures.sorted (λ (entry : Added). entry.hash) (answers_always _ _ _ (λ f a r g h. search rules)))
