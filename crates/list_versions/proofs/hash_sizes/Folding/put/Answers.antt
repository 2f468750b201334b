use Rattle.std.proofs.Common.{subst, Some}
use Rattle.list_versions.specs.HashSizes.{HashSizes, Sets, rising_sizes}
use Rattle.list_versions.proofs.Mapped.{SetLaws}
use Rattle.list_versions.proofs.Unordered.{Sets-from_hashes, they_rise}
use Rattle.list_versions.proofs.hash_sizes.Folding.put.Goals as goal

pub returns-clause-ok : goal.returns-clause-ok
returns-clause-ok c =
    let laws : SetLaws = record { rising = c.sets_go_by_members.ensures.rising; members = c.sets_go_by_members.ensures.members; only = c.sets_go_by_members.ensures.only } in
    subst (λ (before : HashSizes). Sets before (rising_sizes c.insert.new.self.entries) c.args.hash (Some c.args.size)) c.self.view_is
    (Sets-from_hashes laws c.self.inside.sizes.entries c.insert.new.self.entries c.args.hash (Some c.args.size) c.in_ok-insert.ensures.updates.0)

pub returns-in_err-insert-clause-rises : goal.returns-in_err-insert-clause-rises
returns-in_err-insert-clause-rises c =
    let laws : SetLaws = record { rising = c.sets_go_by_members.ensures.rising; members = c.sets_go_by_members.ensures.members; only = c.sets_go_by_members.ensures.only } in
    they_rise laws c.insert.new.self.entries

pub returns-clause-rises : goal.returns-clause-rises
returns-clause-rises c =
    let laws : SetLaws = record { rising = c.sets_go_by_members.ensures.rising; members = c.sets_go_by_members.ensures.members; only = c.sets_go_by_members.ensures.only } in
    they_rise laws c.insert.new.self.entries
