use Rattle.std.proofs.Common.{subst, None}
use Rattle.list_versions.specs.HashSizes.{HashSizes, Sets, rising_sizes}
use Rattle.list_versions.proofs.Mapped.{SetLaws}
use Rattle.list_versions.proofs.Unordered.{Sets-from_hashes, they_rise}
use Rattle.list_versions.proofs.hash_sizes.Folding.remove.Goals as goal

pub returns-clause-gone : goal.returns-clause-gone
returns-clause-gone c =
    let laws : SetLaws = record { rising = c.sets_go_by_members.ensures.rising; members = c.sets_go_by_members.ensures.members; only = c.sets_go_by_members.ensures.only } in
    subst (λ (before : HashSizes). Sets before (rising_sizes c.remove.new.self.entries) c.args.hash.now None) c.self.view_is
    (Sets-from_hashes laws c.self.inside.sizes.entries c.remove.new.self.entries c.args.hash.now None c.remove.ensures.updates.0)

pub returns-clause-rises : goal.returns-clause-rises
returns-clause-rises c =
    let laws : SetLaws = record { rising = c.sets_go_by_members.ensures.rising; members = c.sets_go_by_members.ensures.members; only = c.sets_go_by_members.ensures.only } in
    they_rise laws c.remove.new.self.entries
