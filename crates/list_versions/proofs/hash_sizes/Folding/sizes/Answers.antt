use Rattle.std.proofs.Common.{◌∙◌, ap, sym, subst}
use Rattle.std.specs.Map.{keys_of}
use Rattle.sb_model.specs.Prefixes.{IsRising}
use Rattle.list_versions.specs.HashSizes.{HashSizes}
use Rattle.list_versions.proofs.Mapped.{SetLaws}
use Rattle.list_versions.proofs.Unordered.{keys_rising, they_rise}
use Rattle.list_versions.proofs.hash_sizes.Folding.sizes.Goals as goal

pub returns-clause-keys : goal.returns-clause-keys
returns-clause-keys c = sym (keys_rising c.self.inside.sizes.entries) ∙ ap (λ (sizes : HashSizes). keys_of sizes) c.self.view_is

pub returns-clause-rises : goal.returns-clause-rises
returns-clause-rises c =
    let laws : SetLaws = record { rising = c.sets_go_by_members.ensures.rising; members = c.sets_go_by_members.ensures.members; only = c.sets_go_by_members.ensures.only } in
    subst (λ (sizes : HashSizes). IsRising (keys_of sizes)) c.self.view_is (they_rise laws c.self.inside.sizes.entries)
