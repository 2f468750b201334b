use Rattle.std.proofs.Common.{◌≡◌, length, List, ℕ, get_or}
use Rattle.std.proofs.lemmas.List.Elements.{All-contains, Contains-get_or}
use Rattle.list_versions.proofs.lookup.rising.Goals as goal

pub members_of-requires : goal.members_of-requires
members_of-requires c k d lt =
    All-contains (λ (hash : List ℕ). length hash ≡ 32) c.args.hashes.now (get_or c.in-Ok.set k d) c.requires ((c.in-Ok.ensures.members (get_or c.in-Ok.set k d)).0 (Contains-get_or c.in-Ok.set k d lt))
