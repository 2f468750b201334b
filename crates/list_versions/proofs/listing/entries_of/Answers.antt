use Rattle.std.proofs.Common.{◌∙◌, List, ℕ, map, ap, sym, subst}
use Rattle.std.specs.List.{IsDistinct}
use Rattle.std.specs.Str.{bytes_eq}
use Rattle.sb_model.specs.declared.history.Added.{Added}
use Rattle.list_versions.specs.HashSizes.{HashSizes, IsMapOf, entry_at}
use Rattle.list_versions.proofs.Mapped.{SetLaws}
use Rattle.list_versions.proofs.Unordered.{listed_is_map, hashes_are_keys}
use Rattle.list_versions.proofs.listing.entries_of.Goals as goal

pub returns-clause-map : goal.returns-clause-map
returns-clause-map c =
    let laws : SetLaws = record { rising = c.sets_go_by_members.ensures.rising; members = c.sets_go_by_members.ensures.members; only = c.sets_go_by_members.ensures.only } in
    let sizes = c.sizes.result.now.entries in
    subst (λ (entries : List Added). IsMapOf c.args.folding.now entries) (sym c.in_ok-entries.ensures.value)
    (subst (λ (view : HashSizes). IsMapOf view (map entry_at sizes)) c.sizes.ensures.map (listed_is_map laws sizes c.in_ok-entries.ensures.unique))

pub returns-clause-once : goal.returns-clause-once
returns-clause-once c =
    subst (λ (hashes : List (List ℕ)). IsDistinct bytes_eq hashes)
    (sym (ap (λ (entries : List Added). map (λ (entry : Added). entry.hash) entries) c.in_ok-entries.ensures.value ∙ hashes_are_keys c.sizes.result.now.entries))
    c.in_ok-entries.ensures.unique
