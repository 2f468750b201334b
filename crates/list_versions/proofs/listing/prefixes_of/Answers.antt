use Rattle.std.proofs.Common.{◌≡◌, ◌∙◌, List, ℕ, map, ap, subst}
use Rattle.std.specs.Prelude.{Contains, ◌↔◌}
use Rattle.sb_model.specs.History.{prefix_of}
use Rattle.sb_model.specs.Prefixes.{set_of}
use Rattle.list_versions.specs.HashSizes.{HashSizes, shown_entry}
use Rattle.list_versions.proofs.Mapped.{SetLaws, same_shown}
use Rattle.list_versions.proofs.Unordered.{same_entries}
use Rattle.list_versions.proofs.listing.prefixes_of.Goals as goal

pub returns-in-Ok : goal.returns-in-Ok
returns-in-Ok c entries h publishable =
    let laws : SetLaws = record { rising = c.sets_go_by_members.ensures.rising; members = c.sets_go_by_members.ensures.members; only = c.sets_go_by_members.ensures.only } in
    let shown : List (List ℕ) = map shown_entry c.sizes.result.now.entries in
    let listed : c.as_slice.result.now ≡ shown = c.as_slice.ensures.value ∙ c.in_ok-prefixes.ensures.value in
    let first : (x : List ℕ) → Contains shown x ↔ Contains (map shown_entry c.args.folding.now) x = λ x.
    subst (λ (sizes : HashSizes). Contains shown x ↔ Contains (map shown_entry sizes) x) c.sizes.ensures.map (same_entries laws c.sizes.result.now.entries c.in_ok-prefixes.ensures.unique x) in
    let second : (x : List ℕ) → Contains (map shown_entry c.args.folding.now) x ↔ Contains (map prefix_of entries) x = same_shown c.args.folding.now entries h publishable c.sizes.ensures.rises in
    c.in-Ok.ensures.ok ∙ ap set_of listed
    ∙ c.sets_go_by_members.ensures.same shown (map prefix_of entries) (λ x. (λ k. (second x).0 ((first x).0 k), λ k. (first x).1 ((second x).1 k)))
