-- Each entry of a history has a size that a prefix may have.
use Rattle.std.proofs.Common.{◌≡◌, ℕ, Bool, true, false, List, [], ◌∷◌, length, take}
use Rattle.std.specs.Prelude.{All, not, if◌then◌else◌}
use Rattle.std.specs.List.{fold}
use Rattle.std.specs.Str.{bytes_eq}
use Rattle.std.proofs.lemmas.List.Elements.{All-nil, All-head, All-tail, All-filter, All-push, All-take}
use Rattle.sb_model.specs.declared.history.Added.{Added}
use Rattle.sb_model.specs.declared.history.Change.{Change}
use Rattle.sb_model.specs.declared.names.ListName.{ListName}
use Rattle.sb_model.specs.History.{History, IsPrefixSize, IsWellFormed, without_hash, with_added, after_change, sizes_at}
use Rattle.sb_model.specs.Names.{same_name}

abbrev pub HasPrefixSize : Added → Type 0
HasPrefixSize entry = IsPrefixSize entry.size

abbrev pub AreSized : List Added → Type 0
AreSized entries = All HasPrefixSize entries

abbrev IsGoodAdd : Added → Type 0
IsGoodAdd added = (length added.hash ≡ 32) × IsPrefixSize added.size

abbrev HasGoodAdds : Change → Type 0
HasGoodAdds change = All IsGoodAdd change.adds

still_sized : (entries : List Added) (hash : List ℕ) → AreSized entries → AreSized (without_hash entries hash)
still_sized entries hash h = All-filter (λ (entry : Added). not (bytes_eq entry.hash hash)) HasPrefixSize entries h

sized_without : (removes : List (List ℕ)) (entries : List Added) → AreSized entries → AreSized (fold without_hash entries removes)
sized_without [] entries h = h
sized_without (hash ∷ removes) entries h = sized_without removes (without_hash entries hash) (still_sized entries hash h)

sized_with : (adds : List Added) (entries : List Added) → All IsGoodAdd adds → AreSized entries → AreSized (fold with_added entries adds)
sized_with [] entries good h = h
sized_with (added ∷ adds) entries good h =
    sized_with adds (with_added entries added) (All-tail IsGoodAdd added adds good)
    (All-push HasPrefixSize (without_hash entries added.hash) added (still_sized entries added.hash h) (All-head IsGoodAdd added adds good).1)

sized_after : (list : ListName) (entries : List Added) (change : Change) → HasGoodAdds change → AreSized entries → AreSized (after_change list entries change)
sized_after list entries change good h = go (same_name change.list list)
  where
    go : (b : Bool) → AreSized (if b then fold with_added (fold without_hash entries change.removes) change.adds else entries)
    go true = sized_with change.adds (fold without_hash entries change.removes) good (sized_without change.removes entries h)
    go false = h

sized_fold : (list : ListName) (changes : List Change) (entries : List Added) → All HasGoodAdds changes → AreSized entries → AreSized (fold (after_change list) entries changes)
sized_fold list [] entries good h = h
sized_fold list (change ∷ changes) entries good h =
    sized_fold list changes (after_change list entries change) (All-tail HasGoodAdds change changes good)
    (sized_after list entries change (All-head HasGoodAdds change changes good) h)

pub entries_are_sized : (history : History) (list : ListName) (version : ℕ) → IsWellFormed history → AreSized (sizes_at history list version)
entries_are_sized history list version well =
    sized_fold list (take version history.changes) [] (All-take HasGoodAdds version history.changes well.adds) (All-nil HasPrefixSize)
