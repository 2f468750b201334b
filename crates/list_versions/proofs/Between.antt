-- The changes between two versions.
use Rattle.std.proofs.Common.{◌≡◌, ℕ, ◌+◌, ◌≤◌, List, [], ◌++◌, length, take, drop, sym, ap, ◌∙◌, arith, fold}
use Rattle.std.proofs.lemmas.List.{take_all, take-take, take-append-drop}
use Rattle.std.proofs.lemmas.List.Sums.{sum_by-append}
use Rattle.sb_model.specs.declared.history.Change.{Change}
use Rattle.sb_model.specs.declared.names.ListName.{ListName}
use Rattle.sb_model.specs.History.{after_change}
use Rattle.list_versions.specs.Folding.{after_changes}
use Rattle.list_versions.specs.Limits.{hash_lines}
use Rattle.list_versions.proofs.Completing.{fold_both}

lines_append : (first second : List Change) → hash_lines (first ++ second) ≡ hash_lines first + hash_lines second
lines_append first second = sum_by-append (λ (c : Change). length c.adds + length c.removes) first second

pub lines_split : (changes : List Change) (a b : ℕ) → a ≤ b → hash_lines (take a changes) + hash_lines (drop a (take b changes)) ≡ hash_lines (take b changes)
lines_split changes a b h =
    ap (λ cs. hash_lines cs + hash_lines (drop a (take b changes))) (sym (take-take a b changes h)) ∙ sym (lines_append (take a (take b changes)) (drop a (take b changes)))
    ∙ ap hash_lines (take-append-drop a (take b changes))

pub lines_between : (changes : List Change) (a b : ℕ) → a ≤ b → b ≤ length changes → hash_lines (drop a (take b changes)) ≤ hash_lines changes
lines_between changes a b h k =
    omega (arith, lines_split changes a b h, lines_split changes b (length changes) k, ap hash_lines (take_all (length changes) changes (omega arith)))

-- the changes after a version are folded on its full hashes
pub folded_on : (list : ListName) (changes : List Change) (from version : ℕ) → from ≤ version → fold (after_change list) (after_changes list (take from changes)) (drop from (take version changes)) ≡ after_changes list (take version changes)
folded_on list changes from version h =
    ap (λ cs. fold (after_change list) (after_changes list cs) (drop from (take version changes))) (sym (take-take from version changes h))
    ∙ sym (fold_both (after_change list) [] (take from (take version changes)) (drop from (take version changes))) ∙ ap (after_changes list) (take-append-drop from (take version changes))
