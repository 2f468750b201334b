use Rattle.std.proofs.Common.{◌≡◌, ◌<◌, ◌^◌, ℕ, length, drop}
use Rattle.std.specs.Prelude.{sum_by}
use Rattle.http_serving.specs.Kept.{kept_size, FitIn}
use Rattle.http_serving.proofs.kept.let_go.Given as goal

-- So many went, and fewer would not have done. What is left has these bytes.
abbrev pub invariant-kept : goal.invariant-kept
invariant-kept g l =
    (gone : ℕ)
    × (l.answers.items ≡ drop gone l.initial.answers.items)
    × ((fewer : ℕ) → fewer < gone → FitIn (drop fewer l.initial.answers.items) l.room → ⊥)
    × (sum_by kept_size l.answers.items ≡ l.left)
    × (l.left < 2 ^ 33)

abbrev pub decreases-kept : goal.decreases-kept
decreases-kept g l = length l.answers.items
