use Rattle.std.proofs.Common.{ℕ, ◌<◌}
use Rattle.std.specs.Prelude.{All, slice_index_or}
use Rattle.sb_model.specs.declared.history.Added.{Added}
use Rattle.genuine_answers.proofs.are_of_bytes.Given as goal

abbrev pub invariant-loop-added : goal.invariant-loop-added
invariant-loop-added l = (k : ℕ) (d : Added) → k < l.added-index → All (λ byte. byte < 256) (slice_index_or l.adds k d).hash
