use Rattle.std.proofs.Common.{ℕ, ◌/◌, List, length, ap, ◌∙◌, arith}
use Rattle.std.specs.Simd.{first_chunks}
use Rattle.set_updates.proofs.SetFacts.{chunks_of_size}
use Rattle.set_updates.proofs.sets.quads_of.Goals as goal

pub returns : goal.returns
returns c = λ members is.
    c.as_chunks.ensures.front ∙ ap (λ (bytes : List ℕ). first_chunks 4 (length bytes / 4) bytes) is ∙ chunks_of_size 4 members (omega arith)
