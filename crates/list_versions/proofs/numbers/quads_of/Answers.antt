use Rattle.std.proofs.Common.{ℕ, ◌/◌, List, length, ap, ◌∙◌}
use Rattle.std.specs.Simd.{first_chunks}
use Rattle.list_versions.proofs.Numbered.{quads_again}
use Rattle.list_versions.proofs.numbers.quads_of.Goals as goal

pub returns : goal.returns
returns c = λ set is.
    c.as_chunks.ensures.front ∙ ap (λ (bytes : List ℕ). first_chunks 4 (length bytes / 4) bytes) is ∙ quads_again set
