use Rattle.std.proofs.Common.{◌∙◌, ap, sym}
use Rattle.std.specs.Prelude.{slice_get, Some}
use Rattle.atomic_table.specs.Seated.{TableId}
use Rattle.parallel_checks.proofs.ListFacts.{as_long}
use Rattle.parallel_checks.proofs.laws.seats_remain.Goals as goal

pub returns : goal.returns
returns c boxes earlier later of on place seat at =
    let was = as_long earlier later place seat on.count at in let goes = on.each place was.0 seat was.1 at in
    ap (slice_get boxes) goes.place ∙ (of place was.0 was.1 ∙ ap (λ (b : TableId). Some b) (sym goes.same_box))
