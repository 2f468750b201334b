use Rattle.std.proofs.Common.{◌∙◌, [], sym, ap, arith}
use Rattle.std.specs.Str.{bytes_eq}
use Rattle.std.proofs.lemmas.Option.{get_or_from_slice_get}
use Rattle.list_versions.proofs.Finding.{bytes_are_same}
use Rattle.list_versions.proofs.Locating.{nowhere}
use Rattle.list_versions.proofs.places.place_of.Goals as goal
use Rattle.list_versions.proofs.places.place_of.Goals.{else-place-len-via-then-place-len+else-eq, else-place-len-via-else-place-len}

pub returns-clause-none : goal.returns-clause-none
returns-clause-none c =
    nowhere c.args.set.now c.args.prefix.now c.first_at-place.result c.len.ensures.rising c.first_at-place.ensures
    (elim c.else-place-len.branch [
      | else-place-len-via-then-place-len+else-eq w ↦ λ within is.
          let item = sym (get_or_from_slice_get c.args.set.now c.first_at-place.result w.at.result [] w.at.ensures) ∙ is in
          cc (w.eq.ensures, w.if-eq.false, ap (λ y. bytes_eq y c.args.prefix.now) item ∙ bytes_are_same c.args.prefix.now)
      | else-place-len-via-else-place-len w ↦ λ within is. absurd (omega (arith, within, w.if-place-len.false, c.len.ensures.value))
    ])
