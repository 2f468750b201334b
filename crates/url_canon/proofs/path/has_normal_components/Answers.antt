use Rattle.std.proofs.Common.{option_copied, sym, subst}
use Rattle.std.specs.List.{slice_split}
use Rattle.url_canon.specs.Path.{is_slash}
use Rattle.url_canon.proofs.Splits.{parts_after}
use Rattle.url_canon.proofs.Paths.{Stays, same-stays}
use Rattle.url_canon.proofs.path.has_normal_components.Goals as goal

pub returns : goal.returns
returns c _ =
    same-stays (slice_split is_slash c.args.path.now)
    (c.loop-rest.invariant (subst (λ rest. Stays (parts_after is_slash (option_copied rest))) (sym c.in_default.is) (tt, tt)))
