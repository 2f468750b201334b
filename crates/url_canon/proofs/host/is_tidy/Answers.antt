use Rattle.std.proofs.Common.{option_copied, sym, subst}
use Rattle.std.specs.List.{AllByRecursion}
use Rattle.url_canon.specs.Words.{is_dot}
use Rattle.url_canon.proofs.Splits.{parts_after}
use Rattle.url_canon.proofs.Labels.{HasBytes, tidied_stays}
use Rattle.url_canon.proofs.host.is_tidy.Goals as goal

pub returns : goal.returns
returns c _ =
    tidied_stays c.args.text.now
    (c.loop-rest.invariant (subst (λ rest. AllByRecursion HasBytes (parts_after is_dot (option_copied rest))) (sym c.in_default.is) tt))
