use Rattle.std.proofs.Common.{option_copied, ap, sym, ◌∙◌}
use Rattle.std.specs.List.{slice_split}
use Rattle.url_canon.proofs.Splits.{parts_after}
use Rattle.url_canon.proofs.Labels.{with_labels, all_labels}
use Rattle.url_canon.proofs.host.joined_labels.Goals as goal
use Rattle.url_canon.specs.Words.{is_dot}

pub loop-rest-init : goal.loop-rest-init
loop-rest-init c =
    let parts = slice_split is_dot c.args.text.now in
    ap (λ name. with_labels name parts) c.in_ok-name.ensures.items ∙ all_labels parts

pub returns : goal.returns
returns c =
    sym (ap (λ rest. with_labels c.loop-rest.name.items (parts_after is_dot (option_copied rest))) c.in_default.is) ∙ c.loop-rest.invariant
