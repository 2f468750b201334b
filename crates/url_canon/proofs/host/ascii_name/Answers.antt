use Rattle.std.proofs.Common.{sym, ap, ◌∙◌}
use Rattle.std.specs.List.{list_any}
use Rattle.url_canon.specs.Host.{is_high}
use Rattle.url_canon.proofs.International.{kept_name, accepted, refused}
use Rattle.url_canon.proofs.host.ascii_name.Goals as goal

pub returns-then-not-has_high : goal.returns-then-not-has_high
returns-then-not-has_high c =
    sym (kept_name c.args.name.items (sym (c.if-not-has_high.ensures ∙ ap (list_any is_high) c.as_slice.ensures.value)))

pub returns-in-None : goal.returns-in-None
returns-in-None c =
    refused c.args.name.items (sym (c.if-not-has_high.ensures ∙ ap (list_any is_high) c.as_slice.ensures.value)) (rw (c.in-None.is, c.as_slice-2.ensures.value) at c.in_ok-ascii_form.ensures)

pub returns-in-Some : goal.returns-in-Some
returns-in-Some c =
    accepted c.args.name.items c.in-Some.form.items (sym (c.if-not-has_high.ensures ∙ ap (list_any is_high) c.as_slice.ensures.value)) (rw (c.in-Some.is, c.as_slice-2.ensures.value) at c.in_ok-ascii_form.ensures)
