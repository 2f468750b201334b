use Rattle.std.proofs.Common.{List, ap, ◌∙◌}
use Rattle.serde_json.specs.Written.{has_float, compact_text}
use Rattle.sb_model.specs.declared.names.ListName.{ListName}
use Rattle.sb_lookup.specs.Lookups.{lists_text, names_written}
use Rattle.sb_lookup.proofs.Asked.{names_none}
use Rattle.sb_lookup.proofs.listing.write_lists.Goals as goal

pub returns : goal.returns
unfolding lists_text
returns c =
    let names = c.as_slice.result.now in
    c.from_vec.ensures ∙ ap (λ v. v.items) c.into_bytes.ensures.value
    ∙ c.in_ok-text.ensures.text (ap has_float c.in_ok-value.ensures ∙ names_none c.members_are_as_their_values.ensures.floats names)
    ∙ ap compact_text c.in_ok-value.ensures
    ∙ ap (λ (ns : List ListName). compact_text (names_written ns)) (c.as_slice.ensures ∙ c.in_ok-names.ensures)
