use Rattle.std.proofs.Common.{List, ℕ, sym, ap, ◌∙◌, subst}
use Rattle.sb_json.specs.Density.{too_dense}
use Rattle.update_messages.specs.Reading.{IsTextOf}
use Rattle.lookup_messages.specs.Reading.{ReadsLookupResponse}
use Rattle.lookup_messages.proofs.laws.written_lookup_matches_read_again.Goals as goal

pub returns : goal.returns
returns c thin =
    c.read_lookup_matches.ensures.only c.args.message.now
    (subst (λ (text : List ℕ). IsTextOf ReadsLookupResponse text c.args.message.now) (sym c.as_slice.ensures)
    (c.in_ok-text.ensures.read_again (ap too_dense c.in_ok-text.ensures.spelling ∙ thin)))
