use Rattle.std.proofs.Common.{ℕ, [], ◌∷◌, ◌++◌, subst, sym, ap, ◌∙◌}
use Rattle.http_edge.specs.Places.{HasBlank, HasValue, HasFields, IsAt}
use Rattle.http_edge.specs.declared.head_places.HeadPlace.{HeadPlace}
use Rattle.http_edge.proofs.PlaceFacts.{crlf_of, blank_end, value_end}
use Rattle.http_edge.proofs.head_places.next_place.Goals as goal

pub returns-in-BlankCr : goal.returns-in-BlankCr
returns-in-BlankCr c = λ before same at.
    subst HasBlank (sym (same ∙ ap (λ (b : ℕ). before ++ b ∷ []) c.if-byte-eq10.true))
    (crlf_of HasBlank HasBlank blank_end before (subst (λ (p : HeadPlace). IsAt p before) c.in-BlankCr.is at))

pub returns-in-ValueCr : goal.returns-in-ValueCr
returns-in-ValueCr c = λ before same at.
    subst HasFields (sym (same ∙ ap (λ (b : ℕ). before ++ b ∷ []) c.if-byte-eq10-3.true))
    (crlf_of HasValue HasFields value_end before (subst (λ (p : HeadPlace). IsAt p before) c.in-ValueCr.is at))
