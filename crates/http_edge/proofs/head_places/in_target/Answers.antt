use Rattle.std.proofs.Common.{◌≡◌, ◌-◌, ℕ, List, [], ◌∷◌, ◌++◌, length, slice_range, subst, sym, ap, ◌∙◌, arith, length-append}
use Rattle.std.specs.Prelude.{IsUtf8}
use Rattle.http_edge.specs.Places.{InVersion}
use Rattle.http_edge.proofs.PlaceFacts.{target_end}
use Rattle.http_edge.proofs.head_places.in_target.Goals as goal

pub returns-in-Ok : goal.returns-in-Ok
returns-in-Ok c = λ before same at.
    let text : c.args.text.now ≡ before ++ 32 ∷ [] = same ∙ ap (λ (b : ℕ). before ++ b ∷ []) c.if-byte-ne32.false in
    let size : length c.args.text.now - 1 ≡ length before = omega (arith, ap length text, length-append before (32 ∷ [])) in
    let utf8 : IsUtf8 (slice_range (before ++ 32 ∷ []) c.args.start (length before)) =
    subst (λ (t : List ℕ). IsUtf8 (slice_range t c.args.start (length before))) text
    (subst (λ (n : ℕ). IsUtf8 (slice_range c.args.text.now c.args.start n)) size c.in-Ok.ensures.cases.1) in
    subst (InVersion 0) (sym text) (target_end c.args.start before (omega (arith, size)) utf8 at)
