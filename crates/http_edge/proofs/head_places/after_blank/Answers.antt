use Rattle.std.proofs.Common.{ℕ, [], ◌∷◌, ◌++◌, subst, sym}
use Rattle.httparse.specs.Grammar.{lf}
use Rattle.http_edge.specs.Places.{HasBlank}
use Rattle.http_edge.proofs.PlaceFacts.{blank_end}
use Rattle.http_edge.proofs.head_places.after_blank.Goals as goal

pub returns-then-byte-eq10 : goal.returns-then-byte-eq10
returns-then-byte-eq10 c = λ before at. subst (λ (b : ℕ). HasBlank (before ++ b ∷ [])) (sym c.if-byte-eq10.true) (blank_end lf before at)
