use Rattle.std.proofs.Common.{ℕ, [], ◌∷◌, ◌++◌, subst, sym, ◌∙◌}
use Rattle.httparse.specs.Grammar.{lf}
use Rattle.http_edge.specs.Places.{HasFields}
use Rattle.http_edge.proofs.PlaceFacts.{value_more, value_end}
use Rattle.http_edge.proofs.head_places.in_value.Goals as goal

pub returns-then-byte-eq10 : goal.returns-then-byte-eq10
returns-then-byte-eq10 c = λ before at. subst (λ (b : ℕ). HasFields (before ++ b ∷ [])) (sym c.if-byte-eq10.true) (value_end lf before at)

pub returns-then-is_header_value_token : goal.returns-then-is_header_value_token
returns-then-is_header_value_token c = λ before at. value_more c.args.byte before (sym c.is_header_value_token.ensures ∙ c.if-is_header_value_token.true) at
