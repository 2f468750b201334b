use Rattle.std.proofs.Common.{sym, ◌∙◌}
use Rattle.http_edge.proofs.PlaceFacts.{name_more}
use Rattle.http_edge.proofs.head_places.in_name.Goals as goal

pub returns-then-is_header_name_token : goal.returns-then-is_header_name_token
returns-then-is_header_name_token c = λ before at. name_more c.args.byte before (sym c.is_header_name_token.ensures ∙ c.if-is_header_name_token.true) at
