-- A request, and the same request without the items that are of no list that the server has.
use Rattle.std.specs.Prelude.{◌≡◌, Ok}
use Rattle.serde_json.specs.Data.{Data}
use Rattle.sb_json.specs.Values.{◌>>=◌}
use Rattle.sb_members.specs.Somes.{without_nothing}
use Rattle.update_messages.specs.RequestRows.{root_row, client_row, requests_row, asked_name_row}

-- The other value has the same client, and of the items all but those of no name, in their order.
pub record IsWithoutOthers (value other : Data) : Type 0 where
  pub object : root_row other ≡ Ok other
  pub client : client_row other ≡ client_row value
  pub items : requests_row other ≡ (requests_row value >>= λ items. Ok (without_nothing asked_name_row items))
