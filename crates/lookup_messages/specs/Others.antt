-- A look-up request, and the same request without what the server does not know.
use Rattle.std.specs.Prelude.{◌≡◌, Ok}
use Rattle.serde_json.specs.Data.{Data}
use Rattle.update_messages.specs.RequestRows.{root_row, client_row}
use Rattle.hash_messages.specs.RequestRows as find
use Rattle.hash_messages.specs.Others.{IsWithoutNothing}
use Rattle.lookup_messages.specs.RequestRows.{urls_row}

-- The other value has the same client and URLs, and of the types all but those that are no names of the tables, in
-- their order.
pub record IsLookupWithoutOthers (value other : Data) : Type 0 where
  pub object : root_row other ≡ Ok other
  pub client : client_row other ≡ client_row value
  pub threats : IsWithoutNothing find.asked_threat_row (find.in_info find.threats_row value) (find.in_info find.threats_row other)
  pub platforms : IsWithoutNothing find.asked_platform_row (find.in_info find.platforms_row value) (find.in_info find.platforms_row other)
  pub entries : IsWithoutNothing find.asked_entry_row (find.in_info find.entries_row value) (find.in_info find.entries_row other)
  pub urls : find.in_info urls_row other ≡ find.in_info urls_row value
