-- Which message a JSON value is: each field of the message is what its row is read as.
use Rattle.std.specs.Prelude.{◌≡◌, ◌≤◌, length, Ok}
use Rattle.serde_json.specs.Data.{Data}
use Rattle.sb_members.specs.Lists.{ReadsList}
use Rattle.sb_members.specs.Rows.{threat_row, platform_row, entry_row}
use Rattle.update_messages.specs.RequestRows.{root_row, client_row}
use Rattle.update_messages.specs.Reading.{ReadsClient}
use Rattle.hash_messages.specs.RequestRows as find
use Rattle.hash_messages.specs.ResponseRows.{matches_row, match_row, cache_row}
use Rattle.hash_messages.specs.Reading.{ReadsEach, ReadsSomeBy}
use Rattle.lookup_messages.specs.Messages.{AskedUrls, most_urls}
use Rattle.lookup_messages.specs.RequestRows as request
use Rattle.lookup_messages.specs.ResponseRows as response
use Rattle.lookup_messages.specs.declared.response.LookupMatch.{LookupMatch}
use Rattle.lookup_messages.specs.declared.response.LookupResponse.{LookupResponse}

-- ---- the request

-- what a request has outside its items
pub record ReadsLookupOutsideItems (value : Data) (message : AskedUrls) : Type 0 where
  pub object : root_row value ≡ Ok value
  pub client : ReadsClient (client_row value) message.client
  pub threats : ReadsSomeBy find.asked_threat_row (find.in_info find.threats_row value) message.threats
  pub platforms : ReadsSomeBy find.asked_platform_row (find.in_info find.platforms_row value) message.platforms
  pub entries : ReadsSomeBy find.asked_entry_row (find.in_info find.entries_row value) message.entries

pub record ReadsLookup (value : Data) (message : AskedUrls) : Type 0 where
  pub outside : ReadsLookupOutsideItems value message
  pub few : length message.urls ≤ most_urls
  pub urls : ReadsEach request.url_row (find.in_info request.urls_row value) message.urls

-- ---- the response

pub record ReadsLookupMatch (value : Data) (found : LookupMatch) : Type 0 where
  pub object : match_row value ≡ Ok value
  pub threat : threat_row value ≡ Ok found.name.threat
  pub platform : platform_row value ≡ Ok found.name.platform
  pub entry : entry_row value ≡ Ok found.name.entry
  pub url : response.found_url_row value ≡ Ok found.url
  pub cache : cache_row value ≡ Ok found.cache

pub record ReadsLookupResponse (value : Data) (message : LookupResponse) : Type 0 where
  pub object : root_row value ≡ Ok value
  pub matches : ReadsList ReadsLookupMatch (matches_row value) message.matches
