-- The request of a client for its lists.
use Rattle.std.specs.Prelude.{true, not, if◌then◌else◌, List, [], map, codes}
use Rattle.update_messages.specs.Messages.{AskedList, Request}
use Rattle.update_client.specs.declared.options.FetchOptions.{FetchOptions}
use Rattle.update_client.specs.Held.{Held}

-- A list is asked for from its token on, or from nothing where an update was refused since the last that was installed.
abbrev pub asked_list : FetchOptions → Held → AskedList
asked_list options held = record {
  name = held.name;
  state = if held.resync then [] else held.token;
  max_update = options.max_update;
  max_database = options.max_database;
  raw = true;
  rice = not options.raw_only;
}

-- one item for each held list, in order
abbrev pub request_asked : List Held → FetchOptions → Request
request_asked lists options = record {
  client = record { id = codes "sblist"; version = codes "1" };
  items = map (asked_list options) lists;
}
