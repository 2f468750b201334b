-- Which request bytes are, and what is wrong with bytes that are none.
use Rattle.std.specs.Prelude.{◌≡◌, ◌==◌, ◌||◌, ℕ, Bool, List, Ok, Err}
use Rattle.proto_wire.specs.Wire.{WireField}
use Rattle.proto_messages.specs.declared.fault.ProtoFault.{ProtoFault}
use Rattle.proto_messages.specs.declared.fetch_request.NumberedFetch.{NumberedFetch}
use Rattle.proto_messages.specs.declared.find_request.NumberedFind.{NumberedFind}
use Rattle.proto_messages.specs.Fetch.{fetch_of}
use Rattle.proto_messages.specs.Find.{find_of}

-- bytes that are a fetch request; and the first fault of bytes that are none
abbrev pub ReadsFetch : List ℕ → NumberedFetch → Type 0
ReadsFetch text message = fetch_of text ≡ Ok message

abbrev pub IsFetchFault : List ℕ → ProtoFault → Type 0
IsFetchFault text fault = fetch_of text ≡ Err fault

-- bytes that are a find request; and the first fault of bytes that are none
abbrev pub ReadsFind : List ℕ → NumberedFind → Type 0
ReadsFind text message = find_of text ≡ Ok message

abbrev pub IsFindFault : List ℕ → ProtoFault → Type 0
IsFindFault text fault = find_of text ≡ Err fault

-- the fields that a fetch request knows, and those that a find request does
abbrev pub is_fetch_field : WireField → Bool
is_fetch_field field = field.number == 1 || field.number == 3

abbrev pub is_find_field : WireField → Bool
is_find_field field = field.number == 1 || field.number == 2 || field.number == 3
