-- The fetch messages as contracts see them: plain values, and the ranges that they keep.
use Rattle.std.specs.Prelude.{◌≡◌, ℕ, ◌≤◌, ◌%◌, Bool, List, length, Option, option_map, All}
use Rattle.sb_model.specs.declared.names.ListName.{ListName}
use Rattle.rice_coding.specs.declared.record.RiceRecord.{RiceRecord}
use Rattle.update_messages.specs.declared.client.ClientInfo.{ClientInfo}
use Rattle.update_messages.specs.declared.sets.Additions.{Additions}
use Rattle.update_messages.specs.declared.sets.Additions.TheVariants as added
use Rattle.update_messages.specs.declared.sets.Removals.{Removals}
use Rattle.update_messages.specs.declared.sets.Removals.TheVariants as removed

-- the most bytes of a state token, the most items of a request, and the greatest numbers of 32 and of 64 bits with a sign
abbrev pub most_state : ℕ
most_state = 4096

abbrev pub most_items : ℕ
most_items = 8

abbrev pub most_i32 : ℕ
most_i32 = 2147483647

abbrev pub most_i64 : ℕ
most_i64 = 9223372036854775807

-- One list that a client asks for: its state, empty where it has none, the most entries of the update and of the set, 0 where
-- there is no limit, and whether it takes uncompressed and Rice coded sets.
pub record AskedList : Type 0 where
  pub name : ListName
  pub state : List ℕ
  pub max_update : ℕ
  pub max_database : ℕ
  pub raw : Bool
  pub rice : Bool

-- One item of a request: what it asks, and the name of the list that it asks it of, where the tables have the three words of that name.
pub record AskedItem : Type 0 where
  pub name : Option ListName
  pub state : List ℕ
  pub max_update : ℕ
  pub max_database : ℕ
  pub raw : Bool
  pub rice : Bool

-- The list that an item asks for. An item of no name is of a list that the server does not have, and asks for nothing.
abbrev pub list_of_item : AskedItem → Option AskedList
list_of_item item =
    option_map (λ name. record {
      name = name;
      state = item.state;
      max_update = item.max_update;
      max_database = item.max_database;
      raw = item.raw;
      rice = item.rice;
    }) item.name

-- what each asked list keeps to
pub record IsAskedList (asked : AskedList) : Type 0 where
  pub state : length asked.state ≤ most_state
  pub max_update : asked.max_update ≤ most_i32
  pub max_database : asked.max_database ≤ most_i32

-- a request for updates of lists
pub record Request : Type 0 where
  pub client : ClientInfo
  pub items : List AskedList

-- what each request keeps to
pub record IsRequest (request : Request) : Type 0 where
  pub few : length request.items ≤ most_items

-- The update of one list. `base` is the state that a partial update was made for, empty where it names none.
pub record UpdatedList : Type 0 where
  pub name : ListName
  pub full : Bool
  pub base : List ℕ
  pub additions : List Additions
  pub removals : List Removals
  pub new_state : List ℕ
  pub checksum : List ℕ

-- the numbers of a Rice coded set
pub record IsRiceSet (rice : RiceRecord) : Type 0 where
  pub first : rice.first ≤ most_i64
  pub parameter : rice.parameter ≤ most_i32
  pub count : rice.count ≤ most_i32

-- prefixes of one size, one after the other
pub record IsRawSet (size : ℕ) (bytes : List ℕ) : Type 0 where
  pub low : 4 ≤ size
  pub high : size ≤ 32
  pub whole : length bytes % size ≡ 0

abbrev pub IsAddition : Additions → Type 0
IsAddition (added.Raw size bytes) = IsRawSet size bytes
IsAddition (added.Rice rice) = IsRiceSet rice

abbrev pub IsRemoval : Removals → Type 0
IsRemoval (removed.Raw indices) = All (λ index. index ≤ most_i32) indices
IsRemoval (removed.Rice rice) = IsRiceSet rice

-- what each updated list keeps to
pub record IsUpdatedList (update : UpdatedList) : Type 0 where
  pub base : length update.base ≤ most_state
  pub additions : All IsAddition update.additions
  pub removals : All IsRemoval update.removals
  pub new_state : length update.new_state ≤ most_state
  pub checksum : length update.checksum ≡ 32
