-- The answer of a server to a fetch request, for any naming of its versions.
use Rattle.std.specs.Prelude.{ℕ, ◌+◌, ◌*◌, ◌==◌, ◌&&◌, Bool, true, false, nat_lt, if◌then◌else◌, List, [], ◌∷◌, length, map, filter, find, Option, Some, None}
use Rattle.std.specs.Int.{w32, from_le_bytes}
use Rattle.std.specs.List.{list_any, range_with_len}
use Rattle.std.specs.Str.{bytes_eq}
use Rattle.sha2.specs.Sha256.{sha256}
use Rattle.sb_model.specs.declared.names.ListName.{ListName}
use Rattle.sb_model.specs.Names.{same_name}
use Rattle.sb_model.specs.History.{History, declares, version_count, prefixes_at}
use Rattle.sb_model.specs.Naming.{Naming}
use Rattle.sb_model.specs.Prefixes.{concatenation}
use Rattle.sb_model.specs.Difference.{removed_places, added_members}
use Rattle.sb_model.specs.Target.{target_version}
use Rattle.rice_coding.specs.Encoding.{encoding_of}
use Rattle.update_messages.specs.declared.sets.Additions.{Additions}
use Rattle.update_messages.specs.declared.sets.Additions.TheVariants as added
use Rattle.update_messages.specs.declared.sets.Removals.{Removals}
use Rattle.update_messages.specs.declared.sets.Removals.TheVariants as removed
use Rattle.update_messages.specs.declared.response.FetchResponse.{FetchResponse}
use Rattle.update_messages.specs.Messages.{AskedList, Request, UpdatedList}

-- the version of a list that a state names, where it names one
abbrev pub version_named : History → Naming → ListName → List ℕ → Option ℕ
version_named history token_at list state = find (λ version. bytes_eq (token_at list version) state) (range_with_len 0 (version_count history + 1))

abbrev pub size_in : Option (ListName × ℕ) → ℕ
size_in None = 0
size_in (Some list) = list.1

-- the size that a history declares for a list
abbrev pub declared_size : History → ListName → ℕ
declared_size history list = size_in (find (λ declared. same_name declared.0 list) history.declared)

-- a rising list of numbers with one more, which it may have already
abbrev pub with_number : ℕ → List ℕ → List ℕ
with_number n [] = n ∷ []
with_number n (m ∷ ms) = if nat_lt n m then n ∷ m ∷ ms else if n == m then m ∷ ms else m ∷ with_number n ms

-- the numbers of prefixes of four bytes, the lowest byte first, as a rising list
abbrev pub numbers_of : List (List ℕ) → List ℕ
numbers_of [] = []
numbers_of (member ∷ members) = with_number (from_le_bytes w32 member) (numbers_of members)

abbrev pub has_size : ℕ → List ℕ → Bool
has_size size member = length member == size

-- The sizes that members have, rising. A prefix has 4 to 32 bytes.
abbrev pub sizes_of : List (List ℕ) → List ℕ
sizes_of members = filter (λ size. list_any (has_size size) members) (range_with_len 4 29)

-- the additions of one size: Rice coded exactly where the size is 4 and the client takes that
abbrev pub addition_set : Bool → List (List ℕ) → ℕ → Additions
addition_set rice members size =
    if size == 4 && rice
    then added.Rice (encoding_of (numbers_of (filter (has_size size) members)))
    else added.Raw size (concatenation (filter (has_size size) members))

-- one entry set for each size, rising
abbrev pub addition_sets : Bool → List (List ℕ) → List Additions
addition_sets rice members = map (addition_set rice members) (sizes_of members)

-- One entry set of the places, and none where there are none. It is Rice coded exactly where the list's declared size is 4 and the client takes that.
abbrev pub removal_sets : Bool → ℕ → List ℕ → List Removals
removal_sets rice size [] = []
removal_sets rice size (place ∷ places) =
    (if size == 4 && rice then removed.Rice (encoding_of (place ∷ places)) else removed.Raw (place ∷ places)) ∷ []

-- the whole of a set, under its token
abbrev pub whole_update : AskedList → List (List ℕ) → List ℕ → UpdatedList
whole_update asked newer token = record {
  name = asked.name;
  full = true;
  base = [];
  additions = addition_sets asked.rice newer;
  removals = [];
  new_state = token;
  checksum = sha256 (concatenation newer);
}

-- What leads from the set of the asked state to a newer one, of a list with a declared size.
abbrev pub difference_update : AskedList → ℕ → List (List ℕ) → List (List ℕ) → List ℕ → UpdatedList
difference_update asked size old newer token = record {
  name = asked.name;
  full = false;
  base = asked.state;
  additions = addition_sets asked.rice (added_members old newer);
  removals = removal_sets asked.rice size (removed_places old newer);
  new_state = token;
  checksum = sha256 (concatenation newer);
}

-- The update of an asked list to a version. One who holds a version that the history names gets what leads from its set to
-- the new one, made for its state; any other gets the whole set.
abbrev pub update_to : History → Naming → AskedList → Option ℕ → ℕ → UpdatedList
update_to history token_at asked (Some held) version =
    difference_update asked (declared_size history asked.name) (prefixes_at history asked.name held) (prefixes_at history asked.name version)
    (token_at asked.name version)
update_to history token_at asked None version =
    whole_update asked (prefixes_at history asked.name version) (token_at asked.name version)

-- the update of an asked list to its target
abbrev pub update_for : History → Naming → AskedList → UpdatedList
update_for history token_at asked =
    let held = version_named history token_at asked.name asked.state in
    update_to history token_at asked held (target_version history asked.name held asked.max_update asked.max_database)

-- the items whose lists a history declares, in order
abbrev pub declared_items : History → List AskedList → List AskedList
declared_items history items = filter (λ asked. declares history asked.name) items

-- The answer to a request, with a minimum wait in seconds: one item for each asked item whose list is declared, in their order, and none for
-- others.
abbrev pub fetch_answer : History → Naming → ℕ → Request → FetchResponse
fetch_answer history token_at wait request = record {
  items = map (update_for history token_at) (declared_items history request.items);
  wait = wait * 1000000000;
}
