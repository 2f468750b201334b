-- The reading of a store, from left to right up to the first field that breaks a rule. A field is read as its value and the
-- bytes after it. Where it breaks a rule or is not whole, what is told is how many bytes are left from its first one on.
use Rattle.std.specs.Prelude.{ℕ, zero, suc, ◌+◌, ◌-◌, ◌==◌, ◌&&◌, ◌||◌, Bool, true, false, nat_lt, nat_le, if◌then◌else◌, List, [], ◌∷◌, ◌++◌, length, take, drop, slice_index, codes, Option, Some, None, option_and_then, Result, Ok, Err}
use Rattle.std.specs.Int.{Width, w16, w32, byte_len, from_be_bytes}
use Rattle.std.specs.List.{list_all}
use Rattle.std.specs.Option.{option_map}
use Rattle.std.specs.Ordering.{is_lt}
use Rattle.std.specs.Str.{bytes_eq}
use Rattle.sha2.specs.Sha256.{sha256}
use Rattle.sb_model.specs.declared.names.ListName.{ListName}
use Rattle.sb_model.specs.Names.{name_cmp, threat_with_code, platform_with_code, entry_with_code}
use Rattle.sb_model.specs.Prefixes.{bytes_cmp, concatenation}
use Rattle.prefix_set.specs.declared.set.TheConstants.{MAX_PREFIXES, MAX_BYTES}
use Rattle.update_client.specs.Held.{Held, most_lists}
use Rattle.client_store.specs.declared.fault.StoreFault.{StoreFault}
use Rattle.client_store.specs.declared.fault.StoreFault.TheVariants as fault
use Rattle.client_store.specs.declared.format.Format.{Format}
use Rattle.client_store.specs.declared.format.Format.TheVariants.{OneSize, EachSize}

infixl 10 ◌>>=◌
abbrev pub ◌>>=◌ : {A B : Type 0} → Result A ℕ → (A → Result B ℕ) → Result B ℕ
(Ok a) >>= f = f a
(Err left) >>= f = Err left

-- the value, or the number of bytes from the field on
abbrev pub or_broken : {A : Type 0} → ℕ → Option A → Result A ℕ
or_broken left None = Err left
or_broken left (Some a) = Ok a

-- ---- plain fields

abbrev pub byte_at : List ℕ → Result (ℕ × List ℕ) ℕ
byte_at [] = Err 0
byte_at (byte ∷ rest) = Ok (byte, rest)

unfoldable pub bytes_at : ℕ → List ℕ → Result (List ℕ × List ℕ) ℕ
bytes_at count bytes = if nat_lt (length bytes) count then Err (length bytes) else Ok (take count bytes, drop count bytes)

unfoldable pub number_at : Width → List ℕ → Result (ℕ × List ℕ) ℕ
number_at width bytes = if nat_lt (length bytes) (byte_len width) then Err (length bytes) else Ok (from_be_bytes width (take (byte_len width) bytes), drop (byte_len width) bytes)

-- ---- the name, the mark and the token of a list

-- the name with these codes, if they are in the tables
abbrev pub name_of_codes : ℕ → ℕ → ℕ → Option ListName
name_of_codes threat platform entry =
    option_and_then (λ t. option_and_then (λ p. option_map (λ e. record { threat = t; platform = p; entry = e }) (entry_with_code entry)) (platform_with_code platform)) (threat_with_code threat)

-- the name that three bytes are
abbrev pub name_of_bytes : List ℕ → Option ListName
name_of_bytes (threat ∷ platform ∷ entry ∷ []) = name_of_codes threat platform entry
name_of_bytes _ = None

-- whether a name comes after those of the lists in front of it
abbrev pub comes_after : List Held → ListName → Bool
comes_after before name = list_all (λ held. is_lt (name_cmp held.name name)) before

-- A name is one field of three bytes.
unfoldable pub name_at : List Held → List ℕ → Result (ListName × List ℕ) ℕ
name_at before bytes = do
  codes ← bytes_at 3 bytes
  name ← or_broken (length bytes) (name_of_bytes codes.0)
  if comes_after before name then Ok (name, codes.1) else Err (length bytes)

abbrev pub mark_of : ℕ → Option Bool
mark_of byte = if byte == 0 then Some false else if byte == 1 then Some true else None

unfoldable pub mark_at : List ℕ → Result (Bool × List ℕ) ℕ
mark_at bytes = do
  byte ← byte_at bytes
  mark ← or_broken (length bytes) (mark_of byte.0)
  Ok (mark, byte.1)

-- the most bytes of a token
abbrev pub most_token_bytes : ℕ
most_token_bytes = 4096

-- The length of a token is a field, and the token is another.
unfoldable pub token_at : List ℕ → Result (List ℕ × List ℕ) ℕ
token_at bytes = do
  size ← number_at w16 bytes
  if nat_lt most_token_bytes size.0 then Err (length bytes) else bytes_at size.0 size.1

-- ---- the prefixes of a list

abbrev pub is_prefix_size : ℕ → Bool
is_prefix_size size = nat_le 4 size && nat_le size 32

-- the last of a list; in front of the first stands the empty string
abbrev pub last_of : List (List ℕ) → List ℕ
last_of [] = []
last_of (prefix ∷ []) = prefix
last_of (prefix ∷ next ∷ set) = last_of (next ∷ set)

-- whether a prefix may stand next: it comes after the last, and the bytes of all are no more than a set holds
abbrev pub may_follow : List (List ℕ) → List ℕ → Bool
may_follow set prefix = is_lt (bytes_cmp (last_of set) prefix) && nat_le (length (concatenation set) + length prefix) MAX_BYTES

-- the size of the next prefix: that of all prefixes of the list, or a byte of its own
unfoldable pub size_at : Option ℕ → List ℕ → Result (ℕ × List ℕ) ℕ
size_at (Some size) bytes = Ok (size, bytes)
size_at None bytes = do
  size ← byte_at bytes
  if is_prefix_size size.0 then Ok size else Err (length bytes)

-- The next prefix. Its own size is a field, and its bytes are another. So a prefix with which a set has too many bytes is
-- told by the place of its own first one.
unfoldable pub prefix_at : Option ℕ → List (List ℕ) → List ℕ → Result (List ℕ × List ℕ) ℕ
prefix_at common set bytes = do
  size ← size_at common bytes
  prefix ← bytes_at size.0 size.1
  if may_follow set prefix.0 then Ok prefix else Err (length size.1)

-- so many prefixes more
unfoldable pub more_prefixes_at : Option ℕ → ℕ → List (List ℕ) → List ℕ → Result (List (List ℕ) × List ℕ) ℕ
more_prefixes_at common zero set bytes = Ok (set, bytes)
more_prefixes_at common (suc count) set bytes = do
  prefix ← prefix_at common set bytes
  more_prefixes_at common count (set ++ prefix.0 ∷ []) prefix.1

-- the prefixes after a count, which stands in front of these bytes
abbrev pub counted_at : Option ℕ → List ℕ → ℕ × List ℕ → Result (List (List ℕ) × List ℕ) ℕ
counted_at common field count =
    if nat_lt MAX_PREFIXES count.0 then Err (length field) else more_prefixes_at common count.0 [] count.1

-- in the second format: the number of prefixes, and the prefixes with their sizes
unfoldable pub sized_set_at : List ℕ → Result (List (List ℕ) × List ℕ) ℕ
sized_set_at bytes = do
  count ← number_at w32 bytes
  counted_at None bytes count

-- the size of all prefixes of a list, or 0
unfoldable pub common_size_at : List ℕ → Result (ℕ × List ℕ) ℕ
common_size_at bytes = do
  size ← byte_at bytes
  if size.0 == 0 || is_prefix_size size.0 then Ok size else Err (length bytes)

-- the size is 0 exactly where there are no prefixes
abbrev pub fits_count : ℕ → ℕ → Bool
fits_count size count = if size == 0 then count == 0 else nat_lt 0 count

-- In the first format: the size, the number of prefixes, and the prefixes. Where the size does not fit the number, it is the
-- size that breaks the rule.
unfoldable pub even_set_at : List ℕ → Result (List (List ℕ) × List ℕ) ℕ
even_set_at bytes = do
  size ← common_size_at bytes
  count ← number_at w32 size.1
  if fits_count size.0 count.0 then counted_at (Some size.0) size.1 count else Err (length bytes)

abbrev pub set_at : Format → List ℕ → Result (List (List ℕ) × List ℕ) ℕ
set_at OneSize bytes = even_set_at bytes
set_at EachSize bytes = sized_set_at bytes

-- ---- lists

-- the list after those in front of it
unfoldable pub list_at : Format → List Held → List ℕ → Result (Held × List ℕ) ℕ
list_at format before bytes = do
  name ← name_at before bytes
  mark ← mark_at name.1
  token ← token_at mark.1
  set ← set_at format token.1
  Ok (record { name = name.0; token = token.0; set = set.0; resync = mark.0 }, set.1)

-- so many lists more
unfoldable pub lists_at : Format → ℕ → List Held → List ℕ → Result (List Held × List ℕ) ℕ
lists_at format zero before bytes = Ok (before, bytes)
lists_at format (suc count) before bytes = do
  held ← list_at format before bytes
  lists_at format count (before ++ held.0 ∷ []) held.1

-- the number of lists, the lists, and nothing after them
unfoldable pub lists_in : Format → List ℕ → Result (List Held) ℕ
lists_in format bytes = do
  count ← byte_at bytes
  lists ← if nat_lt most_lists count.0 then Err (length bytes) else lists_at format count.0 [] count.1
  if nat_lt 0 (length lists.1) then Err (length lists.1) else Ok lists.0

-- ---- the whole store

abbrev pub digest_bytes : ℕ
digest_bytes = 32

-- the least bytes of a store: `SBST`, the format, the number of lists, and the digest
abbrev pub least_bytes : ℕ
least_bytes = 38

-- what the digest is of
abbrev pub body_in : List ℕ → List ℕ
body_in bytes = take (length bytes - digest_bytes) bytes

-- the digest at the end
abbrev pub digest_in : List ℕ → List ℕ
digest_in bytes = drop (length bytes - digest_bytes) bytes

-- the format of a number
abbrev pub format_of : ℕ → Option Format
format_of number = if number == 1 then Some OneSize else if number == 2 then Some EachSize else None

-- the place of a broken field in the body, counted from 0
abbrev pub fault_placed : {A : Type 0} → ℕ → Result A ℕ → Result A StoreFault
fault_placed size (Ok a) = Ok a
fault_placed size (Err left) = Err (fault.Shape (size - left))

-- the lists of a body in a format
abbrev pub body_reading : Format → List ℕ → Result (List Held) StoreFault
body_reading format body = fault_placed (length body) (lists_in format (drop 5 body))

-- the digest is looked at before the lists are
abbrev pub reading_in : Format → List ℕ → Result (List Held) StoreFault
reading_in format bytes =
    if bytes_eq (sha256 (body_in bytes)) (digest_in bytes)
    then body_reading format (body_in bytes)
    else Err (fault.Digest (sha256 (body_in bytes)) (digest_in bytes))

abbrev pub reading_as : Option Format → List ℕ → Result (List Held) StoreFault
reading_as (Some format) bytes = reading_in format bytes
reading_as None bytes = Err (fault.Format (slice_index bytes 4))

-- the format that a text begins with, or its first fault up to there
abbrev pub store_reading : List ℕ → Result (List Held) StoreFault
store_reading bytes =
    if nat_lt (length bytes) least_bytes then Err (fault.Shape (length bytes))
    else if bytes_eq (take 4 bytes) (codes "SBST") then reading_as (format_of (slice_index bytes 4)) bytes
    else Err (fault.Shape 0)
