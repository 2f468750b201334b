-- The values that options and positional words have to be.
use Rattle.std.specs.Prelude.{ℕ, Bool, true, not, ◌&&◌, ◌||◌, ◌==◌, nat_lt, nat_le, if◌then◌else◌, List, [], ◌∷◌, length, slice_index, Option, Some, None, option_map, option_and_then}
use Rattle.std.specs.Char.{is_ascii_digit, is_ascii_hexdigit, is_ascii_alphanumeric}
use Rattle.std.specs.List.{list_any, list_all, before_first, after_first}
use Rattle.std.specs.Result.{result_ok}
use Rattle.std.specs.Str.Parse.{digits_value}
use Rattle.sb_model.specs.declared.names.ListName.{ListName}
use Rattle.sb_model.specs.Names.{name_of, same_name}
use Rattle.sb_words.specs.CommandLine.{Text, is_value}

-- ---- numbers

-- `0`, or digits that do not begin with 0
abbrev pub is_numeral : Text → Bool
is_numeral text = list_all is_ascii_digit text && nat_lt 0 (length text) && (length text == 1 || not (slice_index text 0 == 48))

abbrev pub within : ℕ → ℕ → ℕ → Option ℕ
within low high number = if nat_le low number && nat_le number high then Some number else None

-- the number that a text stands for, where it is from `low` to `high`
abbrev pub number_of : ℕ → ℕ → Text → Option ℕ
number_of low high text = if is_numeral text then within low high (digits_value 10 text) else None

-- ---- lists

-- the names that texts are
abbrev pub names_of : List Text → Option (List ListName)
names_of [] = Some []
names_of (text ∷ texts) = option_and_then (λ name. option_map (λ names. name ∷ names) (names_of texts)) (result_ok (name_of text))

abbrev pub has_each_once : List ListName → Bool
has_each_once [] = true
has_each_once (name ∷ names) = not (list_any (same_name name) names) && has_each_once names

-- 1 to 8 names
abbrev pub few_names_of : List Text → Option (List ListName)
few_names_of texts = if nat_lt 0 (length texts) && nat_le (length texts) 8 then names_of texts else None

-- names of which none stands twice
abbrev pub different : List ListName → Option (List ListName)
different names = if has_each_once names then Some names else None

-- the lists that texts name: 1 to 8, each once, in the order of the texts
unfoldable pub lists_named : List Text → Option (List ListName)
lists_named texts = option_and_then different (few_names_of texts)

-- ---- keys and addresses

abbrev pub is_key_byte : ℕ → Bool
is_key_byte byte = is_ascii_alphanumeric byte || byte == 45 || byte == 95

-- letters, digits, `-` and `_`, of which the first is no `-`
abbrev pub is_key : Text → Bool
is_key text = is_value text && list_all is_key_byte text

abbrev pub is_host_byte : ℕ → Bool
is_host_byte byte = is_ascii_alphanumeric byte || byte == 46 || byte == 45

-- letters, digits, `.` and `-`, of which the first is no `-`
abbrev pub is_host : Text → Bool
is_host text = is_value text && list_all is_host_byte text

abbrev pub is_colon : ℕ → Bool
is_colon byte = byte == 58

-- a host and a port of 1 to 65535
abbrev pub host_and_port : Text → Text → Option (Text × ℕ)
host_and_port host port = if is_host host then option_map (λ number. (host, number)) (number_of 1 65535 port) else None

-- the same with a colon between them
unfoldable pub host_port_of : Text → Option (Text × ℕ)
host_port_of text =
    if list_any is_colon text then host_and_port (before_first is_colon text) (after_first is_colon text) else None

-- ---- addresses at which connections come in

-- what stands before the first such byte and what stands after it, where there is one, give this
abbrev pub cut_at : (ℕ → Bool) → (Text → Text → Option (Text × ℕ)) → Text → Option (Text × ℕ)
cut_at is_mark both text = if list_any is_mark text then both (before_first is_mark text) (after_first is_mark text) else None

-- a host and a port of 0 to 65535, where 0 leaves it open which
abbrev pub listening_at : Text → Text → Option (Text × ℕ)
listening_at host port = if is_host host then option_map (λ number. (host, number)) (number_of 0 65535 port) else None

abbrev pub is_ipv6_byte : ℕ → Bool
is_ipv6_byte byte = is_ascii_hexdigit byte || byte == 58 || byte == 46

-- the bytes of an IPv6 address: one or more hexadecimal digits, `:` and `.`
abbrev pub is_ipv6 : Text → Bool
is_ipv6 text = nat_lt 0 (length text) && list_all is_ipv6_byte text

-- the port after a colon
abbrev pub port_after_colon : Text → Option ℕ
port_after_colon [] = None
port_after_colon (first ∷ port) = if first == 58 then number_of 0 65535 port else None

-- an IPv6 address, and after its closing bracket a colon and a port
abbrev pub listening_in : Text → Text → Option (Text × ℕ)
listening_in host rest = if is_ipv6 host then option_map (λ number. (host, number)) (port_after_colon rest) else None

abbrev pub is_closing : ℕ → Bool
is_closing byte = byte == 93

-- `HOST:PORT`, or `[IPV6]:PORT`
unfoldable pub listen_address_of : Text → Option (Text × ℕ)
listen_address_of [] = None
listen_address_of (first ∷ rest) =
    if first == 91 then cut_at is_closing listening_in rest else cut_at is_colon listening_at (first ∷ rest)
