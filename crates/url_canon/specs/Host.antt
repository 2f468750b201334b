-- The host of an authority (RFC 3986, section 3.2.2; Safe Browsing v4, "URLs and Hashing", section
-- "Canonicalization", canonicalizing the hostname). Between its lower case and its address stands
-- the step for international names (UTS 46).
use Rattle.std.specs.Prelude.{ℕ, nat_le, List, ◌++◌, ◌==◌, Bool, true, false, not, ◌&&◌, if◌then◌else◌, Option, Some, None, filter, codes}
use Rattle.std.specs.List.{before_first, slice_split, list_any, join_with_byte}
use Rattle.std.specs.Str.{str_to_ascii_lowercase}
use Rattle.idna.specs.Uts46.{domain_to_ascii}
use Rattle.idna.specs.declared.deny_list.TheConstants.AsciiDenyList.{URL}
use Rattle.url_canon.specs.Words.{begins_with, is_nil, without_leading, is_dot}
use Rattle.url_canon.specs.declared.host.Host.{Host}
use Rattle.url_canon.specs.Address.{address_of, address_text}

abbrev pub is_opening_bracket : ℕ → Bool
is_opening_bracket byte = byte == 91

abbrev pub is_close : ℕ → Bool
is_close byte = byte == 93

abbrev pub is_colon : ℕ → Bool
is_colon byte = byte == 58

-- `[` at the front, and a `]`
abbrev pub is_bracketed : List ℕ → Bool
is_bracketed text = begins_with is_opening_bracket text && list_any is_close text

-- up to the first `]`, in lower case
unfoldable pub bracketed_host : List ℕ → List ℕ
bracketed_host text = str_to_ascii_lowercase (before_first is_close text ++ codes "]")

-- what stands between the dots, where something does
abbrev pub labels_of : List ℕ → List (List ℕ)
labels_of text = filter (λ label. not (is_nil label)) (slice_split is_dot text)

-- with one dot between two labels, and none at the ends
abbrev pub tidied : List ℕ → List ℕ
tidied name = join_with_byte 46 (labels_of name)

-- the name before the port, tidied and in lower case
unfoldable pub name_before_port : List ℕ → List ℕ
name_before_port text = str_to_ascii_lowercase (tidied (before_first is_colon text))

-- no ASCII character
abbrev pub is_high : ℕ → Bool
is_high byte = nat_le 128 byte

-- the form that ToASCII gave, tidied, or the name where it gave none
abbrev pub form_or : List ℕ → Option (List ℕ) → List ℕ
form_or name None = name
form_or name (Some form) = tidied form

-- A name with other characters than those of ASCII, in ASCII: ToASCII (UTS 46, section 4.2) with
-- the flags of the URL Standard and its forbidden domain code points. A name that ToASCII refuses,
-- as one that is not UTF-8, stays.
unfoldable pub ascii_name : List ℕ → List ℕ
ascii_name name = if list_any is_high name then form_or name (domain_to_ascii URL name) else name

-- the name of a host that stands in no brackets
abbrev pub host_name : List ℕ → List ℕ
host_name text = ascii_name (name_before_port text)

pub record HostParts : Type 0 where
  pub text : List ℕ
  -- an IPv4 address, or in brackets
  pub is_address : Bool

abbrev pub named_or_address : List ℕ → Option ℕ → HostParts
named_or_address name None = record { text = name; is_address = false }
named_or_address name (Some address) = record { text = address_text address; is_address = true }

-- a name as a host: as four decimals where it stands for an IPv4 address
unfoldable pub named_host : List ℕ → HostParts
named_host name = named_or_address name (address_of name)

-- the host of an authority without its user, where it has one
unfoldable pub host_of : List ℕ → Option HostParts
host_of text =
    if is_bracketed (without_leading is_dot text)
    then Some (record { text = bracketed_host (without_leading is_dot text); is_address = true })
    else (if is_nil (host_name text) then None else Some (named_host (host_name text)))

-- a host of the code by its parts
abbrev pub view : Host → HostParts
view host = record { text = host.text; is_address = host.is_address }
