-- The path of the target of a request (RFC 9112, section 3.2).
use Rattle.std.specs.Prelude.{ℕ, List, [], ◌∷◌, ◌==◌, ◌&&◌, ◌||◌, Bool, false, if◌then◌else◌, codes, nat_eq, drop}
use Rattle.std.specs.List.{before_first, position_or_len, prefix_len, starts_with}
use Rattle.std.specs.Char.{is_ascii_alphabetic, is_ascii_alphanumeric}

-- a letter, a digit, `+`, `-` or `.` (RFC 3986, section 3.1)
abbrev pub is_scheme_byte : ℕ → Bool
is_scheme_byte byte = is_ascii_alphanumeric byte || (byte == 43 || (byte == 45 || byte == 46))

abbrev pub begins_with_letter : List ℕ → Bool
begins_with_letter [] = false
begins_with_letter (byte ∷ bytes) = is_ascii_alphabetic byte

-- what follows the bytes of a scheme
abbrev pub after_scheme_bytes : List ℕ → List ℕ
after_scheme_bytes text = drop (prefix_len is_scheme_byte text) text

-- whether a target is in absolute form: it begins with a scheme, which begins with a letter, and `://`
abbrev pub is_absolute : List ℕ → Bool
is_absolute target = begins_with_letter target && starts_with nat_eq (after_scheme_bytes target) (codes "://")

-- what stands from the first `/` on, or nothing if there is none
abbrev pub from_slash : List ℕ → List ℕ
from_slash text = drop (position_or_len (λ byte. byte == 47) text) text

-- a target without its scheme and its authority, if it is in absolute form
abbrev pub without_authority : List ℕ → List ℕ
without_authority target = if is_absolute target then from_slash (drop 3 (after_scheme_bytes target)) else target

-- the path of a target: what stands before its first `?`, without a scheme and an authority
abbrev pub path_in : List ℕ → List ℕ
path_in target = without_authority (before_first (λ byte. byte == 63) target)
