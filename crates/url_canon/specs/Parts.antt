-- The parts of an unescaped URL (RFC 3986, section 3).
use Rattle.std.specs.Prelude.{ℕ, List, ◌==◌, Bool, ◌&&◌, ◌||◌, if◌then◌else◌, Option, Some, None, codes, nat_eq, drop, take_while}
use Rattle.std.specs.List.{before_first, after_first, slice_split, starts_with, list_any}
use Rattle.std.specs.Char.{is_ascii_alphabetic, is_ascii_alphanumeric}
use Rattle.std.specs.Str.{str_to_ascii_lowercase}
use Rattle.url_canon.specs.Words.{begins_with, from_first, without_leading, last_part}

-- a letter, a digit, `+`, `-` or `.`
abbrev pub is_scheme_byte : ℕ → Bool
is_scheme_byte byte = is_ascii_alphanumeric byte || (byte == 43 || (byte == 45 || byte == 46))

-- a letter, then other bytes of a scheme, and then `://`
abbrev pub has_scheme : List ℕ → Bool
has_scheme text =
    begins_with is_ascii_alphabetic text
    && starts_with nat_eq (without_leading is_scheme_byte text) (codes "://")

-- the scheme in lower case, which is `http` where the text has none
unfoldable pub scheme_of : List ℕ → List ℕ
scheme_of text =
    if has_scheme text then str_to_ascii_lowercase (take_while is_scheme_byte text)
    else codes "http"

unfoldable pub after_scheme : List ℕ → List ℕ
after_scheme text = if has_scheme text then drop 3 (without_leading is_scheme_byte text) else text

-- The authority ends at the first `/` or `?`.
abbrev pub ends_authority : ℕ → Bool
ends_authority byte = byte == 47 || byte == 63

abbrev pub is_at : ℕ → Bool
is_at byte = byte == 64

-- the authority after its last `@`
unfoldable pub authority_of : List ℕ → List ℕ
authority_of text = last_part (slice_split is_at (before_first ends_authority text))

-- the path and the query
unfoldable pub after_authority : List ℕ → List ℕ
after_authority text = from_first ends_authority text

abbrev pub is_question : ℕ → Bool
is_question byte = byte == 63

-- what stands before the first `?`
unfoldable pub path_part : List ℕ → List ℕ
path_part text = before_first is_question text

-- what stands after the first `?`, where there is one
unfoldable pub query_part : List ℕ → Option (List ℕ)
query_part text = if list_any is_question text then Some (after_first is_question text) else None
