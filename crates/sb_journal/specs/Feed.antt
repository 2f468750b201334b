-- Feeds: inputs of URLs, one a line. A URL stands for the full hash of its own expression, which is its host, its path
-- and its query as they stand in its canonical form: so `bad.example` stands for that host's first page, and with it for
-- all pages of the host.
use Rattle.std.specs.Prelude.{ℕ, ◌≤◌, ◌==◌, ◌||◌, Bool, true, false, if◌then◌else◌, List, [], ◌∷◌, length, Option, Some, None, Result, Ok, Err}
use Rattle.std.specs.List.{filter_map}
use Rattle.std.specs.Result.{result_ok, result_err}
use Rattle.std.specs.Str.Lines.{lines}
use Rattle.sha2.specs.Sha256.{sha256}
use Rattle.url_canon.specs.declared.fault.UrlFault.{UrlFault}
use Rattle.url_canon.specs.Canonical.{canonical_of}
use Rattle.url_canon.specs.Url.{Url}
use Rattle.url_expressions.specs.Spans.{text_behind_scheme}
use Rattle.sb_journal.specs.declared.hash_line.HashLine.{HashLine}
use Rattle.sb_journal.specs.declared.hash_line.HashLine.TheVariants.{Add, Remove}

-- ---- inputs

-- the most bytes of an input, and the most lines of one that has URLs
abbrev pub most_input : ℕ
most_input = 201326592

abbrev pub most_feed_lines : ℕ
most_feed_lines = 2097152

-- The lines of an input are those of its text: LF or CR LF ends one, and what follows the last LF is one if it is not
-- empty. Every other CR is a byte of its line.
pub record IsFeedWithinLimits (input : List ℕ) : Type 0 where
  pub bytes : length input ≤ most_input
  pub few : length (lines input) ≤ most_feed_lines

-- ---- the hash of a URL

-- the full hash of the expression that a URL is itself
abbrev pub own_hash : Url → List ℕ
own_hash url = sha256 (text_behind_scheme url)

abbrev pub hash_of_canonical : Result Url UrlFault → Result (List ℕ) UrlFault
hash_of_canonical (Ok url) = Ok (own_hash url)
hash_of_canonical (Err fault) = Err fault

-- the hash of a text that is a URL, or why the text has no canonical form
abbrev pub hash_of_url : List ℕ → Result (List ℕ) UrlFault
hash_of_url text = hash_of_canonical (canonical_of text)

-- ---- what lines say

-- An empty line, and one that begins with `#`, says nothing.
abbrev pub is_mute : List ℕ → Bool
is_mute [] = true
is_mute (byte ∷ bytes) = byte == 35

-- what a line of a feed says: nothing, the hash of its URL, or why its URL has none
abbrev pub said_by : List ℕ → Option (Result (List ℕ) UrlFault)
said_by line = if is_mute line then None else Some (hash_of_url line)

-- what was said without a fault, and the fault
abbrev pub told : {A : Type 0} → Option (Result A UrlFault) → Option A
told None = None
told (Some said) = result_ok said

abbrev pub refused : {A : Type 0} → Option (Result A UrlFault) → Option UrlFault
refused None = None
refused (Some said) = result_err said

-- the hashes of the URLs of an input, in the order of its lines
abbrev pub hashes_in : List ℕ → List (List ℕ)
hashes_in input = filter_map (λ line. told (said_by line)) (lines input)

-- ---- lines with a sign

-- A line `+URL` puts the hash of its URL in, and a line `-URL` takes it out. Without a sign the line is all URL, and
-- puts in.
abbrev pub is_sign : ℕ → Bool
is_sign byte = byte == 43 || byte == 45

abbrev pub url_behind_sign : List ℕ → List ℕ
url_behind_sign [] = []
url_behind_sign (byte ∷ bytes) = if is_sign byte then bytes else byte ∷ bytes

abbrev pub takes_out : List ℕ → Bool
takes_out [] = false
takes_out (byte ∷ bytes) = byte == 45

-- the hash line that a hash becomes, with the size of its prefix if it is put in
abbrev pub hash_line_for : ℕ → Bool → List ℕ → HashLine
hash_line_for size out hash = if out then Remove hash else Add (record { hash = hash; size = size })

abbrev pub hash_line_of : ℕ → Bool → Result (List ℕ) UrlFault → Result HashLine UrlFault
hash_line_of size out (Ok hash) = Ok (hash_line_for size out hash)
hash_line_of size out (Err fault) = Err fault

-- what a line with or without a sign says
abbrev pub edit_said_by : ℕ → List ℕ → Option (Result HashLine UrlFault)
edit_said_by size line =
    if is_mute line then None else Some (hash_line_of size (takes_out line) (hash_of_url (url_behind_sign line)))
