-- The lines of a journal, each without the newline that ends it.
use Rattle.std.specs.Prelude.{◌≡◌, ◌≤◌, ℕ, ◌+◌, ◌*◌, ◌==◌, Bool, true, false, ◌&&◌, ◌||◌, not, nat_le, nat_lt, if◌then◌else◌, List, [], ◌∷◌, length, slice_index, Option, Some, None, option_and_then, codes}
use Rattle.std.specs.Char.{is_ascii_digit}
use Rattle.std.specs.Int.{w64, from_be_bytes}
use Rattle.std.specs.List.{list_all, slice_split}
use Rattle.std.specs.Option.{option_map}
use Rattle.std.specs.Result.{result_ok}
use Rattle.std.specs.Str.{bytes_eq}
use Rattle.std.specs.Str.Parse.{digits_value}
use Rattle.hex.specs.Hex.{decode_of}
use Rattle.sb_model.specs.declared.history.Added.{Added}
use Rattle.sb_model.specs.declared.names.ListName.{ListName}
use Rattle.sb_model.specs.Names.{name_of}
use Rattle.sb_model.specs.History.{IsPrefixSize}
use Rattle.list_versions.specs.declared.heads.Head.{Head}
use Rattle.list_versions.specs.declared.heads.Head.TheVariants as head
use Rattle.list_versions.specs.declared.heads.Header.{Header}

abbrev pub newline : ℕ
newline = 10

abbrev pub is_newline : ℕ → Bool
is_newline byte = byte == newline

-- the words of a line, which single spaces part
abbrev pub is_space : ℕ → Bool
is_space byte = byte == 32

unfoldable pub words_in_line : List ℕ → List (List ℕ)
words_in_line line = slice_split is_space line

-- ---- numbers

-- `0`, or digits that do not begin with 0
abbrev pub is_numeral : List ℕ → Bool
is_numeral text = list_all is_ascii_digit text && nat_lt 0 (length text) && (length text == 1 || not (slice_index text 0 == 48))

abbrev pub within : ℕ → ℕ → ℕ → Option ℕ
within low high number = if nat_le low number && nat_le number high then Some number else None

-- the decimal number that a text is, where it is from `low` to `high`; no number of a journal has more than four digits
unfoldable pub short_number_of : ℕ → ℕ → List ℕ → Option ℕ
short_number_of low high text = if is_numeral text && nat_le (length text) 4 then within low high (digits_value 10 text) else None

-- the size of a prefix that a text is
abbrev pub size_of : List ℕ → Option ℕ
size_of text = short_number_of 4 32 text

-- ---- hexadecimal digits, of both cases

-- so many bytes, in twice as many digits
unfoldable pub bytes_in_digits : ℕ → List ℕ → Option (List ℕ)
bytes_in_digits count digits = if length digits == 2 * count then result_ok (decode_of digits) else None

-- a full hash, in 64 digits
abbrev pub hash_of : List ℕ → Option (List ℕ)
hash_of digits = bytes_in_digits 32 digits

-- ---- the first line

-- whether the form is the second, in which a line that adds may name a size
abbrev pub form_of : List ℕ → Option Bool
form_of text = if bytes_eq text (codes "1") then Some false else if bytes_eq text (codes "2") then Some true else None

abbrev pub header_of_words : List (List ℕ) → Option Header
header_of_words (word ∷ form ∷ digits ∷ []) =
    if bytes_eq word (codes "sblist")
    then option_and_then (λ sized. option_map (λ bytes. record { sized = sized; epoch = from_be_bytes w64 bytes }) (bytes_in_digits 8 digits)) (form_of form)
    else None
header_of_words _ = None

-- `sblist 1 ` or `sblist 2 `, and the epoch in 16 digits
abbrev pub header_of : List ℕ → Option Header
header_of line = header_of_words (words_in_line line)

-- ---- the first line of a record

abbrev pub list_head : Option ListName → Option ℕ → Option Head
list_head name size = option_and_then (λ name. option_map (λ size. head.List name size) size) name

-- how many hashes a change has
abbrev pub is_change_size : ℕ → Bool
is_change_size count = nat_le 1 count && nat_le count 1024

abbrev pub change_head : Option ListName → Option ℕ → Option ℕ → Option Head
change_head name adds removes =
    option_and_then (λ name. option_and_then (λ adds. option_and_then (λ removes. if is_change_size (adds + removes) then Some (head.Change name adds removes) else None) removes) adds) name

abbrev pub head_of_words : List (List ℕ) → Option Head
head_of_words (word ∷ name ∷ size ∷ []) =
    if bytes_eq word (codes "list") then list_head (result_ok (name_of name)) (size_of size) else None
head_of_words (word ∷ name ∷ adds ∷ removes ∷ []) =
    if bytes_eq word (codes "change")
    then change_head (result_ok (name_of name)) (short_number_of 0 1024 adds) (short_number_of 0 1024 removes)
    else None
head_of_words _ = None

-- `list NAME SIZE`, or `change NAME a r` with 1 to 1,024 hashes in all
abbrev pub head_of : List ℕ → Option Head
head_of line = head_of_words (words_in_line line)

-- ---- hash lines

-- `+` and a hash, and in the second form optionally a space and a size. Without one the declared size counts.
abbrev pub added_of_words : Bool → ℕ → List (List ℕ) → Option Added
added_of_words sized declared (digits ∷ []) = option_map (λ hash. record { hash = hash; size = declared }) (hash_of digits)
added_of_words sized declared (digits ∷ size ∷ []) =
    if sized then option_and_then (λ hash. option_map (λ size. record { hash = hash; size = size }) (size_of size)) (hash_of digits) else None
added_of_words sized declared _ = None

-- what stands after a sign
abbrev pub after_sign : ℕ → List ℕ → Option (List ℕ)
after_sign sign [] = None
after_sign sign (byte ∷ text) = if byte == sign then Some text else None

abbrev pub added_in_line : Bool → ℕ → List ℕ → Option Added
added_in_line sized declared line = option_and_then (λ text. added_of_words sized declared (words_in_line text)) (after_sign 43 line)

-- `-` and a hash
abbrev pub removed_of : List ℕ → Option (List ℕ)
removed_of line = option_and_then hash_of (after_sign 45 line)

-- a hash that a line adds is well formed
pub record IsAdded (added : Added) : Type 0 where
  pub hash : length added.hash ≡ 32
  pub size : IsPrefixSize added.size

-- what the first line of a record keeps to
abbrev pub IsHead : Head → Type 0
IsHead (head.List name size) = IsPrefixSize size
IsHead (head.Change name to_add to_remove) = (1 ≤ to_add + to_remove) × (to_add + to_remove ≤ 1024)
