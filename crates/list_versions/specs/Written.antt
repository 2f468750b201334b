-- The text of a journal that tells a history: its first line, a line for each declared list, and then the changes, the
-- oldest first. In the second form each line that adds names a size, and in the first form none does.
use Rattle.std.specs.Prelude.{◌≡◌, ℕ, ◌+◌, ◌^◌, ◌<◌, ◌≤◌, ⊤, Bool, false, true, Some, List, [], ◌∷◌, ◌++◌, length, All, codes, decimal}
use Rattle.std.specs.Int.{w64, to_be_bytes}
use Rattle.std.specs.List.{flat_map, join_with_byte}
use Rattle.hex.specs.Hex.{IsBytes, encode_lower}
use Rattle.sb_model.specs.declared.history.Added.{Added}
use Rattle.sb_model.specs.declared.history.Change.{Change}
use Rattle.sb_model.specs.declared.names.ListName.{ListName}
use Rattle.sb_model.specs.Names.{same_name, text_of}
use Rattle.sb_model.specs.History.{History, IsPrefixSize, IsWellFormed, declares}
use Rattle.list_versions.specs.declared.heads.Header.{Header}
use Rattle.list_versions.specs.Journal.{Kept, declared_size_of}
use Rattle.list_versions.specs.Limits.{WithinLimits, hash_lines, most_changes, most_hash_lines, most_declared_lists}
use Rattle.list_versions.specs.Lines.{newline}

-- some words, parted by single spaces, and the end of the line
abbrev pub line_of : List (List ℕ) → List ℕ
line_of words = join_with_byte 32 words ++ newline ∷ []

-- the form: the second has sizes
abbrev pub form_word : Bool → List ℕ
form_word true = codes "2"
form_word false = codes "1"

-- the first line, with the form, and the epoch in 16 digits
abbrev pub header_line : Header → List ℕ
header_line header = line_of (codes "sblist" ∷ form_word header.sized ∷ encode_lower (to_be_bytes w64 header.epoch) ∷ [])

-- the line that declares a list: its name, and its declared size
abbrev pub declaration_line : ListName × ℕ → List ℕ
declaration_line list = line_of (codes "list" ∷ text_of list.0 ∷ decimal list.1 ∷ [])

-- the line that begins a change: the name of its list, and how many hashes it adds and removes
abbrev pub change_line : Change → List ℕ
change_line change =
    line_of (codes "change" ∷ text_of change.list ∷ decimal (length change.adds) ∷ decimal (length change.removes) ∷ [])

-- `+` and a hash, and in the second form its size
abbrev pub add_words : Bool → Added → List (List ℕ)
add_words true added = encode_lower added.hash ∷ decimal added.size ∷ []
add_words false added = encode_lower added.hash ∷ []

abbrev pub add_line : Bool → Added → List ℕ
add_line sized added = 43 ∷ line_of (add_words sized added)

-- `-` and a hash
abbrev pub remove_line : List ℕ → List ℕ
remove_line hash = 45 ∷ line_of (encode_lower hash ∷ [])

-- a change: the line that begins it, then what it adds, and then what it removes
unfoldable pub change_text : Bool → Change → List ℕ
change_text sized change = change_line change ++ flat_map (add_line sized) change.adds ++ flat_map remove_line change.removes

abbrev pub header_of_history : Bool → History → Header
header_of_history sized history = record { sized = sized; epoch = history.epoch }

-- a whole journal
unfoldable pub journal_text : Bool → History → List ℕ
journal_text sized history =
    header_line (header_of_history sized history) ++ flat_map declaration_line history.declared ++ flat_map (change_text sized) history.changes

-- ---- what a journal can tell

-- no two of these lists have one name
abbrev pub AreApart : List (ListName × ℕ) → Type 0
AreApart [] = ⊤
AreApart (list ∷ lists) = All (λ other. same_name list.0 other.0 ≡ false) lists × AreApart lists

-- A change that has lines: of a list that is declared, with 1 to 1,024 hashes, which are bytes. A hash may stand in it
-- more than once, and one that it removes need not be there.
pub record HasLines (history : History) (change : Change) : Type 0 where
  pub declared : declares history change.list ≡ true
  pub some : 1 ≤ length change.adds + length change.removes
  pub few : length change.adds + length change.removes ≤ 1024
  pub adds : All (λ added. IsBytes added.hash) change.adds
  pub removes : All IsBytes change.removes

-- A history that a journal can tell.
pub record HasJournal (history : History) : Type 0 where
  pub epoch : history.epoch < 2 ^ 64
  pub well_formed : IsWellFormed history
  pub apart : AreApart history.declared
  pub changes : All (HasLines history) history.changes
  pub few_lists : length history.declared ≤ most_declared_lists
  pub few_changes : length history.changes ≤ most_changes
  pub few_hashes : hash_lines history.changes ≤ most_hash_lines
  pub within : WithinLimits history

-- Each hash that these changes add has the declared size of its list: then lines without sizes tell them too.
abbrev pub HaveDeclaredSizes : History → List Change → Type 0
HaveDeclaredSizes history changes = All (λ change. All (λ added. declared_size_of history change.list ≡ Some added.size) change.adds) changes

abbrev pub HasDeclaredSizes : History → Type 0
HasDeclaredSizes history = HaveDeclaredSizes history history.changes

-- what such a journal says: this history, and nothing after it
abbrev pub wholly : Bool → History → Kept
wholly sized history = record { sized = sized; versions = history; rest = [] }

-- ---- what is read of a text that was written

-- A change that a record can tell behind a history. Whether it passes a limit is not said.
pub record MayFollow (history : History) (change : Change) : Type 0 where
  pub lines : HasLines history change
  pub adds : All (λ added. (length added.hash ≡ 32) × IsPrefixSize added.size) change.adds
  pub removes : All (λ hash. length hash ≡ 32) change.removes

-- what is known once further changes have come
abbrev pub with_changes : List Change → Kept → Kept
with_changes changes kept = record kept { versions = record kept.versions { changes = kept.versions.changes ++ changes } }

-- A history whose text has the form of a journal. Whether it passes a limit is not said.
pub record HasText (history : History) : Type 0 where
  pub epoch : history.epoch < 2 ^ 64
  pub sizes : All (λ list. IsPrefixSize list.1) history.declared
  pub changes : All (MayFollow history) history.changes
