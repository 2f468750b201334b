-- The text in which a client keeps its lists between runs. It begins with `SBST`, the number of its format, and the number
-- of lists. Then come the lists, in the order of their names, and at the end the SHA-256 of all bytes before it. Numbers
-- are big-endian. In the second format, which is written, each prefix has its size before it. In the first, which is
-- still read, all prefixes of a list have one size, which stands once.
use Rattle.std.specs.Prelude.{◌≡◌, ℕ, ◌<◌, Bool, if◌then◌else◌, List, [], ◌∷◌, ◌++◌, length, codes, All}
use Rattle.std.specs.Int.{w16, w32, to_be_bytes}
use Rattle.std.specs.List.{flat_map}
use Rattle.sha2.specs.Sha256.{sha256}
use Rattle.sb_model.specs.declared.names.ListName.{ListName}
use Rattle.sb_model.specs.Names.{threat_code, platform_code, entry_code}
use Rattle.sb_model.specs.Prefixes.{concatenation}
use Rattle.prefix_set.specs.Limits.{IsPrefixSet}
use Rattle.update_client.specs.Held.{Held, IsHeldList, AreHeldLists}
use Rattle.client_store.specs.declared.format.Format.{Format}
use Rattle.client_store.specs.declared.format.Format.TheVariants.{OneSize, EachSize}

-- ---- one list

-- a name, in the codes of its three types
abbrev pub name_text : ListName → List ℕ
name_text name = threat_code name.threat ∷ platform_code name.platform ∷ entry_code name.entry ∷ []

-- whether an update was refused since the last that was installed
abbrev pub mark_text : Bool → List ℕ
mark_text resync = (if resync then 1 else 0) ∷ []

-- a token, after its length
abbrev pub stored_token_text : List ℕ → List ℕ
stored_token_text token = to_be_bytes w16 (length token) ++ token

-- the size of the prefixes of a set that has one; 0 where there are none
abbrev pub common_size_of : List (List ℕ) → ℕ
common_size_of [] = 0
common_size_of (prefix ∷ set) = length prefix

-- a prefix, after its size
abbrev pub prefix_text : List ℕ → List ℕ
prefix_text prefix = length prefix ∷ prefix

-- the number of prefixes, and the prefixes
abbrev pub set_text : Format → List (List ℕ) → List ℕ
set_text OneSize set = common_size_of set ∷ to_be_bytes w32 (length set) ++ concatenation set
set_text EachSize set = to_be_bytes w32 (length set) ++ flat_map prefix_text set

abbrev pub list_text : Format → Held → List ℕ
list_text format held = name_text held.name ++ (mark_text held.resync ++ (stored_token_text held.token ++ set_text format held.set))

-- ---- the whole store

abbrev pub format_number : Format → ℕ
format_number OneSize = 1
format_number EachSize = 2

-- the number of lists, and the lists
abbrev pub counted_lists_text : Format → List Held → List ℕ
counted_lists_text format lists = length lists ∷ flat_map (list_text format) lists

-- what stands before the digest
abbrev pub body_text : Format → List Held → List ℕ
body_text format lists = codes "SBST" ++ format_number format ∷ counted_lists_text format lists

abbrev pub text_in : Format → List Held → List ℕ
text_in format lists = body_text format lists ++ sha256 (body_text format lists)

-- the text of a store, as it is written
abbrev pub store_text : List Held → List ℕ
store_text lists = text_in EachSize lists

-- ---- what may be stored

-- what each list of a client keeps to
pub record IsKept (held : Held) : Type 0 where
  pub token : IsHeldList held
  pub set : IsPrefixSet held.set

pub record AreKept (lists : List Held) : Type 0 where
  pub named : AreHeldLists lists
  pub each : All IsKept lists

-- all prefixes have one size
abbrev pub HasOneSize : List (List ℕ) → Type 0
HasOneSize set = All (λ prefix. length prefix ≡ common_size_of set) set

-- the first format is for lists each of which has prefixes of at most one size
abbrev pub Suits : Format → List Held → Type 0
Suits OneSize lists = All (λ held. HasOneSize held.set) lists
Suits EachSize lists = Unit {0}

-- the text is one of these lists, in a format that suits them
pub record IsStoreOf (lists : List Held) (text : List ℕ) : Type 0 where
  pub format : Format
  pub suits : Suits format lists
  pub is : text ≡ text_in format lists

-- the text is that of some lists, but for something that lacks at its end
pub record IsCutStore (text : List ℕ) : Type 0 where
  pub lists : List Held
  pub kept : AreKept lists
  pub lacking : List ℕ
  pub some : 0 < length lacking
  pub is : IsStoreOf lists (text ++ lacking)
