-- What is written of a field is what its row reads, in the object of any fields that are written together. And what such
-- members have of their values.
use Rattle.std.specs.Prelude.{◌≡◌, ℕ, ◌^◌, ◌<◌, ◌≤◌, false, List, ◌∷◌, Some, Ok}
use Rattle.serde_json.specs.Data.{Data, string, number, object, unsigned, Members, members_depth}
use Rattle.serde_json.specs.View.{items_of}
use Rattle.serde_json.specs.Written.{members_have_float}
use Rattle.base64.specs.Engines.{standard}
use Rattle.base64.specs.GeneralPurpose.{IsBytes, encode_of}
use Rattle.sb_json.specs.Values.{whole_in, whole_of, string_of, object_of, bytes_in, bytes_of}
use Rattle.sb_json.specs.declared.fields.Field.{Field}
use Rattle.sb_json.specs.declared.fields.Field.TheVariants as field
use Rattle.sb_model.specs.Names.{threat_word, threat_of, platform_word, platform_of, entry_word, entry_of}
use Rattle.sb_model.specs.declared.names.ThreatType.{ThreatType}
use Rattle.sb_model.specs.declared.names.PlatformType.{PlatformType}
use Rattle.sb_model.specs.declared.names.EntryType.{EntryType}
use Rattle.sb_members.specs.Rows.{object_or_null, items_or_none, bytes_or_empty, whole_or_zero, text_or_empty, duration_or_zero, threat_row, platform_row, entry_row}
use Rattle.sb_members.specs.Writing.{text_written, bytes_written, number_written, long_written, duration_written, values_written, unless_bare}
use Rattle.sb_members.specs.Ranges.{IsText, IsDuration}
use Rattle.sb_members.specs.Parts.{Parts, made, found, or_null, AllWithin, AllHaveNoFloat}

-- Fields that have to be there. Bytes and numbers that are left out, as none and 0 are, are not found there.
pub record NeededReadAgain : Type 0 where
  pub strings : (f : Field) (parts : Parts) (word : List ℕ) → found f parts ≡ Some (string word) → string_of f (object (made parts)) ≡ Ok word
  pub objects : (f : Field) (parts : Parts) (members : Members) → found f parts ≡ Some (object members) → object_of f (object (made parts)) ≡ Ok (object members)
  pub bytes : (f : Field) (parts : Parts) (b : ℕ) (bs : List ℕ) → IsBytes (b ∷ bs) → found f parts ≡ bytes_written (b ∷ bs) → bytes_of f (object (made parts)) ≡ Ok (b ∷ bs)
  pub numbers : (f : Field) (most : ℕ) (parts : Parts) (n : ℕ) → 0 < n → n ≤ most → found f parts ≡ number_written n → whole_of f most (object (made parts)) ≡ Ok n

-- Fields that may be absent.
pub record DefaultsReadAgain : Type 0 where
  pub texts : (f : Field) (parts : Parts) (text : List ℕ) → IsText text → found f parts ≡ text_written text → text_or_empty f (object (made parts)) ≡ Ok text
  pub bytes : (f : Field) (parts : Parts) (bs : List ℕ) → IsBytes bs → found f parts ≡ bytes_written bs → bytes_or_empty f (object (made parts)) ≡ Ok bs
  pub numbers : (f : Field) (most : ℕ) (parts : Parts) (n : ℕ) → n ≤ most → found f parts ≡ number_written n → whole_or_zero f most (object (made parts)) ≡ Ok n
  pub longs : (f : Field) (most : ℕ) (parts : Parts) (n : ℕ) → n ≤ most → most < 2 ^ 64 → found f parts ≡ long_written n → whole_or_zero f most (object (made parts)) ≡ Ok n
  pub durations : (f : Field) (parts : Parts) (nanos : ℕ) → IsDuration nanos → found f parts ≡ duration_written nanos → duration_or_zero f (object (made parts)) ≡ Ok nanos
  pub lists : (f : Field) (parts : Parts) (values : List Data) → found f parts ≡ values_written values → items_or_none f (object (made parts)) ≡ Ok (items_of values)
  pub objects : (f : Field) (parts : Parts) (members : Members) → found f parts ≡ unless_bare members → object_or_null f (object (made parts)) ≡ Ok (or_null members)

-- The words of types, and the three rows of a list's name.
pub record NamesReadAgain : Type 0 where
  pub threat_words : (t : ThreatType) → threat_of (threat_word t) ≡ Some t
  pub platform_words : (p : PlatformType) → platform_of (platform_word p) ≡ Some p
  pub entry_words : (e : EntryType) → entry_of (entry_word e) ≡ Some e
  pub threats : (parts : Parts) (t : ThreatType) → found field.ThreatType parts ≡ Some (string (threat_word t)) → threat_row (object (made parts)) ≡ Ok t
  pub platforms : (parts : Parts) (p : PlatformType) → found field.PlatformType parts ≡ Some (string (platform_word p)) → platform_row (object (made parts)) ≡ Ok p
  pub entries : (parts : Parts) (e : EntryType) → found field.ThreatEntryType parts ≡ Some (string (entry_word e)) → entry_row (object (made parts)) ≡ Ok e

-- Items of lists.
pub record ItemsReadAgain : Type 0 where
  pub numbers : (f : Field) (most n : ℕ) → n ≤ most → whole_in f most (number (unsigned n)) ≡ Ok n
  pub bytes : (f : Field) (bs : List ℕ) → IsBytes bs → bytes_in f (string (encode_of standard bs)) ≡ Ok bs

pub record AreReadAgain : Type 0 where
  pub needed : NeededReadAgain
  pub defaults : DefaultsReadAgain
  pub names : NamesReadAgain
  pub items : ItemsReadAgain

-- Members nest no deeper than their values.
abbrev pub NestAsValues : Type 0
NestAsValues = (parts : Parts) (n : ℕ) → AllWithin n parts → members_depth (made parts) ≤ n

-- Members have a float only where a value has one.
abbrev pub FloatAsValues : Type 0
FloatAsValues = (parts : Parts) → AllHaveNoFloat parts → members_have_float (made parts) ≡ false
