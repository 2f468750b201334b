-- The names of lists and their texts, `THREAT/PLATFORM/ENTRY`.
use Rattle.std.specs.Prelude.{ℕ, List, [], ◌∷◌, ◌==◌, ◌&&◌, Bool, Option, Some, None, Result, Ok, Err, codes, find}
use Rattle.std.specs.List.{slice_split, join_with_byte}
use Rattle.std.specs.Str.{bytes_eq}
use Rattle.std.specs.declared.cmp.Ordering.{Ordering}
use Rattle.std.specs.Ordering.{nat_cmp, ordering_then}
use Rattle.sb_model.specs.declared.names.ThreatType.{ThreatType}
use Rattle.sb_model.specs.declared.names.ThreatType.TheVariants as threat
use Rattle.sb_model.specs.declared.names.PlatformType.{PlatformType}
use Rattle.sb_model.specs.declared.names.PlatformType.TheVariants as platform
use Rattle.sb_model.specs.declared.names.EntryType.{EntryType}
use Rattle.sb_model.specs.declared.names.EntryType.TheVariants as entry
use Rattle.sb_model.specs.declared.names.ListName.{ListName}
use Rattle.sb_model.specs.declared.names.NameFault.{NameFault}
use Rattle.sb_model.specs.declared.names.NameFault.TheVariants.{UnknownThreat, UnknownPlatform, UnknownEntry, Shape}

-- The table: each type in the order of its code, which counts from 1, with its word.
abbrev pub threats : List ThreatType
threats = threat.Malware ∷ threat.SocialEngineering ∷ threat.UnwantedSoftware ∷ threat.PotentiallyHarmfulApplication ∷ []

abbrev pub threat_word : ThreatType → List ℕ
threat_word threat.Malware = codes "MALWARE"
threat_word threat.SocialEngineering = codes "SOCIAL_ENGINEERING"
threat_word threat.UnwantedSoftware = codes "UNWANTED_SOFTWARE"
threat_word threat.PotentiallyHarmfulApplication = codes "POTENTIALLY_HARMFUL_APPLICATION"

abbrev pub threat_code : ThreatType → ℕ
threat_code threat.Malware = 1
threat_code threat.SocialEngineering = 2
threat_code threat.UnwantedSoftware = 3
threat_code threat.PotentiallyHarmfulApplication = 4

abbrev pub platforms : List PlatformType
platforms =
    platform.Windows ∷ platform.Linux ∷ platform.Android ∷ platform.Osx
    ∷ platform.Ios ∷ platform.AnyPlatform ∷ platform.AllPlatforms ∷ platform.Chrome ∷ []

abbrev pub platform_word : PlatformType → List ℕ
platform_word platform.Windows = codes "WINDOWS"
platform_word platform.Linux = codes "LINUX"
platform_word platform.Android = codes "ANDROID"
platform_word platform.Osx = codes "OSX"
platform_word platform.Ios = codes "IOS"
platform_word platform.AnyPlatform = codes "ANY_PLATFORM"
platform_word platform.AllPlatforms = codes "ALL_PLATFORMS"
platform_word platform.Chrome = codes "CHROME"

abbrev pub platform_code : PlatformType → ℕ
platform_code platform.Windows = 1
platform_code platform.Linux = 2
platform_code platform.Android = 3
platform_code platform.Osx = 4
platform_code platform.Ios = 5
platform_code platform.AnyPlatform = 6
platform_code platform.AllPlatforms = 7
platform_code platform.Chrome = 8

abbrev pub entries : List EntryType
entries = entry.Url ∷ entry.Executable ∷ []

abbrev pub entry_word : EntryType → List ℕ
entry_word entry.Url = codes "URL"
entry_word entry.Executable = codes "EXECUTABLE"

abbrev pub entry_code : EntryType → ℕ
entry_code entry.Url = 1
entry_code entry.Executable = 2

-- the type of a word, where the table has it
unfoldable pub threat_of : List ℕ → Option ThreatType
threat_of word = find (λ t. bytes_eq (threat_word t) word) threats

unfoldable pub platform_of : List ℕ → Option PlatformType
platform_of word = find (λ p. bytes_eq (platform_word p) word) platforms

unfoldable pub entry_of : List ℕ → Option EntryType
entry_of word = find (λ e. bytes_eq (entry_word e) word) entries

-- the type of a code, where the table has it
unfoldable pub threat_with_code : ℕ → Option ThreatType
threat_with_code code = find (λ t. threat_code t == code) threats

unfoldable pub platform_with_code : ℕ → Option PlatformType
platform_with_code code = find (λ p. platform_code p == code) platforms

unfoldable pub entry_with_code : ℕ → Option EntryType
entry_with_code code = find (λ e. entry_code e == code) entries

-- the slash that parts the words of a name
abbrev pub slash : ℕ
slash = 47

-- the text of a list's name: its three words, joined by slashes
abbrev pub text_of : ListName → List ℕ
text_of name = join_with_byte slash (threat_word name.threat ∷ platform_word name.platform ∷ entry_word name.entry ∷ [])

abbrev pub is_slash : ℕ → Bool
is_slash byte = byte == slash

-- what stands between the slashes
unfoldable pub parts_of : List ℕ → List (List ℕ)
parts_of text = slice_split is_slash text

abbrev pub or_fault : {A : Type 0} → NameFault → Option A → Result A NameFault
or_fault fault None = Err fault
or_fault fault (Some a) = Ok a

infixl 10 ◌>>=◌
abbrev pub ◌>>=◌ : {A B : Type 0} → Result A NameFault → (A → Result B NameFault) → Result B NameFault
(Ok a) >>= f = f a
(Err fault) >>= f = Err fault

-- the name of three words, or the fault of the first that the table lacks
abbrev pub name_of_words : List ℕ → List ℕ → List ℕ → Result ListName NameFault
name_of_words first second third = do
  t ← or_fault UnknownThreat (threat_of first)
  p ← or_fault UnknownPlatform (platform_of second)
  e ← or_fault UnknownEntry (entry_of third)
  Ok (record { threat = t; platform = p; entry = e })

-- A name has exactly three parts, which are its words.
abbrev pub name_of_parts : List (List ℕ) → Result ListName NameFault
name_of_parts (first ∷ second ∷ third ∷ []) = name_of_words first second third
name_of_parts _ = Err Shape

-- the name that a text is, or its first fault: `Shape` where there are not exactly two slashes, and then the words from the left
abbrev pub name_of : List ℕ → Result ListName NameFault
name_of text = name_of_parts (parts_of text)

-- whether two names are the same: their types have the same codes
abbrev pub same_name : ListName → ListName → Bool
same_name a b = threat_code a.threat == threat_code b.threat && platform_code a.platform == platform_code b.platform && entry_code a.entry == entry_code b.entry

-- the order of names: by the threat's code, then by the platform's, then by the entry's
abbrev pub name_cmp : ListName → ListName → Ordering
name_cmp a b =
    ordering_then (nat_cmp (threat_code a.threat) (threat_code b.threat))
    (ordering_then (nat_cmp (platform_code a.platform) (platform_code b.platform))
    (nat_cmp (entry_code a.entry) (entry_code b.entry)))
