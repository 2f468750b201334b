-- A name's text has the name's words as its parts, and a word of the table is read as its type.
use Rattle.std.proofs.Common.{◌≡◌, ℕ, List, [], ◌∷◌, ◌++◌, Bool, true, false, refl, sym, ap, ◌∙◌, subst, cond, Option, Some, None, Result, Ok, Err}
use Rattle.std.specs.Prelude.{find}
use Rattle.std.specs.List.{join_with_byte}
use Rattle.std.specs.Str.{bytes_eq}
use Rattle.std.proofs.lemmas.List.Splits.{join_with_byte-slice_split}
use Rattle.std.proofs.lemmas.Slice.Eq.{bytes_eq-Decides}
use Rattle.sb_model.specs.Names.{threats, threat_word, threat_of, platforms, platform_word, platform_of, entries, entry_word, entry_of, or_fault, ◌>>=◌, slash, parts_of, name_of_words, name_of_parts, name_of, text_of}
use Rattle.sb_model.specs.declared.names.ThreatType.{ThreatType}
use Rattle.sb_model.specs.declared.names.ThreatType.TheVariants as threat
use Rattle.sb_model.specs.declared.names.PlatformType.{PlatformType}
use Rattle.sb_model.specs.declared.names.PlatformType.TheVariants as platform
use Rattle.sb_model.specs.declared.names.EntryType.{EntryType}
use Rattle.sb_model.specs.declared.names.EntryType.TheVariants as entry
use Rattle.sb_model.specs.declared.names.ListName.{ListName}
use Rattle.sb_model.specs.declared.names.NameFault.{NameFault}

-- each word is the first part, whatever follows the slash
threat_part : (t : ThreatType) (rest : List ℕ) → parts_of (threat_word t ++ slash ∷ rest) ≡ threat_word t ∷ parts_of rest
unfolding parts_of
threat_part threat.Malware rest = refl
threat_part threat.SocialEngineering rest = refl
threat_part threat.UnwantedSoftware rest = refl
threat_part threat.PotentiallyHarmfulApplication rest = refl

platform_part : (p : PlatformType) (rest : List ℕ) → parts_of (platform_word p ++ slash ∷ rest) ≡ platform_word p ∷ parts_of rest
unfolding parts_of
platform_part platform.Windows rest = refl
platform_part platform.Linux rest = refl
platform_part platform.Android rest = refl
platform_part platform.Osx rest = refl
platform_part platform.Ios rest = refl
platform_part platform.AnyPlatform rest = refl
platform_part platform.AllPlatforms rest = refl
platform_part platform.Chrome rest = refl

entry_part : (e : EntryType) → parts_of (entry_word e) ≡ entry_word e ∷ []
unfolding parts_of
entry_part entry.Url = refl
entry_part entry.Executable = refl

-- each word is read as its type
threat_of-word : (t : ThreatType) → threat_of (threat_word t) ≡ Some t
unfolding threat_of
threat_of-word threat.Malware = refl
threat_of-word threat.SocialEngineering = refl
threat_of-word threat.UnwantedSoftware = refl
threat_of-word threat.PotentiallyHarmfulApplication = refl

platform_of-word : (p : PlatformType) → platform_of (platform_word p) ≡ Some p
unfolding platform_of
platform_of-word platform.Windows = refl
platform_of-word platform.Linux = refl
platform_of-word platform.Android = refl
platform_of-word platform.Osx = refl
platform_of-word platform.Ios = refl
platform_of-word platform.AnyPlatform = refl
platform_of-word platform.AllPlatforms = refl
platform_of-word platform.Chrome = refl

entry_of-word : (e : EntryType) → entry_of (entry_word e) ≡ Some e
unfolding entry_of
entry_of-word entry.Url = refl
entry_of-word entry.Executable = refl

-- what is found passes the test
find_passes : {X : Type 0} (p : X → Bool) (xs : List X) (x : X) → find p xs ≡ Some x → p x ≡ true
find_passes p [] x h = absurd (cc)
find_passes {X} p (y ∷ ys) x h = by (find_passes p ys x) (p y) refl h
  where
    by : (find p ys ≡ Some x → p x ≡ true) → (b : Bool) → p y ≡ b → cond b (Some y) (find p ys) ≡ Some x → p x ≡ true
    by later true e k = let same : y ≡ x = cc in subst (λ z. p z ≡ true) same e
    by later false e k = later k

-- and a type is found only for its word
word_of-threat : (word : List ℕ) (t : ThreatType) → threat_of word ≡ Some t → threat_word t ≡ word
unfolding threat_of
word_of-threat word t h = (bytes_eq-Decides (threat_word t) word).0 (find_passes (λ u. bytes_eq (threat_word u) word) threats t h)

word_of-platform : (word : List ℕ) (p : PlatformType) → platform_of word ≡ Some p → platform_word p ≡ word
unfolding platform_of
word_of-platform word p h = (bytes_eq-Decides (platform_word p) word).0 (find_passes (λ u. bytes_eq (platform_word u) word) platforms p h)

word_of-entry : (word : List ℕ) (e : EntryType) → entry_of word ≡ Some e → entry_word e ≡ word
unfolding entry_of
word_of-entry word e h = (bytes_eq-Decides (entry_word e) word).0 (find_passes (λ u. bytes_eq (entry_word u) word) entries e h)

-- a step that gave a value
bind_ok : {A B : Type 0} (r : Result A NameFault) (f : A → Result B NameFault) (y : B) → (r >>= f) ≡ Ok y → (x : A) × (r ≡ Ok x) × (f x ≡ Ok y)
bind_ok (Ok x) f y h = (x, refl, h)
bind_ok (Err fault) f y h = absurd (cc)

or_fault_ok : {A : Type 0} (fault : NameFault) (o : Option A) (x : A) → or_fault fault o ≡ Ok x → o ≡ Some x
or_fault_ok fault None x h = absurd (cc)
or_fault_ok fault (Some a) x h = let same : a ≡ x = cc in ap Some same

words_found : (a b c : List ℕ) (name : ListName) → name_of_words a b c ≡ Ok name → (a ≡ threat_word name.threat) × (b ≡ platform_word name.platform) × (c ≡ entry_word name.entry)
words_found a b c name h =
    let t = bind_ok (or_fault _ (threat_of a)) _ name h in
    let p = bind_ok (or_fault _ (platform_of b)) _ name t.2 in
    let e = bind_ok (or_fault _ (entry_of c)) _ name p.2 in
    let is_threat : t.0 ≡ name.threat = cc in
    let is_platform : p.0 ≡ name.platform = cc in
    let is_entry : e.0 ≡ name.entry = cc in (
      sym (word_of-threat a t.0 (or_fault_ok _ _ t.0 t.1)) ∙ ap threat_word is_threat,
      sym (word_of-platform b p.0 (or_fault_ok _ _ p.0 p.1)) ∙ ap platform_word is_platform,
      sym (word_of-entry c e.0 (or_fault_ok _ _ e.0 e.1)) ∙ ap entry_word is_entry,
    )

-- what is read is the name's text
pub found_is_text : (text a b c : List ℕ) (name : ListName) → parts_of text ≡ a ∷ b ∷ c ∷ [] → name_of_words a b c ≡ Ok name → text ≡ text_of name
unfolding parts_of
found_is_text text a b c name h k =
    let words = words_found a b c name k in
    let first = words.0 in
    let second = words.1 in
    let third = words.2 in
    sym (join_with_byte-slice_split slash text) ∙ ap (join_with_byte slash) h ∙ rw (first, second, third) refl

-- the parts of a name's text are its words
pub parts_of-text_of : (name : ListName) → parts_of (text_of name) ≡ threat_word name.threat ∷ platform_word name.platform ∷ entry_word name.entry ∷ []
parts_of-text_of name =
    threat_part name.threat _
    ∙ ap (λ ps. threat_word name.threat ∷ ps) (platform_part name.platform _ ∙ ap (λ ps. platform_word name.platform ∷ ps) (entry_part name.entry))

-- and they are read as the name
pub name_of_words-words : (name : ListName) → name_of_words (threat_word name.threat) (platform_word name.platform) (entry_word name.entry) ≡ Ok name
name_of_words-words name = rw (threat_of-word name.threat, platform_of-word name.platform, entry_of-word name.entry) refl

pub name_of-text_of : (name : ListName) → name_of (text_of name) ≡ Ok name
name_of-text_of name = ap name_of_parts (parts_of-text_of name) ∙ name_of_words-words name
