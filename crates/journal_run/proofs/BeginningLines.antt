-- The line that begins a change: four words without a newline.
use Rattle.std.proofs.Common.{◌≡◌, ℕ, zero, suc, ◌<◌, ◌%◌, ◌/◌, ◌==◌, if◌then◌else◌, List, [], ◌∷◌, ◌++◌, Bool, true, false, length, refl, ap, ◌∙◌, arith}
use Rattle.std.specs.Prelude.{⊤, All, nat_le, codes, decimal}
use Rattle.std.specs.List.{list_all, slice_split, join_with_byte}
use Rattle.std.specs.Fmt.{digits, digits_onto, digit_glyph}
use Rattle.std.proofs.lemmas.Bool.{and_parts}
use Rattle.std.proofs.lemmas.Bool.Decides.{nat_tests}
use Rattle.std.proofs.lemmas.List.Elements.{All-nil, All-cons, All-append}
use Rattle.std.proofs.lemmas.List.Folds.{list_all-append}
use Rattle.std.proofs.lemmas.List.Splits.{slice_split_none, slice_split_at}
use Rattle.sb_model.specs.declared.names.ThreatType.{ThreatType}
use Rattle.sb_model.specs.declared.names.ThreatType.TheVariants as threat
use Rattle.sb_model.specs.declared.names.PlatformType.{PlatformType}
use Rattle.sb_model.specs.declared.names.PlatformType.TheVariants as platform
use Rattle.sb_model.specs.declared.names.EntryType.{EntryType}
use Rattle.sb_model.specs.declared.names.EntryType.TheVariants as entry
use Rattle.sb_model.specs.declared.names.ListName.{ListName}
use Rattle.sb_model.specs.declared.history.Change.{Change}
use Rattle.sb_model.specs.Names.{threat_word, platform_word, entry_word, slash, text_of}
use Rattle.list_versions.specs.Lines.{is_space, is_newline}

-- no byte of a word is a space or a newline: each is above them
abbrev is_word : List ℕ → Bool
is_word text = list_all (nat_le 33) text

abbrev AreWords : List (List ℕ) → Type 0
AreWords [] = ⊤
AreWords (word ∷ words) = (is_word word ≡ true) × AreWords words

no_space : (byte : ℕ) → nat_le 33 byte ≡ true → is_space byte ≡ false
no_space byte h = grind (arith, nat_tests)

no_newline : (byte : ℕ) → nat_le 33 byte ≡ true → is_newline byte ≡ false
no_newline byte h = grind (arith, nat_tests)

without : (p : ℕ → Bool) → ((byte : ℕ) → nat_le 33 byte ≡ true → p byte ≡ false) → (text : List ℕ) → is_word text ≡ true → All (λ byte. p byte ≡ false) text
without p h [] k = All-nil (λ byte. p byte ≡ false)
without p h (b ∷ bs) k =
    let both = and_parts _ _ k in
    All-cons (λ byte. p byte ≡ false) b bs (h b both.0) (without p h bs both.1)

words_parted : (word : List ℕ) (words : List (List ℕ)) → AreWords (word ∷ words) → slice_split is_space (join_with_byte 32 (word ∷ words)) ≡ word ∷ words
words_parted word [] h = slice_split_none is_space word (without is_space no_space word h.0)
words_parted word (next ∷ words) h =
    slice_split_at is_space word 32 (join_with_byte 32 (next ∷ words)) (without is_space no_space word h.0) refl
    ∙ ap (λ ws. word ∷ ws) (words_parted next words h.1)

one_line : (word : List ℕ) (words : List (List ℕ)) → AreWords (word ∷ words) → All (λ byte. is_newline byte ≡ false) (join_with_byte 32 (word ∷ words))
one_line word [] h = without is_newline no_newline word h.0
one_line word (next ∷ words) h =
    All-append (λ byte. is_newline byte ≡ false) word (32 ∷ join_with_byte 32 (next ∷ words)) (without is_newline no_newline word h.0)
    (All-cons (λ byte. is_newline byte ≡ false) 32 (join_with_byte 32 (next ∷ words)) refl (one_line next words h.1))

-- ---- numbers are words

glyph_above : (d : ℕ) → d < 10 → nat_le 33 (digit_glyph false d) ≡ true
glyph_above d h = grind (arith, nat_tests)

word_led : (byte : ℕ) (text : List ℕ) → nat_le 33 byte ≡ true → is_word text ≡ true → is_word (byte ∷ text) ≡ true
word_led byte text h k = rw (h, k) refl

one_of : (b : Bool) (x y : List ℕ) → is_word x ≡ true → is_word y ≡ true → is_word (if b then x else y) ≡ true
one_of true x y h k = h
one_of false x y h k = k

digits_word : (count n : ℕ) (text : List ℕ) → is_word text ≡ true → is_word (digits_onto count 10 false n text) ≡ true
digits_word zero n text h = h
digits_word (suc count) n text h =
    let last = digit_glyph false (n % 10) in
    let led = word_led last text (glyph_above (n % 10) (omega arith)) h in
    one_of (n / 10 == 0) (last ∷ text) (digits_onto count 10 false (n / 10) (last ∷ text)) led (digits_word count (n / 10) (last ∷ text) led)

decimal_word : (n : ℕ) → is_word (decimal n) ≡ true
unfolding digits
decimal_word n = digits_word 64 n [] refl

-- ---- names are words

threat_plain : (t : ThreatType) → is_word (threat_word t) ≡ true
threat_plain threat.Malware = refl
threat_plain threat.SocialEngineering = refl
threat_plain threat.UnwantedSoftware = refl
threat_plain threat.PotentiallyHarmfulApplication = refl

platform_plain : (p : PlatformType) → is_word (platform_word p) ≡ true
platform_plain platform.Windows = refl
platform_plain platform.Linux = refl
platform_plain platform.Android = refl
platform_plain platform.Osx = refl
platform_plain platform.Ios = refl
platform_plain platform.AnyPlatform = refl
platform_plain platform.AllPlatforms = refl
platform_plain platform.Chrome = refl

entry_plain : (e : EntryType) → is_word (entry_word e) ≡ true
entry_plain entry.Url = refl
entry_plain entry.Executable = refl

word_then : (word rest : List ℕ) → is_word word ≡ true → is_word rest ≡ true → is_word (word ++ slash ∷ rest) ≡ true
word_then word rest h k = list_all-append (nat_le 33) word (slash ∷ rest) ∙ rw (h, k) refl

name_word : (name : ListName) → is_word (text_of name) ≡ true
name_word name =
    word_then (threat_word name.threat) (platform_word name.platform ++ slash ∷ entry_word name.entry) (threat_plain name.threat)
    (word_then (platform_word name.platform) (entry_word name.entry) (platform_plain name.platform) (entry_plain name.entry))

-- ---- the line

-- its words after the first
abbrev pub further_words : Change → List (List ℕ)
further_words change = text_of change.list ∷ decimal (length change.adds) ∷ decimal (length change.removes) ∷ []

abbrev pub beginning_line : Change → List ℕ
beginning_line change = join_with_byte 32 (codes "change" ∷ further_words change)

are_words : (change : Change) → AreWords (codes "change" ∷ further_words change)
are_words change = (refl, (name_word change.list, (decimal_word (length change.adds), (decimal_word (length change.removes), tt))))

pub beginning_words : (change : Change) → slice_split is_space (beginning_line change) ≡ codes "change" ∷ further_words change
beginning_words change = words_parted (codes "change") (further_words change) (are_words change)

pub beginning_is_line : (change : Change) → All (λ byte. is_newline byte ≡ false) (beginning_line change)
beginning_is_line change = one_line (codes "change") (further_words change) (are_words change)
