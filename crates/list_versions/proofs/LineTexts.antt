-- The lines that are written are read back.
use Rattle.std.proofs.Common.{rules, ◌≡◌, ℕ, zero, suc, ◌*◌, ◌^◌, ◌<◌, ◌≤◌, ◌==◌, nat_lt, List, [], ◌∷◌, ◌++◌, Bool, true, false, ◌&&◌, ◌||◌, if◌then◌else◌, length, slice_index, refl, ap, ◌∙◌, arith, eq-eqb, length-append, Some, None, Result, Ok}
use Rattle.std.specs.Prelude.{⊤, All, not, nat_le, decimal}
use Rattle.std.specs.Char.{is_ascii_digit}
use Rattle.std.specs.Int.{w64, byte_at, bytes_high_first, to_be_bytes, from_be_bytes}
use Rattle.std.specs.List.{list_all, join_with_byte}
use Rattle.std.specs.Option.{option_map}
use Rattle.std.specs.Result.{result_ok}
use Rattle.std.specs.Str.Parse.{digits_value}
use Rattle.std.proofs.lemmas.Bool.{and_parts}
use Rattle.std.proofs.lemmas.Bool.Decides.{nat_tests}
use Rattle.std.proofs.lemmas.Fmt.{digits_decimal, digits_value-decimal, first_decimal, decimal_nonempty, decimal_digit, length-decimal-le}
use Rattle.std.proofs.lemmas.List.Elements.{All-nil, All-cons, All-append}
use Rattle.std.proofs.lemmas.List.Folds.{list_all-append}
use Rattle.std.proofs.lemmas.List.Splits.{slice_split_none, slice_split_at}
use Rattle.std.proofs.lemmas.List.Sums.{list_all-from_AllPass}
use Rattle.std.proofs.lemmas.Nat.{from_be_bytes-to_be_bytes_8}
use Rattle.std.proofs.lemmas.Str.Parse.{IsNumeralModel, numerals_by_value}
use Rattle.hex.specs.Hex.{IsBytes, decode_of, encode_lower, is_hex_digit, lower_digits}
use Rattle.hex.specs.declared.FromHexError.{FromHexError}
use Rattle.hex.proofs.HexLemmas.{decode_of-ok, decode_of-encode_lower, length-encode_with}
use Rattle.sb_model.specs.declared.names.ThreatType.{ThreatType}
use Rattle.sb_model.specs.declared.names.ThreatType.TheVariants as threat
use Rattle.sb_model.specs.declared.names.PlatformType.{PlatformType}
use Rattle.sb_model.specs.declared.names.PlatformType.TheVariants as platform
use Rattle.sb_model.specs.declared.names.EntryType.{EntryType}
use Rattle.sb_model.specs.declared.names.EntryType.TheVariants as entry
use Rattle.sb_model.specs.declared.names.ListName.{ListName}
use Rattle.sb_model.specs.Names.{threat_word, threat_of, platform_word, platform_of, entry_word, entry_of, slash, parts_of, name_of_parts, name_of, text_of}
use Rattle.list_versions.specs.Lines.{is_space, is_newline, words_in_line, is_numeral, within, short_number_of, bytes_in_digits, hash_of}
use Rattle.list_versions.specs.Split.{IsOneLine}

-- ---- words

-- no byte of a word is a space or a newline: each is above them
abbrev pub is_word : List ℕ → Bool
is_word text = list_all (nat_le 33) text

no_space : (byte : ℕ) → nat_le 33 byte ≡ true → is_space byte ≡ false
no_space byte h = grind (arith, nat_tests)

no_newline : (byte : ℕ) → nat_le 33 byte ≡ true → is_newline byte ≡ false
no_newline byte h = grind (arith, nat_tests)

without : (p : ℕ → Bool) → ((byte : ℕ) → nat_le 33 byte ≡ true → p byte ≡ false) → (text : List ℕ) → is_word text ≡ true → All (λ byte. p byte ≡ false) text
without p h [] k = All-nil (λ byte. p byte ≡ false)
without p h (b ∷ bs) k =
    let both = and_parts _ _ k in
    All-cons (λ byte. p byte ≡ false) b bs (h b both.0) (without p h bs both.1)

abbrev pub AreWords : List (List ℕ) → Type 0
AreWords [] = ⊤
AreWords (word ∷ words) = (is_word word ≡ true) × AreWords words

pub words_joined : (word : List ℕ) (words : List (List ℕ)) → AreWords (word ∷ words) → words_in_line (join_with_byte 32 (word ∷ words)) ≡ word ∷ words
unfolding words_in_line
words_joined word [] h = slice_split_none is_space word (without is_space no_space word h.0)
words_joined word (next ∷ words) h =
    slice_split_at is_space word 32 (join_with_byte 32 (next ∷ words)) (without is_space no_space word h.0) refl
    ∙ ap (λ ws. word ∷ ws) (words_joined next words h.1)

pub one_line : (word : List ℕ) (words : List (List ℕ)) → AreWords (word ∷ words) → IsOneLine (join_with_byte 32 (word ∷ words))
one_line word [] h = without is_newline no_newline word h.0
one_line word (next ∷ words) h =
    All-append (λ byte. is_newline byte ≡ false) word (32 ∷ join_with_byte 32 (next ∷ words)) (without is_newline no_newline word h.0)
    (All-cons (λ byte. is_newline byte ≡ false) 32 (join_with_byte 32 (next ∷ words)) refl (one_line next words h.1))

-- ---- hexadecimal text

digit_above : (byte : ℕ) → is_hex_digit byte ≡ true → nat_le 33 byte ≡ true
digit_above byte h = grind (arith, nat_tests)

pub hex_word : (bytes : List ℕ) → IsBytes bytes → is_word (encode_lower bytes) ≡ true
hex_word bytes h =
    let digits = (decode_of-ok (encode_lower bytes) bytes (decode_of-encode_lower bytes h)).1 in
    list_all-from_AllPass (nat_le 33) (encode_lower bytes) (λ k d lt. digit_above _ (digits k d lt))

pub hex_long : (bytes : List ℕ) → length (encode_lower bytes) ≡ 2 * length bytes
hex_long bytes = length-encode_with lower_digits bytes

sized_is : (b : Bool) (r : Result (List ℕ) FromHexError) (bytes : List ℕ) → b ≡ true → r ≡ Ok bytes → (if b then result_ok r else None) ≡ Some bytes
sized_is b r bytes e d = rw (e, d) refl

pub bytes_back : (count : ℕ) (bytes : List ℕ) → length bytes ≡ count → IsBytes bytes → bytes_in_digits count (encode_lower bytes) ≡ Some bytes
unfolding bytes_in_digits
bytes_back count bytes n h =
    sized_is (length (encode_lower bytes) == 2 * count) (decode_of (encode_lower bytes)) bytes (eq-eqb _ _ (hex_long bytes ∙ ap (λ m. 2 * m) n)) (decode_of-encode_lower bytes h)

pub hash_back : (hash : List ℕ) → length hash ≡ 32 → IsBytes hash → hash_of (encode_lower hash) ≡ Some hash
hash_back hash n h = bytes_back 32 hash n h

-- the eight bytes of a number
byte_first : (b : ℕ) (bs : List ℕ) → b < 256 → IsBytes bs → IsBytes (b ∷ bs)
byte_first b bs h k zero = h
byte_first b bs h k (suc i) = k i

no_bytes : IsBytes []
no_bytes i = omega arith

byte_small : (k n : ℕ) → byte_at k n < 256
byte_small zero n = omega arith
byte_small (suc k) n = omega arith

high_bytes : (k n : ℕ) → IsBytes (bytes_high_first k n)
high_bytes zero n = no_bytes
high_bytes (suc k) n = byte_first (byte_at k n) (bytes_high_first k n) (byte_small k n) (high_bytes k n)

pub eight_bytes : (n : ℕ) → IsBytes (to_be_bytes w64 n)
eight_bytes n = high_bytes 8 n

pub epoch_back : (epoch : ℕ) → epoch < 2 ^ 64 → option_map (from_be_bytes w64) (bytes_in_digits 8 (encode_lower (to_be_bytes w64 epoch))) ≡ Some epoch
epoch_back epoch h = ap (option_map (from_be_bytes w64)) (bytes_back 8 (to_be_bytes w64 epoch) refl (eight_bytes epoch)) ∙ ap (λ n. Some n) (from_be_bytes-to_be_bytes_8 epoch h)

-- ---- numbers

digits_model : IsNumeralModel (λ ds. list_all is_ascii_digit ds ≡ true) (digits_value 10)
digits_model = numerals_by_value _ (search rules)

ascii_above : (byte : ℕ) → is_ascii_digit byte ≡ true → nat_le 33 byte ≡ true
ascii_above byte h = grind (arith, nat_tests)

digits_above : (ds : List ℕ) → list_all is_ascii_digit ds ≡ true → is_word ds ≡ true
digits_above [] h = refl
digits_above (d ∷ ds) h = let both = and_parts _ _ h in rw (ascii_above d both.0, digits_above ds both.1) refl

pub decimal_word : (n : ℕ) → n < 2 ^ 64 → is_word (decimal n) ≡ true
decimal_word n h = digits_above (decimal n) (digits_decimal digits_model n h)

some_numeral : (n : ℕ) → 0 < n → n < 2 ^ 64 → is_numeral (decimal n) ≡ true
some_numeral n some h =
    let digits : list_all is_ascii_digit (decimal n) ≡ true = digits_decimal digits_model n h in
    let first : 48 < slice_index (decimal n) 0 = first_decimal n some h in
    let size : 0 < length (decimal n) = decimal_nonempty n h in
    tests _ _ _ digits size first
  where
    tests : (digits : Bool) (size first : ℕ) → digits ≡ true → 0 < size → 48 < first → (digits && nat_lt 0 size && (size == 1 || not (first == 48))) ≡ true
    tests digits size first e s f = grind (arith, nat_tests)

is_numeral_at : (n : ℕ) (b : Bool) → (n == 0) ≡ b → n < 2 ^ 64 → is_numeral (decimal n) ≡ true
is_numeral_at n true e h = let none : n ≡ 0 = grind (arith, nat_tests) in ap is_numeral (ap decimal none ∙ decimal_digit 0 (omega arith))
is_numeral_at n false e h = some_numeral n (grind (arith, nat_tests)) h

in_range : (low high n : ℕ) → low ≤ n → n ≤ high → within low high n ≡ Some n
in_range low high n l k = grind (arith, nat_tests)

numeral_is : (low high : ℕ) (a b : Bool) (v n : ℕ) → a ≡ true → b ≡ true → v ≡ n → low ≤ n → n ≤ high → (if a && b then within low high v else None) ≡ Some n
numeral_is low high a b v n e f g l k = rw (e, f, g) (in_range low high n l k)

four : (n : ℕ) → n ≤ 9999 → nat_le (length (decimal n)) 4 ≡ true
four n h = let few = length-decimal-le 4 n (omega arith) (omega arith) (omega arith) in grind (arith, nat_tests)

pub number_back : (low high n : ℕ) → low ≤ n → n ≤ high → n ≤ 9999 → short_number_of low high (decimal n) ≡ Some n
unfolding short_number_of
number_back low high n l k h =
    let fits : n < 2 ^ 64 = omega arith in
    numeral_is low high _ _ _ n (is_numeral_at n _ refl fits) (four n h) (digits_value-decimal digits_model n fits) l k

-- ---- names

threat_part : (t : ThreatType) (rest : List ℕ) → parts_of (threat_word t ++ slash ∷ rest) ≡ threat_word t ∷ parts_of rest
unfolding parts_of
threat_part threat.Malware rest = refl
threat_part threat.SocialEngineering rest = refl
threat_part threat.UnwantedSoftware rest = refl
threat_part threat.PotentiallyHarmfulApplication rest = refl

platform_part : (p : PlatformType) (rest : List ℕ) → parts_of (platform_word p ++ slash ∷ rest) ≡ platform_word p ∷ parts_of rest
unfolding parts_of
platform_part platform.Windows rest = refl
platform_part platform.Linux rest = refl
platform_part platform.Android rest = refl
platform_part platform.Osx rest = refl
platform_part platform.Ios rest = refl
platform_part platform.AnyPlatform rest = refl
platform_part platform.AllPlatforms rest = refl
platform_part platform.Chrome rest = refl

entry_part : (e : EntryType) → parts_of (entry_word e) ≡ entry_word e ∷ []
unfolding parts_of
entry_part entry.Url = refl
entry_part entry.Executable = refl

threat_back : (t : ThreatType) → threat_of (threat_word t) ≡ Some t
unfolding threat_of
threat_back threat.Malware = refl
threat_back threat.SocialEngineering = refl
threat_back threat.UnwantedSoftware = refl
threat_back threat.PotentiallyHarmfulApplication = refl

platform_back : (p : PlatformType) → platform_of (platform_word p) ≡ Some p
unfolding platform_of
platform_back platform.Windows = refl
platform_back platform.Linux = refl
platform_back platform.Android = refl
platform_back platform.Osx = refl
platform_back platform.Ios = refl
platform_back platform.AnyPlatform = refl
platform_back platform.AllPlatforms = refl
platform_back platform.Chrome = refl

entry_back : (e : EntryType) → entry_of (entry_word e) ≡ Some e
unfolding entry_of
entry_back entry.Url = refl
entry_back entry.Executable = refl

pub name_back : (name : ListName) → name_of (text_of name) ≡ Ok name
name_back name =
    ap name_of_parts (threat_part name.threat _
    ∙ ap (λ ps. threat_word name.threat ∷ ps) (platform_part name.platform _ ∙ ap (λ ps. platform_word name.platform ∷ ps) (entry_part name.entry)))
    ∙ rw (threat_back name.threat, platform_back name.platform, entry_back name.entry) refl

-- a name is one word, and not long
threat_plain : (t : ThreatType) → (is_word (threat_word t) ≡ true) × (nat_le (length (threat_word t)) 31 ≡ true)
threat_plain threat.Malware = (refl, refl)
threat_plain threat.SocialEngineering = (refl, refl)
threat_plain threat.UnwantedSoftware = (refl, refl)
threat_plain threat.PotentiallyHarmfulApplication = (refl, refl)

platform_plain : (p : PlatformType) → (is_word (platform_word p) ≡ true) × (nat_le (length (platform_word p)) 13 ≡ true)
platform_plain platform.Windows = (refl, refl)
platform_plain platform.Linux = (refl, refl)
platform_plain platform.Android = (refl, refl)
platform_plain platform.Osx = (refl, refl)
platform_plain platform.Ios = (refl, refl)
platform_plain platform.AnyPlatform = (refl, refl)
platform_plain platform.AllPlatforms = (refl, refl)
platform_plain platform.Chrome = (refl, refl)

entry_plain : (e : EntryType) → (is_word (entry_word e) ≡ true) × (nat_le (length (entry_word e)) 10 ≡ true)
entry_plain entry.Url = (refl, refl)
entry_plain entry.Executable = (refl, refl)

word_then : (word rest : List ℕ) → is_word word ≡ true → is_word rest ≡ true → is_word (word ++ slash ∷ rest) ≡ true
word_then word rest h k = list_all-append (nat_le 33) word (slash ∷ rest) ∙ rw (h, k) refl

pub name_word : (name : ListName) → is_word (text_of name) ≡ true
name_word name =
    word_then (threat_word name.threat) (platform_word name.platform ++ slash ∷ entry_word name.entry) (threat_plain name.threat).0
    (word_then (platform_word name.platform) (entry_word name.entry) (platform_plain name.platform).0 (entry_plain name.entry).0)

at_most : (m n : ℕ) → nat_le m n ≡ true → m ≤ n
at_most m n h = grind (arith, nat_tests)

pub name_short : (name : ListName) → length (text_of name) ≤ 56
name_short name =
    omega (
      arith,
      length-append (threat_word name.threat) (slash ∷ platform_word name.platform ++ slash ∷ entry_word name.entry),
      length-append (platform_word name.platform) (slash ∷ entry_word name.entry),
      at_most _ _ (threat_plain name.threat).1,
      at_most _ _ (platform_plain name.platform).1,
      at_most _ _ (entry_plain name.entry).1,
    )
