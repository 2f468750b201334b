-- What is written of a field is what its row reads.
use Rattle.std.proofs.Common.{◌≡◌, ℕ, ◌≤◌, ◌<◌, ◌^◌, ◌==◌, ◌&&◌, ◌||◌, Bool, true, false, if◌then◌else◌, not, List, [], ◌∷◌, length, Option, Some, None, Result, Ok, refl, sym, ap, ◌∙◌, arith, rules}
use Rattle.std.specs.Prelude.{nat_le, nat_lt, slice_index, decimal}
use Rattle.std.specs.Char.{is_ascii_digit}
use Rattle.std.specs.List.{list_all}
use Rattle.std.specs.Str.{chars}
use Rattle.std.specs.Str.Parse.{digits_value}
use Rattle.std.proofs.lemmas.Bool.{eqb-true}
use Rattle.std.proofs.lemmas.Bool.Decides.{nat_tests}
use Rattle.std.proofs.lemmas.Fmt.{digits_decimal, digits_value-decimal, first_decimal, decimal_nonempty}
use Rattle.std.proofs.lemmas.Str.Parse.{IsNumeralModel, numerals_by_value}
use Rattle.serde_json.specs.Data.{Data, null, number, string, object, unsigned, Members, no_members, member}
use Rattle.serde_json.specs.View.{items_of}
use Rattle.base64.specs.Engines.{standard}
use Rattle.base64.specs.GeneralPurpose.{IsBytes, encode_of}
use Rattle.sb_json.specs.Values.{◌>>=◌, there, field_of, needed_value, or_field_fault, at_most, numeral, is_numeral, base64_of, whole_in, whole_of, string_in, string_of, items_in, object_in, object_of, bytes_in, bytes_of, duration_in, without_cause}
use Rattle.sb_json.specs.declared.fields.Field.{Field}
use Rattle.sb_json.specs.declared.faults.FieldFault.{FieldFault}
use Rattle.sb_json.specs.declared.faults.FieldFault.TheVariants as fault
use Rattle.sb_model.specs.Time.{duration_of, duration_text}
use Rattle.sb_members.specs.Rows.{or_absent, object_or_null, items_or_none, bytes_or_empty, whole_or_zero, text_or_empty, duration_or_zero}
use Rattle.sb_members.specs.Writing.{text_written, bytes_written, number_written, long_written, duration_written, values_written, unless_bare}
use Rattle.sb_members.specs.Ranges.{IsText, IsDuration}
use Rattle.sb_members.specs.Parts.{Parts, made, found, or_null}
use Rattle.sb_members.specs.Laws.{NeededReadAgain, DefaultsReadAgain, ItemsReadAgain}
use Rattle.sb_members.proofs.FoundMembers.{get_made}

-- ---- needed fields

needed_found : (f : Field) (ps : Parts) (d : Data) {A : Type 0} (read : Data → Result A FieldFault) → found f ps ≡ Some d → there (Some d) ≡ Some d
    → (needed_value f (field_of f (object (made ps))) >>= read) ≡ read d
needed_found f ps d read e stands = ap (λ (o : Option Data). needed_value f o >>= read) (ap there (get_made f ps ∙ e) ∙ stands)

pub string_found : (f : Field) (ps : Parts) (w : List ℕ) → found f ps ≡ Some (string w) → string_of f (object (made ps)) ≡ Ok w
string_found f ps w e = needed_found f ps (string w) (string_in f) e refl

object_found : (f : Field) (ps : Parts) (ms : Members) → found f ps ≡ Some (object ms) → object_of f (object (made ps)) ≡ Ok (object ms)
object_found f ps ms e = needed_found f ps (object ms) (object_in f) e refl

-- ---- fields that may be absent

absent_found : (f : Field) (ps : Parts) (o : Option Data) {A : Type 0} (default : A) (read : Data → Result A FieldFault) → found f ps ≡ o
    → or_absent default read (field_of f (object (made ps))) ≡ or_absent default read (there o)
absent_found f ps o default read e = ap (λ (p : Option Data). or_absent default read (there p)) (get_made f ps ∙ e)

-- ---- texts

text_there : (f : Field) (cs : List ℕ) → IsText cs → or_absent [] (λ value. string_in f value >>= λ s. Ok (chars s)) (there (text_written cs)) ≡ Ok cs
text_there f [] h = refl
text_there f (c ∷ cs) h = ap Ok h

text_found : (f : Field) (ps : Parts) (cs : List ℕ) → IsText cs → found f ps ≡ text_written cs → text_or_empty f (object (made ps)) ≡ Ok cs
text_found f ps cs h e = absent_found f ps (text_written cs) [] (λ value. string_in f value >>= λ s. Ok (chars s)) e ∙ text_there f cs h

-- ---- bytes

-- what bytes are read as that are written in base64
abbrev EncodedBack : Type 0
EncodedBack = (bs : List ℕ) → IsBytes bs → base64_of (encode_of standard bs) ≡ Some bs

string_back : EncodedBack → (f : Field) (bs : List ℕ) → IsBytes bs → bytes_in f (string (encode_of standard bs)) ≡ Ok bs
string_back back f bs h = ap (or_field_fault (fault.Base64 f)) (back bs h)

bytes_there : EncodedBack → (f : Field) (bs : List ℕ) → IsBytes bs → or_absent [] (bytes_in f) (there (bytes_written bs)) ≡ Ok bs
bytes_there back f [] h = refl
bytes_there back f (b ∷ bs) h = string_back back f (b ∷ bs) h

bytes_found : EncodedBack → (f : Field) (ps : Parts) (bs : List ℕ) → IsBytes bs → found f ps ≡ bytes_written bs → bytes_or_empty f (object (made ps)) ≡ Ok bs
bytes_found back f ps bs h e = absent_found f ps (bytes_written bs) [] (bytes_in f) e ∙ bytes_there back f bs h

within : (n most : ℕ) → n ≤ most → nat_le n most ≡ true
within n most h = grind (arith, nat_tests)

-- bytes that have to be there, and are some
some_bytes_found : EncodedBack → (f : Field) (ps : Parts) (b : ℕ) (bs : List ℕ) → IsBytes (b ∷ bs) → found f ps ≡ bytes_written (b ∷ bs) → bytes_of f (object (made ps)) ≡ Ok (b ∷ bs)
some_bytes_found back f ps b bs h e = needed_found f ps (string (encode_of standard (b ∷ bs))) (bytes_in f) e refl ∙ string_back back f (b ∷ bs) h

-- ---- numbers

number_in_range : (f : Field) (most n : ℕ) → n ≤ most → whole_in f most (number (unsigned n)) ≡ Ok n
number_in_range f most n h = rw (within n most h) refl

number_there : (f : Field) (most n : ℕ) (b : Bool) → (n == 0) ≡ b → n ≤ most → or_absent 0 (whole_in f most) (there (if b then None else Some (number (unsigned n)))) ≡ Ok n
number_there f most n true e h = ap Ok (sym (eqb-true n 0 e))
number_there f most n false e h = number_in_range f most n h

number_found : (f : Field) (most : ℕ) (ps : Parts) (n : ℕ) → n ≤ most → found f ps ≡ number_written n → whole_or_zero f most (object (made ps)) ≡ Ok n
number_found f most ps n h e = absent_found f ps (number_written n) 0 (whole_in f most) e ∙ number_there f most n _ refl h

is_written : (n : ℕ) → 0 < n → number_written n ≡ Some (number (unsigned n))
is_written n h = let some : (n == 0) ≡ false = grind (arith, nat_tests) in rw some refl

-- a number that has to be there, and is not zero
some_number_found : (f : Field) (most : ℕ) (ps : Parts) (n : ℕ) → 0 < n → n ≤ most → found f ps ≡ number_written n → whole_of f most (object (made ps)) ≡ Ok n
some_number_found f most ps n some h e =
    needed_found f ps (number (unsigned n)) (whole_in f most) (e ∙ is_written n some) refl ∙ number_in_range f most n h

digits_model : IsNumeralModel (λ ds. list_all is_ascii_digit ds ≡ true) (digits_value 10)
digits_model = numerals_by_value _ (search rules)

decimal_numeral : (n : ℕ) → 0 < n → n < 2 ^ 64 → is_numeral (decimal n) ≡ true
decimal_numeral n some h =
    let digits : list_all is_ascii_digit (decimal n) ≡ true = digits_decimal digits_model n h in
    let first : 48 < slice_index (decimal n) 0 = first_decimal n some h in
    let size : 0 < length (decimal n) = decimal_nonempty n h in
    tests _ _ _ digits size first
  where
    tests : (digits : Bool) (size first : ℕ) → digits ≡ true → 0 < size → 48 < first → (digits && nat_lt 0 size && (size == 1 || not (first == 48))) ≡ true
    tests digits size first e s f = grind (arith, nat_tests)

decimal_back : (n : ℕ) → 0 < n → n < 2 ^ 64 → numeral (decimal n) ≡ Some n
decimal_back n some h = rw (decimal_numeral n some h) (ap Some (digits_value-decimal digits_model n h))

long_there : (f : Field) (most n : ℕ) (b : Bool) → (n == 0) ≡ b → n ≤ most → most < 2 ^ 64 → or_absent 0 (whole_in f most) (there (if b then None else Some (string (decimal n)))) ≡ Ok n
long_there f most n true e h m = ap Ok (sym (eqb-true n 0 e))
long_there f most n false e h m =
    let some : 0 < n = grind (arith, nat_tests, e) in
    ap (λ (o : Option ℕ). or_field_fault (fault.Number f) (at_most most o)) (decimal_back n some (omega arith)) ∙ rw (within n most h) refl

long_found : (f : Field) (most : ℕ) (ps : Parts) (n : ℕ) → n ≤ most → most < 2 ^ 64 → found f ps ≡ long_written n → whole_or_zero f most (object (made ps)) ≡ Ok n
long_found f most ps n h m e = absent_found f ps (long_written n) 0 (whole_in f most) e ∙ long_there f most n _ refl h m

-- ---- durations

duration_there : (f : Field) (d : ℕ) (b : Bool) → (d == 0) ≡ b → duration_of (duration_text d) ≡ Ok d → or_absent 0 (duration_in f) (there (if b then None else Some (string (duration_text d)))) ≡ Ok d
duration_there f d true e h = ap Ok (sym (eqb-true d 0 e))
duration_there f d false e h = ap (without_cause (fault.Duration f)) h

duration_found : (f : Field) (ps : Parts) (d : ℕ) → IsDuration d → found f ps ≡ duration_written d → duration_or_zero f (object (made ps)) ≡ Ok d
duration_found f ps d h e = absent_found f ps (duration_written d) 0 (duration_in f) e ∙ duration_there f d _ refl h

-- ---- lists and objects

values_there : (f : Field) (ds : List Data) → or_absent (items_of []) (items_in f) (there (values_written ds)) ≡ Ok (items_of ds)
values_there f [] = refl
values_there f (d ∷ ds) = refl

values_found : (f : Field) (ps : Parts) (ds : List Data) → found f ps ≡ values_written ds → items_or_none f (object (made ps)) ≡ Ok (items_of ds)
values_found f ps ds e = absent_found f ps (values_written ds) (items_of []) (items_in f) e ∙ values_there f ds

bare_there : (f : Field) (ms : Members) → or_absent null (object_in f) (there (unless_bare ms)) ≡ Ok (or_null ms)
bare_there f no_members = refl
bare_there f (member k d ms) = refl

bare_found : (f : Field) (ps : Parts) (ms : Members) → found f ps ≡ unless_bare ms → object_or_null f (object (made ps)) ≡ Ok (or_null ms)
bare_found f ps ms e = absent_found f ps (unless_bare ms) null (object_in f) e ∙ bare_there f ms

-- ---- the laws

pub needed_again : EncodedBack → NeededReadAgain
needed_again back = record { strings = string_found; objects = object_found; bytes = some_bytes_found back; numbers = some_number_found }

pub defaults_again : EncodedBack → DefaultsReadAgain
defaults_again back = record {
  texts = text_found;
  bytes = bytes_found back;
  numbers = number_found;
  longs = long_found;
  durations = duration_found;
  lists = values_found;
  objects = bare_found;
}

pub items_again : EncodedBack → ItemsReadAgain
items_again back = record { numbers = number_in_range; bytes = string_back back }
