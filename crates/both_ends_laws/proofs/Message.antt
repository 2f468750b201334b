-- The message of the example keeps to the ranges of messages, and its spelling is short, is not too dense, and reads as it.
use Rattle.std.proofs.Common.{◌≡◌, ℕ, zero, suc, ◌≤◌, List, [], ◌∷◌, Bool, true, false, length, refl, arith, None, leb-true, ltb-true}
use Rattle.std.specs.Prelude.{◌&&◌, nat_lt, All}
use Rattle.std.specs.Fmt.{digits}
use Rattle.std.proofs.lemmas.List.Elements.{All-nil, All-cons}
use Rattle.json.proofs.Printed.Utf8.{IsUtf8-are_ascii}
use Rattle.json.specs.Print.{escape_byte}
use Rattle.base64.specs.GeneralPurpose.{IsBytes}
use Rattle.base64.specs.Rfc4648.{encode_symbols}
use Rattle.serde_json.specs.Data.{Data}
use Rattle.serde_json.specs.Written.{compact_text, has_float}
use Rattle.sb_model.specs.Time.{duration_text}
use Rattle.sb_json.specs.Counts.{openings_in, values_in}
use Rattle.sb_json.specs.Density.{most_openings, most_values, openings_of, values_of, too_dense}
use Rattle.update_messages.specs.Messages.{IsAddition, IsRemoval}
use Rattle.update_messages.specs.Ranges.{IsAdditionOfBytes, IsRemovalOfBytes, IsUpdateInRange, IsResponseInRange}
use Rattle.update_messages.specs.ReadAgain.{WrittenResponsesRead, ResponsesNestWithin}
use Rattle.update_messages.specs.Reading.{IsTextOf, ReadsResponse}
use Rattle.update_messages.specs.Writing.{response_written, spelling_of_response}
use Rattle.both_ends_laws.proofs.Responses.{response_reads_again}
use Rattle.update_replay.specs.Example.{example_whole_update}
use Rattle.both_ends_laws.specs.Example.{example_message, example_body}

-- ---- strings of bytes

abbrev are_bytes : List ℕ → Bool
are_bytes [] = true
are_bytes (byte ∷ bytes) = nat_lt byte 256 && are_bytes bytes

both : (a b : Bool) → (a && b) ≡ true → (a ≡ true) × (b ≡ true)
both true b h = (refl, h)
both false b h = absurd cc

bytes_by : (bytes : List ℕ) → are_bytes bytes ≡ true → IsBytes bytes
bytes_by [] h i = omega arith
bytes_by (byte ∷ bytes) h zero = ltb-true byte 256 (both (nat_lt byte 256) (are_bytes bytes) h).0
bytes_by (byte ∷ bytes) h (suc i) = bytes_by bytes (both (nat_lt byte 256) (are_bytes bytes) h).1 i

-- ---- ranges

one : {X : Type 0} (P : X → Type 0) (x : X) → P x → All P (x ∷ [])
one P x here = All-cons P x [] here (All-nil P)

update_in_range : IsUpdateInRange example_whole_update
update_in_range = record {
  limits = record {
    base = leb-true 0 4096 refl;
    additions = one IsAddition _ (record { first = leb-true 875770417 9223372036854775807 refl; parameter = leb-true 25 2147483647 refl; count = leb-true 1 2147483647 refl });
    removals = All-nil IsRemoval;
    new_state = leb-true 1 4096 refl;
    checksum = refl;
  };
  base = bytes_by example_whole_update.base refl;
  additions = one IsAdditionOfBytes _ (bytes_by (0x23 ∷ 0x20 ∷ 0x20 ∷ 0x00 ∷ []) refl);
  removals = All-nil IsRemovalOfBytes;
  new_state = bytes_by example_whole_update.new_state refl;
  checksum = bytes_by example_whole_update.checksum refl;
}

message_in_range : IsResponseInRange example_message
unfolding digits
message_in_range = record { items = one IsUpdateInRange example_whole_update update_in_range; wait = refl }

-- ---- the spelling

pub body_is_short : length example_body ≤ 201326592
unfolding spelling_of_response escape_byte encode_symbols digits
body_is_short = leb-true (length example_body) 201326592 refl

no_float : has_float (response_written example_message) ≡ false
no_float = refl

few_openings : openings_in (response_written example_message) ≤ 8192
few_openings = leb-true (openings_in (response_written example_message)) 8192 refl

few_values : values_in (response_written example_message) ≤ 65536
few_values = leb-true (values_in (response_written example_message)) 65536 refl

-- What a written text counts, and when a text is not too dense.
abbrev pub AreCounted : Type 0
AreCounted = (d : Data) → has_float d ≡ false → (openings_of (compact_text d) ≡ openings_in d) × (values_of (compact_text d) ≡ values_in d)

abbrev pub AreClear : Type 0
AreClear = (text : List ℕ) → openings_of text ≤ most_openings (length text) → values_of text ≤ most_values (length text) → too_dense text ≡ None

within_openings : (openings counted size : ℕ) → openings ≡ counted → counted ≤ 8192 → openings ≤ most_openings size
within_openings openings counted size e h = omega (arith, e, h)

within_values : (values counted size : ℕ) → values ≡ counted → counted ≤ 65536 → values ≤ most_values size
within_values values counted size e h = omega (arith, e, h)

body_is_thin : AreCounted → AreClear → too_dense example_body ≡ None
unfolding spelling_of_response
body_is_thin counts clear =
    let counted = counts (response_written example_message) no_float in
    clear example_body
    (within_openings (openings_of example_body) (openings_in (response_written example_message)) (length example_body) counted.0 few_openings)
    (within_values (values_of example_body) (values_in (response_written example_message)) (length example_body) counted.1 few_values)

pub body_reads : WrittenResponsesRead → ResponsesNestWithin 7 → AreCounted → AreClear → IsTextOf ReadsResponse example_body example_message
unfolding digits
body_reads again nest counts clear =
    response_reads_again again nest example_message message_in_range (IsUtf8-are_ascii (duration_text 0) refl) (body_is_thin counts clear)
