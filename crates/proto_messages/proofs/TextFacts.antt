-- Bytes that are UTF-8 are a text, and others are none.
use Rattle.std.proofs.Common.{◌≡◌, List, ℕ, Bool, true, false, Ok, Err, refl}
use Rattle.std.specs.Str.{IsUtf8, is_utf8, chars}
use Rattle.std.proofs.lemmas.Str.{is_utf8-from_IsUtf8, IsUtf8-from_is_utf8}
use Rattle.sb_json.specs.declared.fields.Field.{Field}
use Rattle.sb_json.specs.declared.faults.FieldFault.TheVariants.{WrongKind}
use Rattle.proto_messages.specs.declared.fault.PartFault.TheVariants as part
use Rattle.proto_messages.specs.Rows.{utf8_text_in}

pub text_read : (field : Field) (bytes : List ℕ) → IsUtf8 bytes → utf8_text_in field bytes ≡ Ok (chars bytes)
unfolding utf8_text_in
text_read field bytes is = rw (is_utf8-from_IsUtf8 bytes is) refl

pub no_text : (field : Field) (bytes : List ℕ) → (IsUtf8 bytes → ⊥) → utf8_text_in field bytes ≡ Err (part.Field (WrongKind field))
unfolding utf8_text_in
no_text field bytes isnt = go (is_utf8 bytes) refl where
  go : (b : Bool) → is_utf8 bytes ≡ b → utf8_text_in field bytes ≡ Err (part.Field (WrongKind field))
  go true is = absurd (isnt (IsUtf8-from_is_utf8 bytes is))
  go false is = rw is refl
