-- What a text that is not too dense is as JSON, by the test of UTF-8.
use Rattle.std.proofs.Common.{◌≡◌, ℕ, List, Bool, true, false, cond, refl, ap, ◌∙◌, Some, None, Ok, Err, Option}
use Rattle.std.specs.Prelude.{IsUtf8}
use Rattle.std.specs.Str.{is_utf8}
use Rattle.std.proofs.lemmas.Str.{IsUtf8-from_is_utf8, is_utf8-from_IsUtf8}
use Rattle.serde_json.specs.Data.{Data}
use Rattle.serde_json.specs.Read.{read}
use Rattle.sb_json.specs.declared.faults.MessageFault.TheVariants.{NotJson}
use Rattle.sb_json.specs.Density.{too_dense}
use Rattle.sb_json.specs.Values.{json_of, or_no_json, unless_dense, value_of}

not_dense : (text : List ℕ) (found : Option Data) → too_dense text ≡ None → json_of text ≡ found → value_of text ≡ or_no_json found
not_dense text found clear h =
    ap (λ (place : Option ℕ). unless_dense place (json_of text)) clear ∙ ap (λ (value : Option Data). or_no_json value) h

pub json_value : (text : List ℕ) (value : Data) → too_dense text ≡ None → IsUtf8 text → read text ≡ Some value → value_of text ≡ Ok value
json_value text value clear utf8 h =
    not_dense text (Some value) clear (ap (λ b. cond b (read text) None) (is_utf8-from_IsUtf8 text utf8) ∙ h)

no_json_at : (text : List ℕ) (b : Bool) → is_utf8 text ≡ b → (IsUtf8 text → read text ≡ None) → cond b (read text) None ≡ None
no_json_at text true e h = h (IsUtf8-from_is_utf8 text e)
no_json_at text false e h = refl

pub no_json : (text : List ℕ) → too_dense text ≡ None → (IsUtf8 text → read text ≡ None) → value_of text ≡ Err NotJson
no_json text clear h = not_dense text None clear (no_json_at text _ refl h)
