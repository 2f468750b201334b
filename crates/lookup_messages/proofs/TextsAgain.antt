-- A text that is written reads as what it was written of if it is not too dense, and as no other.
use Rattle.std.proofs.Common.{◌≡◌, ℕ, ◌≤◌, List, Option, Some, None, Ok, cond, String, string_bytes, refl, sym, ap, ◌∙◌, subst}
use Rattle.std.specs.declared.alloc.Global.{Global}
use Rattle.std.specs.Str.{IsUtf8}
use Rattle.std.proofs.lemmas.Str.{IsUtf8-string_bytes, is_utf8-from_IsUtf8}
use Rattle.serde_json.specs.Data.{Data, depth}
use Rattle.serde_json.specs.Read.{read, max_depth}
use Rattle.sb_json.specs.Density.{too_dense}
use Rattle.sb_json.specs.Values.{json_of, or_no_json, unless_dense, value_of}
use Rattle.update_messages.specs.Reading.{IsTextOf}

json_value : (text : List ℕ) (value : Data) → IsUtf8 text → read text ≡ Some value → too_dense text ≡ None → value_of text ≡ Ok value
json_value text value utf8 h thin =
    let json : json_of text ≡ Some value = ap (λ b. cond b (read text) None) (is_utf8-from_IsUtf8 text utf8) ∙ h in
    ap (λ (place : Option ℕ). unless_dense place (json_of text)) thin ∙ ap (λ (found : Option Data). or_no_json found) json

pub text_again : {A : Type 0} (Reads : Data → A → Type 0) (s : String Global) (text : List ℕ) (given written : Data) (message : A)
    → text ≡ string_bytes s → given ≡ written → depth written ≤ max_depth → (depth given ≤ max_depth → read (string_bytes s) ≡ Some given) → Reads written message
    → too_dense text ≡ None → IsTextOf Reads text message
text_again Reads s text given written message same is shallow back h thin =
    let again : read (string_bytes s) ≡ Some given = back (subst (λ (d : Data). depth d ≤ max_depth) (sym is) shallow) in (
      written,
      ap value_of same ∙ json_value (string_bytes s) written (IsUtf8-string_bytes s) (again ∙ ap Some is) (sym (ap too_dense same) ∙ thin),
      h,
    )

-- a text that has a value is not too dense
thin_at : (place : Option ℕ) (json : Option Data) (value : Data) → unless_dense place json ≡ Ok value → place ≡ None
thin_at None json value e = refl
thin_at (Some n) json value e = absurd cc

pub no_other : {A : Type 0} (Reads : Data → A → Type 0) → ((d : Data) (a b : A) → Reads d a → Reads d b → a ≡ b) → (text : List ℕ) (message : A)
    → (too_dense text ≡ None → IsTextOf Reads text message) → (other : A) → IsTextOf Reads text other → other ≡ message
no_other Reads one text message again other k =
    let h : IsTextOf Reads text message = again (thin_at (too_dense text) (json_of text) k.0 k.1) in
    let value : k.0 ≡ h.0 = cc (k.1, h.1) in
    one h.0 other message (subst (λ (d : Data). Reads d other) value k.2) h.2
