-- What is written of texts, objects and lists.
use Rattle.std.proofs.Common.{◌≡◌, ℕ, List, [], ◌∷◌, length, Some, String, encode_utf8_all, refl, sym, ap, subst, ◌∙◌}
use Rattle.std.specs.Str.{chars, IsUtf8}
use Rattle.std.specs.declared.alloc.Global.{Global}
use Rattle.std.proofs.lemmas.Str.{chars-nil, encodes-chars}
use Rattle.serde_json.specs.Data.{string, object}
use Rattle.serde_json.specs.View.{members_view}
use Rattle.serde_json.specs.declared.value.Value.{Value}
use Rattle.sb_members.specs.Ranges.{IsText}
use Rattle.sb_members.specs.Writing.{text_written, unless_bare}

spelled : (cs bs : List ℕ) → encode_utf8_all cs ≡ bs → (cs ≡ [] → ⊥) → Some (string bs) ≡ text_written cs
spelled [] bs e some = absurd (some refl)
spelled (c ∷ cs) bs e some = ap (λ (b : List ℕ). Some (string b)) (sym e)

pub text_spelled : (cs bs : List ℕ) → IsUtf8 bs → chars bs ≡ cs → (cs ≡ [] → ⊥) → Some (string bs) ≡ text_written cs
text_spelled cs bs u e some = spelled cs bs (rw e at (encodes-chars bs u)) some

pub no_text : (cs : List ℕ) → cs ≡ [] → IsText cs
no_text cs e = subst IsText (sym e) chars-nil

pub text_in_range : (cs bs : List ℕ) → IsUtf8 bs → chars bs ≡ cs → IsText cs
text_in_range cs bs u e = ap chars (rw e at (encodes-chars bs u)) ∙ e

pub object_stands : (es : List (String Global × Value)) → (length es ≡ 0 → ⊥) → Some (object (members_view es)) ≡ unless_bare (members_view es)
object_stands [] h = absurd (h refl)
object_stands (e ∷ es) h = refl
