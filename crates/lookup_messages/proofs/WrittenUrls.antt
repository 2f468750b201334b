-- The characters of a text are those that its UTF-8 spells.
use Rattle.std.proofs.Common.{◌≡◌, ℕ, List, encode_utf8_all, ap, ◌∙◌}
use Rattle.std.specs.Str.{chars, IsUtf8}
use Rattle.std.proofs.lemmas.Str.{encodes-chars}
use Rattle.sb_members.specs.Ranges.{IsText}

pub spelled : (cs bs : List ℕ) → IsUtf8 bs → chars bs ≡ cs → encode_utf8_all cs ≡ bs
spelled cs bs u e = rw e at (encodes-chars bs u)

pub text_in_range : (cs bs : List ℕ) → IsUtf8 bs → chars bs ≡ cs → IsText cs
text_in_range cs bs u e = ap chars (spelled cs bs u e) ∙ e
