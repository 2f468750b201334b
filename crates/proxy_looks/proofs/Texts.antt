-- A text is its characters.
use Rattle.std.proofs.Common.{◌≡◌, ℕ, List, sym, ap, ◌∙◌}
use Rattle.std.specs.Prelude.{encode_utf8_all, IsUtf8}
use Rattle.std.specs.Str.{chars}
use Rattle.std.proofs.lemmas.Str.{encodes-chars}

pub text_bytes : (bytes text : List ℕ) → IsUtf8 bytes → chars bytes ≡ text → bytes ≡ encode_utf8_all text
text_bytes bytes text is same = sym (encodes-chars bytes is) ∙ ap encode_utf8_all same
