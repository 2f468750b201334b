-- A message that stands as base64 in the query of a GET (RFC 4648, sections 4 and 5).
use Rattle.std.specs.Prelude.{◌≡◌, ◌⊎◌, ℕ, List, map}
use Rattle.base64.specs.Engines.{standard, standard_no_pad}
use Rattle.base64.specs.GeneralPurpose.{IsBytes, encode_of}
use Rattle.sb_json.specs.Values.{in_standard_alphabet}

-- A text is the base64 text of a message: with `+` and `/` in the place of each `-` and `_` it is the standard text of its bytes, either with the
-- `=` at its end or without them.
pub record IsBase64Of (text message : List ℕ) : Type 0 where
  pub bytes : IsBytes message
  pub spelled : (map in_standard_alphabet text ≡ encode_of standard message) ⊎ (map in_standard_alphabet text ≡ encode_of standard_no_pad message)

-- a text that is the base64 text of no message
abbrev pub IsNoBase64 : List ℕ → Type 0
IsNoBase64 text = (message : List ℕ) → IsBase64Of text message → ⊥

-- a text is the base64 text of no more than one message
abbrev pub QueriesReadOneWay : Type 0
QueriesReadOneWay = (text a b : List ℕ) → IsBase64Of text a → IsBase64Of text b → a ≡ b
