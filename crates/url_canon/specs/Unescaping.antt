-- Percent-encoded bytes (RFC 3986, section 2.1), taken back until none is left (Safe Browsing v4,
-- "URLs and Hashing", section "Canonicalization").
use Rattle.std.specs.Prelude.{◌≡◌, ℕ, ◌+◌, ◌*◌, List, [], ◌∷◌, ◌==◌, nat_lt, Bool, true, ◌&&◌, if◌then◌else◌}
use Rattle.std.specs.Char.{digit_value}

abbrev pub is_hex : ℕ → Bool
is_hex byte = nat_lt (digit_value byte) 16

-- the byte that two hexadecimal digits spell
abbrev pub spelled : ℕ → ℕ → ℕ
spelled high low = 16 * digit_value high + digit_value low

-- One `%` and the two hexadecimal digits after it become their byte, wherever they stand.
pub data UnescapesOne : List ℕ → List ℕ → Type 0 where
  here : {high low : ℕ} {rest : List ℕ} → is_hex high ≡ true → is_hex low ≡ true
      → UnescapesOne (37 ∷ high ∷ low ∷ rest) (spelled high low ∷ rest)
  there : {byte : ℕ} {text result : List ℕ} → UnescapesOne text result
      → UnescapesOne (byte ∷ text) (byte ∷ result)

-- some such steps, one after the other
pub data UnescapesTo : List ℕ → List ℕ → Type 0 where
  same : {text : List ℕ} → UnescapesTo text text
  step : {text next result : List ℕ} → UnescapesOne text next → UnescapesTo next result
      → UnescapesTo text result

-- no step leads on
abbrev pub HasNoEscape : List ℕ → Type 0
HasNoEscape text = (next : List ℕ) → UnescapesOne text next → ⊥

-- Some steps lead from the text to the result, and no step leads on.
pub record IsUnescapedOf (text result : List ℕ) : Type 0 where
  pub reached : UnescapesTo text result
  pub finished : HasNoEscape result

-- An unescaped text with one byte more at its front: an escape that the byte begins becomes its
-- byte, which may begin another.
abbrev pub with_byte : ℕ → List ℕ → List ℕ
with_byte byte [] = byte ∷ []
with_byte byte (next ∷ []) = byte ∷ next ∷ []
with_byte byte (high ∷ low ∷ rest) =
    if byte == 37 && (is_hex high && is_hex low) then with_byte (spelled high low) rest
    else (byte ∷ high ∷ low ∷ rest)

-- the unescaped text, of which `IsUnescapedOf` says what it is
unfoldable pub unescaped : List ℕ → List ℕ
unescaped [] = []
unescaped (byte ∷ text) = with_byte byte (unescaped text)
