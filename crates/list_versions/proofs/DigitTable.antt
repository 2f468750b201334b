-- The table of the values of digits.
use Rattle.std.proofs.Common.{◌≡◌, ℕ, zero, suc, ◌<◌, ◌==◌, Bool, true, false, ◌&&◌, slice_index, refl, arith, inl, inr, Option, Some, None}
use Rattle.std.proofs.lemmas.Bool.{and_parts, cases_lt, eqb-true}
use Rattle.hex.specs.Hex.{hex_digit_value}
use Rattle.list_versions.specs.Hexes.{digit_of}
use Rattle.list_versions.specs.declared.hex_digits.TheConstants.{DIGIT_VALUES}

-- two digits that may be none are the same
abbrev same_digit : Option ℕ → Option ℕ → Bool
same_digit None None = true
same_digit (Some a) (Some b) = a == b
same_digit _ _ = false

same_from : (a b : Option ℕ) → same_digit a b ≡ true → a ≡ b
same_from None None h = refl
same_from (Some a) (Some b) h = rw (eqb-true a b h) refl
same_from None (Some b) h = absurd (cc)
same_from (Some a) None h = absurd (cc)

abbrev agrees : ℕ → Bool
agrees byte = same_digit (digit_of (slice_index DIGIT_VALUES byte)) (hex_digit_value byte)

abbrev agree_below : ℕ → Bool
agree_below zero = true
agree_below (suc n) = agrees n && agree_below n

all_agree : agree_below 256 ≡ true
all_agree = refl

agrees_at : (n byte : ℕ) → agree_below n ≡ true → byte < n → agrees byte ≡ true
agrees_at zero byte h lt = absurd (omega arith)
agrees_at (suc n) byte h lt =
    let parts = and_parts (agrees n) (agree_below n) h in
    elim (cases_lt byte n) [
      | inl below ↦ agrees_at n byte parts.1 below
      | inr top ↦
          let e : byte ≡ n = omega arith in
          rw e parts.0
    ]

-- the table has the value of each byte
pub value_in_table : (byte : ℕ) → byte < 256 → digit_of (slice_index DIGIT_VALUES byte) ≡ hex_digit_value byte
value_in_table byte lt = same_from _ _ (agrees_at 256 byte all_agree lt)
