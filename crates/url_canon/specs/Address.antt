-- The IPv4 addresses among the names of hosts, in the forms that `inet_aton` reads (Safe Browsing
-- v4, "URLs and Hashing", section "Canonicalization", canonicalizing the hostname, steps 3 and 4).
use Rattle.std.specs.Prelude.{◌≡◌, ◌<◌, ℕ, suc, zero, ◌+◌, ◌*◌, ◌/◌, ◌%◌, ◌^◌, List, [], ◌∷◌, ◌++◌, nat_lt, nat_eq, ◌&&◌, ◌||◌, if◌then◌else◌, Option, Some, None, option_and_then, codes, length, drop, map, fold, decimal}
use Rattle.std.specs.List.{slice_split, starts_with, list_all}
use Rattle.std.specs.Char.{digit_value}
use Rattle.url_canon.specs.Words.{is_dot}

-- the number that the digits of a base spell, of which there is one at least
unfoldable pub number_in_base : ℕ → List ℕ → Option ℕ
number_in_base base digits =
    if nat_lt 0 (length digits) && list_all (λ digit. nat_lt (digit_value digit) base) digits
    then Some (fold (λ number digit. base * number + digit_value digit) 0 digits)
    else None

-- The number of a part: hexadecimal digits after `0x` or `0X`, octal digits after a 0, and else
-- decimal digits. No other part is a number.
unfoldable pub number_of_part : List ℕ → Option ℕ
number_of_part part =
    if starts_with nat_eq part (codes "0x") || starts_with nat_eq part (codes "0X")
    then number_in_base 16 (drop 2 part)
    else (if starts_with nat_eq part (codes "0") && nat_lt 1 (length part)
    then number_in_base 8 (drop 1 part) else number_in_base 10 part)

-- One to four numbers stand for the four bytes of an address: each but the last is one byte, and
-- the last fills the bytes that are left.
abbrev pub StandFor : List ℕ → ℕ → ℕ → ℕ → ℕ → Type 0
StandFor (n ∷ []) a b c d = n ≡ ((a * 256 + b) * 256 + c) * 256 + d
StandFor (x ∷ n ∷ []) a b c d = (x ≡ a) × (n ≡ (b * 256 + c) * 256 + d)
StandFor (x ∷ y ∷ n ∷ []) a b c d = (x ≡ a) × (y ≡ b) × (n ≡ c * 256 + d)
StandFor (x ∷ y ∷ z ∷ n ∷ []) a b c d = (x ≡ a) × (y ≡ b) × (z ≡ c) × (n ≡ d)
StandFor _ a b c d = ⊥

-- These four are bytes, and the parts of a host are the numbers that stand for them.
pub record IsAddressOf (host : List ℕ) (a b c d : ℕ) : Type 0 where
  pub first : a < 256
  pub second : b < 256
  pub third : c < 256
  pub fourth : d < 256
  pub numbers : List ℕ
  pub parts : map number_of_part (slice_split is_dot host) ≡ map Some numbers
  pub bytes : StandFor numbers a b c d

-- the address of so many bytes that parts stand for, as one number
abbrev pub address_in : ℕ → List (List ℕ) → Option ℕ
address_in zero parts = None
address_in (suc width) [] = None
address_in (suc width) (part ∷ []) =
    option_and_then (λ number. if nat_lt number (256 ^ suc width) then Some number else None)
    (number_of_part part)
address_in (suc width) (part ∷ next ∷ parts) =
    option_and_then (λ number. option_and_then
    (λ low. if nat_lt number 256 then Some (number * 256 ^ width + low) else None)
    (address_in width (next ∷ parts))) (number_of_part part)

-- the address that a host's name stands for, of which `IsAddressOf` says what it is
unfoldable pub address_of : List ℕ → Option ℕ
address_of host = address_in 4 (slice_split is_dot host)

-- the four bytes of an address in decimal digits, separated by dots
unfoldable pub address_text : ℕ → List ℕ
address_text address =
    decimal (address / 16777216) ++ (46 ∷ (decimal (address / 65536 % 256)
    ++ (46 ∷ (decimal (address / 256 % 256) ++ (46 ∷ decimal (address % 256))))))
