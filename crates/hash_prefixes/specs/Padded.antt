-- How a prefix is kept: its bytes at the front of an array of 32, with zeros after them.
use Rattle.std.specs.Prelude.{◌≡◌, ℕ, ◌-◌, ◌≤◌, List, ◌++◌, length, take, drop, replicate}
use Rattle.std.proofs.Common.{ap, sym, subst, ◌∙◌}
use Rattle.std.proofs.lemmas.List.{length-take-le, take-append-drop}
use Rattle.hash_prefixes.specs.declared.prefixes.Prefix.TheInside.{Inside}

-- the bytes of the prefix itself
abbrev pub own_bytes : Inside → List ℕ
own_bytes p = take p.size p.bytes

-- 4 to 32 bytes, and zeros after them
pub record IsPadded (p : Inside) : Type 0 where
  pub at_least : 4 ≤ p.size
  pub at_most : p.size ≤ 32
  pub room : length p.bytes ≡ 32
  pub zeros : drop p.size p.bytes ≡ replicate (32 - p.size) 0

-- the fields that these bytes are kept in
abbrev pub padded_fields : List ℕ → Inside
padded_fields own = record { size = length own; bytes = own ++ replicate (32 - length own) 0 }

-- the fields are the only ones with these bytes
pub padded_fields-own_bytes : (p : Inside) → IsPadded p → padded_fields (own_bytes p) ≡ p
padded_fields-own_bytes p h =
    let fits : p.size ≤ length p.bytes = subst (λ (n : ℕ). p.size ≤ n) (sym h.room) h.at_most in
    let size : length (take p.size p.bytes) ≡ p.size = length-take-le p.size p.bytes fits in
    let zeros : replicate (32 - length (take p.size p.bytes)) 0 ≡ drop p.size p.bytes =
    ap (λ (n : ℕ). replicate (32 - n) 0) size ∙ sym h.zeros in
    let bytes : take p.size p.bytes ++ replicate (32 - length (take p.size p.bytes)) 0 ≡ p.bytes
    = ap (λ (rest : List ℕ). take p.size p.bytes ++ rest) zeros ∙ take-append-drop p.size p.bytes in
    λ i. record { size = size i; bytes = bytes i }
