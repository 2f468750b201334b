-- The full hashes of a URL: those of its expressions (Safe Browsing v4, "URLs and Hashing").
use Rattle.std.specs.Prelude.{◌≡◌, ℕ, List, length, map}
use Rattle.sha2.specs.Sha256.{sha256}
use Rattle.hash_prefixes.specs.declared.hashes.FullHash.{FullHash}
use Rattle.url_canon.specs.Url.{Url}
use Rattle.url_expressions.specs.Expressions.{expressions_of}

-- the full hash of an expression
abbrev pub full_hash_of : List ℕ → FullHash
full_hash_of expression = record { bytes = sha256 expression }

-- the full hashes of a URL's expressions, in order
abbrev pub hashes_of : Url → List FullHash
hashes_of url = map full_hash_of (expressions_of url)

-- a full hash has 32 bytes
abbrev pub IsWholeHash : FullHash → Type 0
IsWholeHash hash = length hash.bytes ≡ 32
