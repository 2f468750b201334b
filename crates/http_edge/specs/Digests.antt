-- The digest of its body that a head gives (RFC 9530, section 2): the first member of a `Content-Digest` field that is a
-- SHA-256 digest. Other members, and those that are malformed, are skipped.
use Rattle.std.specs.Prelude.{◌≡◌, ℕ, ◌==◌, List, ◌∷◌, ◌++◌, length, map, codes, All, Option, Some, None}
use Rattle.std.specs.List.{flat_map, slice_split}
use Rattle.base64.specs.GeneralPurpose.{IsBytes}
use Rattle.httparse.specs.Grammar.{Field, trim_ows}
use Rattle.std.specs.Option.{option_to_list}
use Rattle.httparse.specs.Spans.{header_bytes}
use Rattle.httparse.specs.declared.spans.HeaderSpan.{HeaderSpan}
use Rattle.http_edge.specs.Fields.{field_values_of, value_if_named}
use Rattle.http_edge.specs.Responses.{digest_text}

-- the members of a value: its parts between commas, without the white space around them
abbrev pub members_in : List ℕ → List (List ℕ)
members_in value = map trim_ows (slice_split (λ byte. byte == 44) value)

-- the members of all fields, in order
abbrev pub digest_members : List Field → List (List ℕ)
digest_members fields = flat_map members_in (field_values_of (codes "content-digest") fields)

-- A member is the text of this digest, which has the 32 bytes of a SHA-256.
pub record IsDigestMember (member digest : List ℕ) : Type 0 where
  pub text : member ≡ digest_text digest
  pub size : length digest ≡ 32
  pub bytes : IsBytes digest

abbrev pub IsNoDigest : List ℕ → Type 0
IsNoDigest member = (digest : List ℕ) → ¬ (IsDigestMember member digest)

-- The first of the members that is a digest is this one.
pub record HasFirst (members : List (List ℕ)) (digest : List ℕ) : Type 0 where
  pub before : List (List ℕ)
  pub member : List ℕ
  pub after : List (List ℕ)
  pub parts : members ≡ before ++ member ∷ after
  pub others : All IsNoDigest before
  pub is : IsDigestMember member digest

-- the digest among the members, if there is one
abbrev pub IsDigestIn : List (List ℕ) → Option (List ℕ) → Type 0
IsDigestIn members (Some digest) = HasFirst members digest
IsDigestIn members None = All IsNoDigest members

-- the digest that a head gives, if it gives one
abbrev pub IsDigestGiven : List Field → Option (List ℕ) → Type 0
IsDigestGiven fields digest = IsDigestIn (digest_members fields) digest

-- whether a member is a digest, and which
abbrev pub IsMemberDigest : List ℕ → Option (List ℕ) → Type 0
IsMemberDigest member (Some digest) = IsDigestMember member digest
IsMemberDigest member None = IsNoDigest member

-- the members of a field that lies at these places of a buffer
abbrev pub members_at : List ℕ → HeaderSpan → List (List ℕ)
members_at buffer field = flat_map members_in (option_to_list (value_if_named (codes "content-digest") (header_bytes buffer field)))
