-- A URL in its parts, and the text that they make.
use Rattle.std.specs.Prelude.{◌≡◌, ℕ, ◌+◌, ◌-◌, List, [], ◌∷◌, ◌++◌, Bool, Option, Some, None, codes, length, take, drop}
use Rattle.url_canon.specs.Path.{path_text, components_of}

-- `scheme://host/path?query`
pub record Url : Type 0 where
  pub scheme : List ℕ
  pub host : List ℕ
  -- the components, without their slashes
  pub path : List (List ℕ)
  pub query : Option (List ℕ)
  -- an IPv4 address or a bracketed host
  pub is_address : Bool

abbrev pub query_text : Option (List ℕ) → List ℕ
query_text None = []
query_text (Some query) = 63 ∷ query

-- the scheme, `://`, the host, the path, and where there is a query a `?` and the query
abbrev pub text_of_url : Url → List ℕ
text_of_url url =
    url.scheme ++ (codes "://" ++ (url.host ++ (path_text url.path ++ query_text url.query)))

-- nothing, or what stands after a mark
abbrev pub after_mark : List ℕ → Option (List ℕ)
after_mark [] = None
after_mark (mark ∷ rest) = Some rest

-- the URL whose host, path and query begin at these places of a text
unfoldable pub url_at_places : List ℕ → ℕ → ℕ → ℕ → Bool → Url
url_at_places text host_at path_at query_at is_address = record {
  scheme = take (host_at - 3) text;
  host = take (path_at - host_at) (drop host_at text);
  path = components_of (take (query_at - path_at) (drop path_at text));
  query = after_mark (drop query_at text);
  is_address = is_address;
}

-- The text is that of the URL, whose host, path and query begin at these places.
pub record IsLaidOut (text : List ℕ) (host_at path_at query_at : ℕ) (url : Url) : Type 0 where
  pub whole : text ≡ text_of_url url
  pub host : host_at ≡ length url.scheme + 3
  pub path : path_at ≡ host_at + length url.host
  pub query : query_at ≡ path_at + length (path_text url.path)
