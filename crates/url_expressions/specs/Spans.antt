-- Expressions as pieces of the text that they all lie in.
use Rattle.std.specs.Prelude.{ℕ, ◌-◌, ◌≤◌, List, ◌++◌, take, drop}
use Rattle.url_canon.specs.Path.{path_text}
use Rattle.url_canon.specs.Url.{Url, query_text}
use Rattle.url_expressions.specs.declared.spans.Span.{Span}

-- the host, the path, and where there is a query a `?` and the query
abbrev pub text_behind_scheme : Url → List ℕ
text_behind_scheme url = url.host ++ (path_text url.path ++ query_text url.query)

-- the bytes of a text from a place up to another
abbrev pub piece_of : List ℕ → Span → List ℕ
piece_of text span = take (span.to - span.from) (drop span.from text)

-- The piece lies within a text of so many bytes.
pub record IsWithin (len : ℕ) (span : Span) : Type 0 where
  pub in_order : span.from ≤ span.to
  pub within : span.to ≤ len
