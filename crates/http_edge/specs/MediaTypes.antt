-- The media type that a value of `Content-Type` names (RFC 9110, section 8.3.1).
use Rattle.std.specs.Prelude.{ℕ, ◌==◌, List}
use Rattle.std.specs.List.{before_first}
use Rattle.httparse.specs.Grammar.{trim_ows}

-- what stands before the first `;` of a value, without spaces and tabs around: the parameters are left out
abbrev pub media_type_in : List ℕ → List ℕ
media_type_in value = trim_ows (before_first (λ byte. byte == 59) value)
