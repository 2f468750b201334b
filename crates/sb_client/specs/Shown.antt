-- The printed text of URLs, each with its expressions.
use Rattle.std.specs.Prelude.{ℕ, ◌+◌, Bool, true, false, List, [], ◌∷◌, ◌++◌, Result, Ok, Err, codes}
use Rattle.std.specs.List.{flat_map, list_any}
use Rattle.hex.specs.Hex.{encode_lower}
use Rattle.sha2.specs.Sha256.{sha256}
use Rattle.url_canon.specs.Url.{Url, text_of_url}
use Rattle.url_canon.specs.Canonical.{canonical_of}
use Rattle.url_canon.specs.declared.fault.UrlFault.{UrlFault}
use Rattle.url_canon.specs.Printed.{url_cause}
use Rattle.url_expressions.specs.Expressions.{expressions_of}
use Rattle.input_lines.specs.Lines.{numbered, newline, lines_of}

-- an expression after its hash
abbrev pub expression_line : List ℕ → List ℕ
expression_line expression = codes "  " ++ encode_lower (sha256 expression) ++ codes " " ++ expression ++ newline ∷ []

-- the lines of a text: its canonical URL and its expressions, or why it has none
abbrev pub shown_lines : ℕ → Result Url UrlFault → List ℕ
shown_lines number (Ok url) = numbered number (text_of_url url) ++ flat_map expression_line (expressions_of url)
shown_lines number (Err fault) = numbered number (codes "refused " ++ url_cause fault)

-- the lines of texts, which are numbered
abbrev pub all_shown : ℕ → List (List ℕ) → List ℕ
all_shown number [] = []
all_shown number (line ∷ lines) = shown_lines number (canonical_of line) ++ all_shown (number + 1) lines

abbrev pub show_text : List ℕ → List ℕ
show_text input = all_shown 1 (lines_of input)

-- whether a text has no canonical URL
abbrev pub is_refused_url : Result Url UrlFault → Bool
is_refused_url (Ok url) = false
is_refused_url (Err fault) = true

-- whether one of the lines has none
abbrev pub has_refused_url : List (List ℕ) → Bool
has_refused_url lines = list_any (λ line. is_refused_url (canonical_of line)) lines
