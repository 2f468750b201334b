-- What `has` prints: which URLs a list has, by its full hashes.
use Rattle.std.specs.Prelude.{◌≡◌, ℕ, Bool, true, false, if◌then◌else◌, List, [], ◌∷◌, ◌++◌, filter, Result, Ok, Err, is_some, codes}
use Rattle.std.specs.List.{enumerate_from, flat_map, list_any}
use Rattle.std.specs.Str.{bytes_eq}
use Rattle.std.specs.Str.Lines.{lines}
use Rattle.sha2.specs.Sha256.{sha256}
use Rattle.sb_model.specs.declared.names.ListName.{ListName}
use Rattle.sb_model.specs.History.{History, full_hashes_at, version_count}
use Rattle.url_canon.specs.declared.fault.UrlFault.{UrlFault}
use Rattle.url_canon.specs.Canonical.{canonical_of}
use Rattle.url_canon.specs.Url.{Url}
use Rattle.url_expressions.specs.Expressions.{expressions_of}
use Rattle.input_lines.specs.Lines.{numbered}
use Rattle.list_versions.specs.Journal.{Kept, declared_size_of}
use Rattle.sb_journal.specs.Refusals.{refusal}
use Rattle.journal_run.specs.Printed.{unknown_list}
use Rattle.journal_run.specs.Written.{Reply}

-- whether a list has the full hash of an expression now
abbrev pub is_expression_listed : History → ListName → List ℕ → Bool
is_expression_listed history list expression =
    list_any (bytes_eq (sha256 expression)) (full_hashes_at history list (version_count history))

-- the expressions of a URL that a list has, in the order of the expressions
abbrev pub listed_in : History → ListName → Url → List (List ℕ)
listed_in history list url = filter (is_expression_listed history list) (expressions_of url)

-- texts, each after a space
abbrev pub spaced : List (List ℕ) → List ℕ
spaced texts = flat_map (λ text. 32 ∷ text) texts

-- what is said of these: `not-listed` if there is none, and else `listed` and each of them
abbrev pub listed_text : List (List ℕ) → List ℕ
listed_text [] = codes "not-listed"
listed_text (expression ∷ expressions) = codes "listed" ++ spaced (expression ∷ expressions)

-- what is said of a line: an empty one is a URL too, and none begins a comment
abbrev pub verdict_of_url : History → ListName → Result Url UrlFault → List ℕ
verdict_of_url history list (Ok url) = listed_text (listed_in history list url)
verdict_of_url history list (Err fault) = refusal fault

abbrev pub line_verdict : History → ListName → ℕ × List ℕ → List ℕ
line_verdict history list line = numbered line.0 (verdict_of_url history list (canonical_of line.1))

-- a line for each line of the input
unfoldable pub verdicts : History → ListName → List ℕ → List ℕ
verdicts history list input = flat_map (line_verdict history list) (enumerate_from 1 (lines input))

abbrev pub is_some_listed : List (List ℕ) → Bool
is_some_listed [] = false
is_some_listed (expression ∷ expressions) = true

abbrev pub is_hit : History → ListName → Result Url UrlFault → Bool
is_hit history list (Ok url) = is_some_listed (listed_in history list url)
is_hit history list (Err fault) = false

abbrev pub is_url_refused : Result Url UrlFault → Bool
is_url_refused (Ok url) = false
is_url_refused (Err fault) = true

-- 20 if some URL is listed, else 21 if some is refused, else 0
abbrev pub status_of_lines : History → ListName → List (List ℕ) → ℕ
status_of_lines history list urls =
    if list_any (λ url. is_hit history list (canonical_of url)) urls then 20
    else if list_any (λ url. is_url_refused (canonical_of url)) urls then 21
    else 0

abbrev pub has_reply : ListName → List ℕ → Kept → Reply
has_reply list input kept =
    if is_some (declared_size_of kept.versions list)
    then record { text = verdicts kept.versions list input; status = status_of_lines kept.versions list (lines input) }
    else unknown_list

abbrev pub IsHasReply : ListName → List ℕ → Kept → Reply → Type 0
IsHasReply list input kept reply = reply ≡ has_reply list input kept
