-- What is said of URLs that are refused.
use Rattle.std.specs.Prelude.{ℕ, Bool, List, [], ◌++◌, map, is_some, Option, Some, None, codes}
use Rattle.std.specs.List.{enumerate_from, flat_map, list_any}
use Rattle.std.specs.Str.Lines.{lines}
use Rattle.url_canon.specs.declared.fault.UrlFault.{UrlFault}
use Rattle.url_canon.specs.Printed.{url_cause}
use Rattle.input_lines.specs.Lines.{numbered}
use Rattle.sb_journal.specs.Feed.{edit_said_by, refused, said_by}

-- `refused CAUSE`, and for line N of an input `N refused CAUSE`
abbrev pub refusal : UrlFault → List ℕ
refusal fault = codes "refused " ++ url_cause fault

abbrev pub refusal_at : ℕ → Option UrlFault → List ℕ
refusal_at number None = []
refusal_at number (Some fault) = numbered number (refusal fault)

-- a line for each line of an input that is refused, by what is refused of each
unfoldable pub refusals : List (Option UrlFault) → List ℕ
refusals faults = flat_map (λ line. refusal_at line.0 line.1) (enumerate_from 1 faults)

abbrev pub has_refused : List (Option UrlFault) → Bool
has_refused faults = list_any is_some faults

-- what is refused of the URLs of an input, line by line
abbrev pub refused_in : List ℕ → List (Option UrlFault)
refused_in input = map (λ line. refused (said_by line)) (lines input)

abbrev pub refused_edits_in : List ℕ → List (Option UrlFault)
refused_edits_in input = map (λ line. refused (edit_said_by 4 line)) (lines input)
