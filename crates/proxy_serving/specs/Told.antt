-- What is told of a look-up whose URLs have verdicts.
use Rattle.std.specs.Prelude.{Bool, true, false, List, [], map, Option, Some, None}
use Rattle.std.specs.List.{flat_map, list_any}
use Rattle.lookup_messages.specs.Lookups.{match_of}
use Rattle.lookup_messages.specs.declared.response.LookupMatch.{LookupMatch}
use Rattle.sb_model.specs.declared.names.ListName.{ListName}
use Rattle.verdict_report.specs.declared.verdicts.Verdict.{Verdict}
use Rattle.verdict_report.specs.declared.verdicts.Verdict.TheVariants.{Safe, Unsafe, Undecided}
use Rattle.proxy_serving.specs.declared.fate.LookFate.{LookFate}
use Rattle.proxy_serving.specs.declared.fate.LookFate.TheVariants.{Unanswered, Answered}
use Rattle.proxy_serving.specs.declared.told.SeenUrl.{SeenUrl}

-- the lists that a verdict names
abbrev pub lists_told : Option Verdict → List ListName
lists_told None = []
lists_told (Some Safe) = []
lists_told (Some (Unsafe lists)) = lists
lists_told (Some (Undecided cause)) = []

-- whether a verdict leaves its URL open
abbrev pub leaves_url_open : Option Verdict → Bool
leaves_url_open None = false
leaves_url_open (Some Safe) = false
leaves_url_open (Some (Unsafe lists)) = false
leaves_url_open (Some (Undecided cause)) = true

-- the matches of a URL, as it was asked: one with each list that its verdict names, which may not be kept
abbrev pub matches_told : SeenUrl → List LookupMatch
matches_told one = map (match_of 0 one.url) (lists_told one.verdict)

-- What becomes of a look-up: it is not answered if a URL is left open. Else its answer has the matches of all URLs, in the order in which
-- they were asked.
abbrev pub fate_left : List SeenUrl → Bool → LookFate
fate_left urls true = Unanswered
fate_left urls false = Answered (record { matches = flat_map matches_told urls })

abbrev pub fate_told : List SeenUrl → LookFate
fate_told urls = fate_left urls (list_any (λ (one : SeenUrl). leaves_url_open one.verdict) urls)
