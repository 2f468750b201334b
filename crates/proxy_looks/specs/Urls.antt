-- The URLs of a look-up, and their hits on the lists that a client holds.
use Rattle.std.specs.Prelude.{◌||◌, ℕ, Bool, not, List, [], ◌∷◌, map, filter, Option, Some, None, IfSome, Result, Ok, Err}
use Rattle.std.specs.List.{flat_map, list_all}
use Rattle.lookup_messages.specs.Lookups.{canonical_of_asked, looks_up_list}
use Rattle.lookup_messages.specs.Messages.{AskedUrls}
use Rattle.proxy_looks.specs.declared.urls.LookUrl.{LookUrl}
use Rattle.update_client.specs.Held.{Held, has_token}
use Rattle.url_canon.specs.Url.{Url}
use Rattle.url_canon.specs.declared.fault.UrlFault.{UrlFault}
use Rattle.url_checker.specs.Hits.{AreAskable, hits_of}
use Rattle.url_checker.specs.declared.findings.Hit.{Hit}
use Rattle.verdict_report.specs.declared.verdicts.Verdict.{Verdict}

-- ---- whether the lists may be looked at

-- whether a list may be looked at for a request: its three types are not asked, or it was fetched once
abbrev pub is_list_ready : AskedUrls → Held → Bool
is_list_ready asked held = not (looks_up_list asked held.name) || has_token held

abbrev pub lists_are_ready : List Held → AskedUrls → Bool
lists_are_ready lists asked = list_all (is_list_ready asked) lists

-- ---- hits

-- the hits of a URL on the lists whose three types are asked
abbrev pub hits_asked_of : List Held → AskedUrls → Url → List Hit
hits_asked_of lists asked url = filter (λ (hit : Hit). looks_up_list asked hit.list) (hits_of lists url)

-- the same of a text: none if it has no canonical form
abbrev pub hits_found : List Held → AskedUrls → Result Url UrlFault → Option (List Hit)
hits_found lists asked (Ok url) = Some (hits_asked_of lists asked url)
hits_found lists asked (Err fault) = None

-- a URL that is asked, which has no verdict yet
abbrev pub url_asked : List Held → AskedUrls → List ℕ → LookUrl
url_asked lists asked url = record { url = url; hits = hits_found lists asked (canonical_of_asked url); verdict = None }

-- those of a request, in their order
abbrev pub urls_asked : List Held → AskedUrls → List LookUrl
urls_asked lists asked = map (url_asked lists asked) asked.urls

-- one find may ask for the hits of a URL
abbrev pub IsAskableUrl : LookUrl → Type 0
IsAskableUrl one = IfSome one.hits AreAskable

-- ---- those that are open

-- the hits of a URL, if it is open: it has hits that are looked up, and no verdict yet
abbrev pub open_hits_of : Option (List Hit) → Option Verdict → List (List Hit)
open_hits_of None verdict = []
open_hits_of (Some hits) None = hits ∷ []
open_hits_of (Some hits) (Some verdict) = []

-- the hits of each URL that is open, in their order
abbrev pub open_hits : List LookUrl → List (List Hit)
open_hits urls = flat_map (λ (one : LookUrl). open_hits_of one.hits one.verdict) urls
