-- The matches of one URL after another, and the text of the names.
use Rattle.std.proofs.Common.{◌≡◌, ℕ, Bool, false, List, [], ◌∷◌, map, filter, Some, Result, Ok, Err, encode_utf8_all, refl, sym, ap, ◌∙◌}
use Rattle.std.specs.Prelude.{MatchResult}
use Rattle.std.specs.List.{flat_map}
use Rattle.std.specs.Str.{chars, IsUtf8}
use Rattle.std.proofs.lemmas.Str.{encodes-chars}
use Rattle.serde_json.specs.Data.{Data}
use Rattle.serde_json.specs.View.{items_of}
use Rattle.serde_json.specs.Written.{has_float, items_have_float}
use Rattle.sb_json.specs.declared.fields.Field.TheVariants as field
use Rattle.sb_members.specs.Laws.{FloatAsValues}
use Rattle.sb_members.specs.Parts.{HasNoFloat, Parts}
use Rattle.sb_members.specs.Writing.{list_written}
use Rattle.sb_model.specs.declared.names.ListName.{ListName}
use Rattle.hash_messages.specs.Writing.{threat_written, platform_written, entry_written}
use Rattle.answering_lists.specs.Lists.{answered_names}
use Rattle.url_canon.specs.Url.{Url}
use Rattle.url_canon.specs.declared.fault.UrlFault.{UrlFault}
use Rattle.sb_model.specs.History.{History}
use Rattle.url_canon.specs.Canonical.{canonical_of}
use Rattle.lookup_messages.specs.Lookups.{canonical_of_asked, lists_looked_up, match_of, matches_of_url}
use Rattle.lookup_messages.specs.Messages.{AskedUrls}
use Rattle.lookup_messages.specs.declared.response.LookupMatch.{LookupMatch}
use Rattle.lookup_messages.specs.declared.response.LookupResponse.{LookupResponse}
use Rattle.sb_lookup.specs.Lookups.{name_has_url, name_written, names_written, served_lookup}

-- a response with these matches
abbrev pub made_of : List LookupMatch → LookupResponse
made_of matches = record { matches = matches }

-- the matches under the names whose lists have a URL
pub matches_with : (has : ListName → Url → Bool) (lists found : List ListName) (cache : ℕ) (url : List ℕ) (form : Result Url UrlFault)
    → MatchResult form (λ canonical. found ≡ filter (λ list. has list canonical) lists) (λ fault. found ≡ [])
    → map (match_of cache url) found ≡ matches_of_url has lists cache url form
matches_with has lists found cache url (Ok canonical) is = ap (map (match_of cache url)) is
matches_with has lists found cache url (Err fault) is = ap (map (match_of cache url)) is

-- the canonical form of a URL that is asked, by the bytes of its text
pub asked_form : (url text bytes : List ℕ) → IsUtf8 text → chars text ≡ url → bytes ≡ text → canonical_of_asked url ≡ canonical_of bytes
asked_form url text bytes utf8 spelled same =
    ap (λ (cs : List ℕ). canonical_of (encode_utf8_all cs)) (sym spelled) ∙ ap canonical_of (encodes-chars text utf8) ∙ ap canonical_of (sym same)

-- the answer over the names whose types are asked and for which lists answer
pub served_by : (history : History) (cache : ℕ) (asked : AskedUrls) (matches : List LookupMatch) (answered names : List ListName) (urls : List (List ℕ))
    → answered ≡ answered_names history → names ≡ lists_looked_up answered asked → urls ≡ asked.urls
    → matches ≡ flat_map (λ url. matches_of_url (name_has_url history) names cache url (canonical_of_asked url)) urls
    → made_of matches ≡ served_lookup history cache asked
served_by history cache asked matches answered names urls are among of made =
    ap made_of (
    made
    ∙ ap (λ (us : List (List ℕ)). flat_map (λ url. matches_of_url (name_has_url history) names cache url (canonical_of_asked url)) us) of
    ∙ ap (λ (ns : List ListName). flat_map (λ url. matches_of_url (name_has_url history) ns cache url (canonical_of_asked url)) asked.urls)
    (among ∙ ap (λ (all : List ListName). lists_looked_up all asked) are)
    )

-- ---- no float

items_none : {A : Type 0} (write : A → Data) → ((a : A) → has_float (write a) ≡ false) → (xs : List A) → items_have_float (items_of (map write xs)) ≡ false
items_none write h [] = refl
items_none write h (x ∷ xs) = rw (h x, items_none write h xs) refl

list_none : {A : Type 0} (write : A → Data) → ((a : A) → has_float (write a) ≡ false) → (xs : List A) → HasNoFloat (list_written write xs)
list_none write h [] = tt
list_none write h (x ∷ xs) = items_none write h (x ∷ xs)

name_parts : ListName → Parts
name_parts name =
    (field.PlatformType, Some (platform_written name.platform))
    ∷ (field.ThreatEntryType, Some (entry_written name.entry))
    ∷ (field.ThreatType, Some (threat_written name.threat)) ∷ []

names_parts : List ListName → Parts
names_parts names = (field.ThreatLists, list_written name_written names) ∷ []

name_none : FloatAsValues → (name : ListName) → has_float (name_written name) ≡ false
unfolding name_parts
name_none none name = none (name_parts name) (refl, (refl, (refl, tt)))

pub names_none : FloatAsValues → (names : List ListName) → has_float (names_written names) ≡ false
unfolding names_parts
names_none none names = none (names_parts names) (list_none name_written (name_none none) names, tt)
