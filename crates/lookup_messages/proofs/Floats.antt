-- No message has a float.
use Rattle.std.proofs.Common.{◌≡◌, ℕ, Bool, true, false, ◌==◌, if◌then◌else◌, List, [], ◌∷◌, map, Some, None, refl}
use Rattle.serde_json.specs.Data.{Data, Members, no_members, member}
use Rattle.serde_json.specs.View.{items_of}
use Rattle.serde_json.specs.Written.{has_float, items_have_float, members_have_float}
use Rattle.sb_members.specs.Laws.{FloatAsValues}
use Rattle.sb_members.specs.Parts.{HasNoFloat}
use Rattle.sb_members.specs.Writing.{text_written, duration_written, list_written, unless_bare}
use Rattle.update_messages.specs.declared.client.ClientInfo.{ClientInfo}
use Rattle.update_messages.specs.Writing.{client_members}
use Rattle.hash_messages.specs.Writing.{threat_written, platform_written, entry_written}
use Rattle.lookup_messages.specs.declared.response.LookupMatch.{LookupMatch}
use Rattle.lookup_messages.specs.declared.response.LookupResponse.{LookupResponse}
use Rattle.lookup_messages.specs.Messages.{AskedUrls}
use Rattle.lookup_messages.specs.Writing as spec
use Rattle.lookup_messages.proofs.RequestAgain.{client_parts, url_parts, info_parts, request_parts}
use Rattle.lookup_messages.proofs.ResponseAgain.{match_parts, response_parts}

text_none : (cs : List ℕ) → HasNoFloat (text_written cs)
text_none [] = tt
text_none (c ∷ cs) = refl

duration_none : (n : ℕ) → HasNoFloat (duration_written n)
duration_none n = chosen (n == 0) _ refl
  where
    chosen : (b : Bool) (d : Data) → has_float d ≡ false → HasNoFloat (if b then None else Some d)
    chosen true d h = tt
    chosen false d h = h

items_none : {A : Type 0} (write : A → Data) → ((a : A) → has_float (write a) ≡ false) → (xs : List A) → items_have_float (items_of (map write xs)) ≡ false
items_none write h [] = refl
items_none write h (x ∷ xs) = rw (h x, items_none write h xs) refl

list_none : {A : Type 0} (write : A → Data) → ((a : A) → has_float (write a) ≡ false) → (xs : List A) → HasNoFloat (list_written write xs)
list_none write h [] = tt
list_none write h (x ∷ xs) = items_none write h (x ∷ xs)

bare_none : (ms : Members) → members_have_float ms ≡ false → HasNoFloat (unless_bare ms)
bare_none no_members m = tt
bare_none (member k d ms) m = m

-- ---- the request

client_none : FloatAsValues → (c : ClientInfo) → HasNoFloat (unless_bare (client_members c))
client_none none c = bare_none (client_members c) (none (client_parts c) (text_none c.id, (text_none c.version, tt)))

url_none : FloatAsValues → (url : List ℕ) → has_float (spec.url_written url) ≡ false
url_none none url = none (url_parts url) (refl, tt)

info_none : FloatAsValues → (m : AskedUrls) → has_float (spec.lookup_info_written m) ≡ false
info_none none m =
    none (info_parts m) (
      list_none platform_written (λ p. refl) m.platforms,
      (
        list_none spec.url_written (url_none none) m.urls,
        (list_none entry_written (λ e. refl) m.entries, (list_none threat_written (λ t. refl) m.threats, tt)),
      ),
    )

pub request_has_none : FloatAsValues → (m : AskedUrls) → has_float (spec.lookup_written m) ≡ false
request_has_none none m = none (request_parts m) (client_none none m.client, (info_none none m, tt))

-- ---- the response

match_none : FloatAsValues → (found : LookupMatch) → has_float (spec.lookup_match_written found) ≡ false
match_none none found = none (match_parts found) (duration_none found.cache, (refl, (url_none none found.url, (refl, (refl, tt)))))

pub response_has_none : FloatAsValues → (m : LookupResponse) → has_float (spec.lookup_response_written m) ≡ false
response_has_none none m = none (response_parts m) (list_none spec.lookup_match_written (match_none none) m.matches, tt)
