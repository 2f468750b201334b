-- No message has a float.
use Rattle.std.proofs.Common.{◌≡◌, ℕ, Bool, true, false, ◌==◌, if◌then◌else◌, List, [], ◌∷◌, map, Some, None, refl}
use Rattle.serde_json.specs.Data.{Data, Members, no_members, member}
use Rattle.serde_json.specs.View.{items_of}
use Rattle.serde_json.specs.Written.{has_float, items_have_float, members_have_float}
use Rattle.sb_members.specs.Laws.{FloatAsValues}
use Rattle.sb_members.specs.Parts.{HasNoFloat}
use Rattle.sb_members.specs.Writing.{text_written, bytes_written, duration_written, list_written, unless_bare}
use Rattle.update_messages.specs.declared.client.ClientInfo.{ClientInfo}
use Rattle.update_messages.specs.Writing as shared
use Rattle.hash_messages.specs.declared.response.Match.{Match}
use Rattle.hash_messages.specs.declared.response.FindResponse.{FindResponse}
use Rattle.hash_messages.specs.Messages.{AskedHashes}
use Rattle.hash_messages.specs.Writing as spec
use Rattle.hash_messages.proofs.RequestAgain.{client_parts, prefix_parts, info_parts, request_parts}
use Rattle.hash_messages.proofs.ResponseAgain.{hash_parts, match_parts, response_parts}

bytes_none : (bs : List ℕ) → HasNoFloat (bytes_written bs)
bytes_none [] = tt
bytes_none (b ∷ bs) = refl

text_none : (cs : List ℕ) → HasNoFloat (text_written cs)
text_none [] = tt
text_none (c ∷ cs) = refl

duration_none : (n : ℕ) → HasNoFloat (duration_written n)
duration_none n = chosen (n == 0) _ refl
  where
    chosen : (b : Bool) (d : Data) → has_float d ≡ false → HasNoFloat (if b then None else Some d)
    chosen true d h = tt
    chosen false d h = h

items_none : {A : Type 0} (write : A → Data) → ((a : A) → has_float (write a) ≡ false) → (xs : List A) → items_have_float (items_of (map write xs)) ≡ false
items_none write h [] = refl
items_none write h (x ∷ xs) = rw (h x, items_none write h xs) refl

list_none : {A : Type 0} (write : A → Data) → ((a : A) → has_float (write a) ≡ false) → (xs : List A) → HasNoFloat (list_written write xs)
list_none write h [] = tt
list_none write h (x ∷ xs) = items_none write h (x ∷ xs)

bare_none : (ms : Members) → members_have_float ms ≡ false → HasNoFloat (unless_bare ms)
bare_none no_members m = tt
bare_none (member k d ms) m = m

-- ---- the request

client_none : FloatAsValues → (c : ClientInfo) → HasNoFloat (unless_bare (shared.client_members c))
client_none none c = bare_none (shared.client_members c) (none (client_parts c) (text_none c.id, (text_none c.version, tt)))

prefix_none : FloatAsValues → (prefix : List ℕ) → has_float (spec.prefix_written prefix) ≡ false
prefix_none none prefix = none (prefix_parts prefix) (bytes_none prefix, tt)

info_none : FloatAsValues → (m : AskedHashes) → has_float (spec.info_written m) ≡ false
info_none none m =
    none (info_parts m) (
      list_none spec.platform_written (λ p. refl) m.platforms,
      (
        list_none spec.prefix_written (prefix_none none) m.prefixes,
        (
          list_none spec.entry_written (λ e. refl) m.entries,
          (list_none spec.threat_written (λ t. refl) m.threats, tt),
        ),
      ),
    )

pub request_has_none : FloatAsValues → (m : AskedHashes) → has_float (spec.find_request_written m) ≡ false
request_has_none none m = none (request_parts m) (client_none none m.client, (list_none spec.state_written (λ s. refl) m.states, (info_none none m, tt)))

-- ---- the response

hash_none : FloatAsValues → (hash : List ℕ) → has_float (spec.hash_written hash) ≡ false
hash_none none hash = none (hash_parts hash) (bytes_none hash, tt)

match_none : FloatAsValues → (found : Match) → has_float (spec.match_written found) ≡ false
match_none none found = none (match_parts found) (duration_none found.cache, (refl, (hash_none none found.hash.bytes, (refl, (refl, tt)))))

pub response_has_none : FloatAsValues → (m : FindResponse) → has_float (spec.find_response_written m) ≡ false
response_has_none none m = none (response_parts m) (list_none spec.match_written (match_none none) m.matches, (duration_none m.wait, (duration_none m.negative, tt)))
