-- No message nests deeply.
use Rattle.std.proofs.Common.{ℕ, ◌+◌, ◌==◌, ◌≤◌, Bool, true, false, if◌then◌else◌, List, [], ◌∷◌, Some, None, arith}
use Rattle.serde_json.specs.Data.{Data, Members, no_members, member, depth, members_depth}
use Rattle.sb_members.specs.Laws.{NestAsValues}
use Rattle.sb_members.specs.Parts.{NestsWithin}
use Rattle.sb_members.specs.Writing.{text_written, duration_written, unless_bare}
use Rattle.update_messages.specs.declared.client.ClientInfo.{ClientInfo}
use Rattle.update_messages.specs.Writing.{client_members}
use Rattle.hash_messages.specs.Writing.{threat_written, platform_written, entry_written}
use Rattle.lookup_messages.specs.declared.response.LookupMatch.{LookupMatch}
use Rattle.lookup_messages.specs.declared.response.LookupResponse.{LookupResponse}
use Rattle.lookup_messages.specs.Messages.{AskedUrls}
use Rattle.lookup_messages.specs.Writing as spec
use Rattle.lookup_messages.proofs.WrittenLists.{list_depth}
use Rattle.lookup_messages.proofs.RequestAgain.{client_parts, url_parts, info_parts, request_parts}
use Rattle.lookup_messages.proofs.ResponseAgain.{match_parts, response_parts}

-- ---- what is flat

-- a string nests nothing
string_flat : (n : ℕ) → 0 ≤ n
string_flat n = omega arith

text_flat : (cs : List ℕ) (n : ℕ) → NestsWithin n (text_written cs)
text_flat [] n = tt
text_flat (c ∷ cs) n = omega arith

duration_flat : (d n : ℕ) → NestsWithin n (duration_written d)
duration_flat d n = chosen (d == 0) _ (omega arith)
  where
    chosen : (b : Bool) (value : Data) → depth value ≤ n → NestsWithin n (if b then None else Some value)
    chosen true value h = tt
    chosen false value h = h

bare_depth : (ms : Members) (n : ℕ) → members_depth ms ≤ n → NestsWithin (n + 1) (unless_bare ms)
bare_depth no_members n h = tt
bare_depth (member k d ms) n h = omega (arith, h)

-- ---- the request

client_depth : NestAsValues → (c : ClientInfo) → NestsWithin 4 (unless_bare (client_members c))
client_depth nest c = bare_depth (client_members c) 3 (nest (client_parts c) 3 (text_flat c.id 3, (text_flat c.version 3, tt)))

url_depth : NestAsValues → (url : List ℕ) → depth (spec.url_written url) ≤ 1
url_depth nest url = omega (arith, nest (url_parts url) 0 (string_flat 0, tt))

info_depth : NestAsValues → (m : AskedUrls) → depth (spec.lookup_info_written m) ≤ 3
info_depth nest m =
    omega (
      arith,
      nest (info_parts m) 2 (
        list_depth platform_written 1 (λ p. string_flat 1) m.platforms,
        (
          list_depth spec.url_written 1 (url_depth nest) m.urls,
          (list_depth entry_written 1 (λ e. string_flat 1) m.entries, (list_depth threat_written 1 (λ t. string_flat 1) m.threats, tt)),
        ),
      ),
    )

pub request_depth : NestAsValues → (m : AskedUrls) → depth (spec.lookup_written m) ≤ 5
request_depth nest m = omega (arith, nest (request_parts m) 4 (client_depth nest m.client, (omega (arith, info_depth nest m), tt)))

-- ---- the response

match_depth : NestAsValues → (found : LookupMatch) → depth (spec.lookup_match_written found) ≤ 2
match_depth nest found =
    omega (
      arith,
      nest (match_parts found) 1
          (duration_flat found.cache 1, (string_flat 1, (url_depth nest found.url, (string_flat 1, (string_flat 1, tt))))),
    )

pub response_depth : NestAsValues → (m : LookupResponse) → depth (spec.lookup_response_written m) ≤ 4
response_depth nest m = omega (arith, nest (response_parts m) 3 (list_depth spec.lookup_match_written 2 (match_depth nest) m.matches, tt))
