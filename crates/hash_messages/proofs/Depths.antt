-- No message nests deeply.
use Rattle.std.proofs.Common.{ℕ, ◌+◌, ◌==◌, ◌≤◌, Bool, true, false, if◌then◌else◌, List, [], ◌∷◌, Some, None, arith}
use Rattle.serde_json.specs.Data.{Data, Members, no_members, member, depth, members_depth}
use Rattle.sb_members.specs.Laws.{NestAsValues}
use Rattle.sb_members.specs.Parts.{NestsWithin}
use Rattle.sb_members.specs.Writing.{text_written, bytes_written, duration_written, unless_bare}
use Rattle.update_messages.specs.declared.client.ClientInfo.{ClientInfo}
use Rattle.update_messages.specs.Writing as shared
use Rattle.hash_messages.specs.declared.response.Match.{Match}
use Rattle.hash_messages.specs.declared.response.FindResponse.{FindResponse}
use Rattle.hash_messages.specs.Messages.{AskedHashes}
use Rattle.hash_messages.specs.Writing as spec
use Rattle.hash_messages.proofs.WrittenLists.{list_depth}
use Rattle.hash_messages.proofs.RequestAgain.{client_parts, prefix_parts, info_parts, request_parts}
use Rattle.hash_messages.proofs.ResponseAgain.{hash_parts, match_parts, response_parts}

-- ---- what is flat

-- a string nests nothing
string_flat : (n : ℕ) → 0 ≤ n
string_flat n = omega arith

text_flat : (cs : List ℕ) (n : ℕ) → NestsWithin n (text_written cs)
text_flat [] n = tt
text_flat (c ∷ cs) n = omega arith

bytes_flat : (bs : List ℕ) (n : ℕ) → NestsWithin n (bytes_written bs)
bytes_flat [] n = tt
bytes_flat (b ∷ bs) n = omega arith

duration_flat : (d n : ℕ) → NestsWithin n (duration_written d)
duration_flat d n = chosen (d == 0) _ (omega arith)
  where
    chosen : (b : Bool) (value : Data) → depth value ≤ n → NestsWithin n (if b then None else Some value)
    chosen true value h = tt
    chosen false value h = h

bare_depth : (ms : Members) (n : ℕ) → members_depth ms ≤ n → NestsWithin (n + 1) (unless_bare ms)
bare_depth no_members n h = tt
bare_depth (member k d ms) n h = omega (arith, h)

-- ---- the request

client_depth : NestAsValues → (c : ClientInfo) → NestsWithin 4 (unless_bare (shared.client_members c))
client_depth nest c = bare_depth (shared.client_members c) 3 (nest (client_parts c) 3 (text_flat c.id 3, (text_flat c.version 3, tt)))

prefix_depth : NestAsValues → (prefix : List ℕ) → depth (spec.prefix_written prefix) ≤ 1
prefix_depth nest prefix = omega (arith, nest (prefix_parts prefix) 0 (bytes_flat prefix 0, tt))

info_depth : NestAsValues → (m : AskedHashes) → depth (spec.info_written m) ≤ 3
info_depth nest m =
    omega (
      arith,
      nest (info_parts m) 2 (
        list_depth spec.platform_written 1 (λ p. string_flat 1) m.platforms,
        (
          list_depth spec.prefix_written 1 (prefix_depth nest) m.prefixes,
          (
            list_depth spec.entry_written 1 (λ e. string_flat 1) m.entries,
            (list_depth spec.threat_written 1 (λ t. string_flat 1) m.threats, tt),
          ),
        ),
      ),
    )

pub request_depth : NestAsValues → (m : AskedHashes) → depth (spec.find_request_written m) ≤ 5
request_depth nest m =
    omega (
      arith,
      nest (request_parts m) 4 (client_depth nest m.client, (list_depth spec.state_written 3 (λ s. string_flat 3) m.states, (omega (arith, info_depth nest m), tt))),
    )

-- ---- the response

hash_depth : NestAsValues → (hash : List ℕ) → depth (spec.hash_written hash) ≤ 1
hash_depth nest hash = omega (arith, nest (hash_parts hash) 0 (bytes_flat hash 0, tt))

match_depth : NestAsValues → (found : Match) → depth (spec.match_written found) ≤ 2
match_depth nest found =
    omega (
      arith,
      nest (match_parts found) 1
          (duration_flat found.cache 1, (string_flat 1, (hash_depth nest found.hash.bytes, (string_flat 1, (string_flat 1, tt))))),
    )

pub response_depth : NestAsValues → (m : FindResponse) → depth (spec.find_response_written m) ≤ 4
response_depth nest m =
    omega (
      arith,
      nest (response_parts m) 3
          (list_depth spec.match_written 2 (match_depth nest) m.matches, (duration_flat m.wait 3, (duration_flat m.negative 3, tt))),
    )
