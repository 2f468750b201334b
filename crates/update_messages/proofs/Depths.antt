-- No message nests deeply.
use Rattle.std.proofs.Common.{ℕ, ◌+◌, ◌==◌, ◌≤◌, Bool, true, false, if◌then◌else◌, List, [], ◌∷◌, Some, None, arith}
use Rattle.serde_json.specs.Data.{Data, number, unsigned, Members, no_members, member, depth, members_depth}
use Rattle.std.specs.Prelude.{codes}
use Rattle.sb_json.specs.declared.fields.Field.{Field}
use Rattle.sb_json.specs.declared.fields.Field.TheVariants as field
use Rattle.sb_members.specs.Laws.{NestAsValues}
use Rattle.sb_members.specs.Parts.{NestsWithin, AllWithin}
use Rattle.sb_members.specs.Writing.{text_written, bytes_written, number_written, long_written, duration_written, unless_bare}
use Rattle.rice_coding.specs.declared.record.RiceRecord.{RiceRecord}
use Rattle.update_messages.specs.declared.client.ClientInfo.{ClientInfo}
use Rattle.update_messages.specs.declared.sets.Additions.{Additions}
use Rattle.update_messages.specs.declared.sets.Additions.TheVariants as added
use Rattle.update_messages.specs.declared.sets.Removals.{Removals}
use Rattle.update_messages.specs.declared.sets.Removals.TheVariants as removed
use Rattle.update_messages.specs.declared.response.FetchResponse.{FetchResponse}
use Rattle.update_messages.specs.Messages.{AskedList, Request, UpdatedList}
use Rattle.update_messages.specs.Writing as spec
use Rattle.update_messages.proofs.WrittenLists.{list_depth}
use Rattle.update_messages.proofs.RequestAgain.{constraint_parts, asked_parts, client_parts, request_parts}
use Rattle.update_messages.proofs.ResponseAgain.{rice_parts, hashes_parts, indices_parts, set_parts, checksum_parts, later_parts, update_parts, response_parts}

-- ---- what is flat

chosen_flat : (b : Bool) (d : Data) (n : ℕ) → depth d ≤ n → NestsWithin n (if b then None else Some d)
chosen_flat true d n h = tt
chosen_flat false d n h = h

text_flat : (cs : List ℕ) (n : ℕ) → NestsWithin n (text_written cs)
text_flat [] n = tt
text_flat (c ∷ cs) n = omega arith

bytes_flat : (bs : List ℕ) (n : ℕ) → NestsWithin n (bytes_written bs)
bytes_flat [] n = tt
bytes_flat (b ∷ bs) n = omega arith

number_flat : (k n : ℕ) → NestsWithin n (number_written k)
number_flat k n = chosen_flat (k == 0) (number (unsigned k)) n (omega arith)

long_flat : (k n : ℕ) → NestsWithin n (long_written k)
long_flat k n = chosen_flat (k == 0) _ n (omega arith)

duration_flat : (k n : ℕ) → NestsWithin n (duration_written k)
duration_flat k n = chosen_flat (k == 0) _ n (omega arith)

-- a string nests nothing
word_flat : (n : ℕ) → 0 ≤ n
word_flat n = omega arith

words_flat : (raw rice : Bool) → NestsWithin 1 (spec.compressions_written raw rice)
words_flat true true = omega arith
words_flat true false = omega arith
words_flat false true = omega arith
words_flat false false = tt

bare_depth : (ms : Members) (n : ℕ) → members_depth ms ≤ n → NestsWithin (n + 1) (unless_bare ms)
bare_depth no_members n h = tt
bare_depth (member k d ms) n h = omega (arith, h)

-- ---- the request

constraints_depth : NestAsValues → (a : AskedList) → members_depth (spec.constraint_members a) ≤ 1
constraints_depth nest a = nest (constraint_parts a) 1 (number_flat a.max_database 1, (number_flat a.max_update 1, (words_flat a.raw a.rice, tt)))

asked_depth : NestAsValues → (a : AskedList) → depth (spec.asked_written a) ≤ 3
asked_depth nest a =
    omega (
      arith,
      nest (asked_parts a) 2 (bare_depth (spec.constraint_members a) 1 (constraints_depth nest a), (word_flat 2, (bytes_flat a.state 2, (word_flat 2, (word_flat 2, tt))))),
    )

client_depth : NestAsValues → (c : ClientInfo) → NestsWithin 4 (unless_bare (spec.client_members c))
client_depth nest c = bare_depth (spec.client_members c) 3 (nest (client_parts c) 3 (text_flat c.id 3, (text_flat c.version 3, tt)))

pub request_depth : NestAsValues → (m : Request) → depth (spec.request_written m) ≤ 5
request_depth nest m = omega (arith, nest (request_parts m) 4 (client_depth nest m.client, (list_depth spec.asked_written 3 (asked_depth nest) m.items, tt)))

-- ---- the response

rice_depth : NestAsValues → (r : RiceRecord) → depth (spec.rice_written r) ≤ 1
rice_depth nest r = omega (arith, nest (rice_parts r) 0 (bytes_flat r.coded 0, (long_flat r.first 0, (number_flat r.count 0, (number_flat r.parameter 0, tt)))))

hashes_depth : NestAsValues → (size : ℕ) (bytes : List ℕ) → depth (spec.hashes_written size bytes) ≤ 1
hashes_depth nest size bytes = omega (arith, nest (hashes_parts size bytes) 0 (number_flat size 0, (bytes_flat bytes 0, tt)))

index_depth : (n : ℕ) → depth (number (unsigned n)) ≤ 0
index_depth n = omega arith

indices_depth : NestAsValues → (places : List ℕ) → depth (spec.indices_written places) ≤ 2
indices_depth nest places = omega (arith, nest (indices_parts places) 1 (list_depth (λ (n : ℕ). number (unsigned n)) 0 index_depth places, tt))

set_depth : NestAsValues → (word : List ℕ) (name : Field) (d : Data) (n : ℕ) → depth d ≤ n → depth (spec.set_written word name d) ≤ n + 1
set_depth nest word name d n h = omega (arith, nest (set_parts word name d) n (word_flat n, (h, tt)))

addition_depth : NestAsValues → (a : Additions) → depth (spec.addition_written a) ≤ 3
addition_depth nest (added.Raw size bytes) =
    set_depth nest (codes "RAW") field.RawHashes (spec.hashes_written size bytes) 2 (omega (arith, hashes_depth nest size bytes))
addition_depth nest (added.Rice r) = set_depth nest (codes "RICE") field.RiceHashes (spec.rice_written r) 2 (omega (arith, rice_depth nest r))

removal_depth : NestAsValues → (a : Removals) → depth (spec.removal_written a) ≤ 3
removal_depth nest (removed.Raw places) = set_depth nest (codes "RAW") field.RawIndices (spec.indices_written places) 2 (indices_depth nest places)
removal_depth nest (removed.Rice r) = set_depth nest (codes "RICE") field.RiceIndices (spec.rice_written r) 2 (omega (arith, rice_depth nest r))

checksum_depth : NestAsValues → (digest : List ℕ) → depth (spec.checksum_written digest) ≤ 4
checksum_depth nest digest = omega (arith, nest (checksum_parts digest) 0 (bytes_flat digest 0, tt))

later_within : NestAsValues → (u : UpdatedList) → AllWithin 4 (later_parts u)
later_within nest u = (word_flat 4, (list_depth spec.removal_written 3 (removal_depth nest) u.removals, (word_flat 4, (word_flat 4, (word_flat 4, tt)))))

update_within : NestAsValues → (u : UpdatedList) → AllWithin 4 (update_parts u)
update_within nest u =
    (list_depth spec.addition_written 3 (addition_depth nest) u.additions, (bytes_flat u.base 4, (checksum_depth nest u.checksum, (bytes_flat u.new_state 4, later_within nest u))))

update_depth : NestAsValues → (u : UpdatedList) → depth (spec.update_written u) ≤ 5
update_depth nest u = omega (arith, nest (update_parts u) 4 (update_within nest u))

pub response_depth : NestAsValues → (m : FetchResponse) → depth (spec.response_written m) ≤ 7
response_depth nest m = omega (arith, nest (response_parts m) 6 (list_depth spec.update_written 5 (update_depth nest) m.items, (duration_flat m.wait 6, tt)))
