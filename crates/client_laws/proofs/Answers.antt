-- What answers say of hashes.
use Rattle.std.proofs.Common.{◌≡◌, ℕ, ◌*◌, true, List, [], length, take, Contains, refl, sym, subst}
use Rattle.std.specs.Prelude.{◌↔◌, IsTrue}
use Rattle.std.specs.Str.{bytes_eq}
use Rattle.std.proofs.lemmas.List.Folds.{list_any_at}
use Rattle.std.proofs.lemmas.Slice.Eq.{bytes_eq-Decides}
use Rattle.sb_model.specs.declared.names.ListName.{ListName}
use Rattle.sb_model.specs.declared.time.Moment.{Moment}
use Rattle.sb_model.specs.Names.{same_name}
use Rattle.sb_model.specs.History.{History, version_count, declares, full_hashes_at}
use Rattle.hash_prefixes.specs.declared.hashes.FullHash.{FullHash}
use Rattle.hash_messages.specs.Messages.{AskedHashes}
use Rattle.hash_messages.specs.Matches.{asks_list, asks_hash, find_answer, matches_of, IsMatchOf}
use Rattle.hash_messages.specs.declared.response.Match.{Match}
use Rattle.full_hash_cache.specs.declared.pair.Pair.{Pair}
use Rattle.full_hash_cache.specs.declared.pair.Cached.{Cached}
use Rattle.full_hash_cache.specs.declared.pair.Cached.TheVariants.{Unsafe, Safe, Ask}
use Rattle.full_hash_cache.specs.Cache.{pair_of, cached_of}
use Rattle.full_hash_cache.specs.Law.{Step, after_steps, IsToldAfter, IsNotReturned}
use Rattle.client_laws.specs.Rulings.{IsRight}
use Rattle.client_laws.specs.Faithful.{HasMatchOf, AgreeUnder, PairBeginsHash, IsFaithfulFor, RestsOnFaithful}

-- ---- by kept pairs

pub kept_rules : (steps : List Step) (now : Moment) (hashes : List (List ℕ)) (pair : Pair) (hash : FullHash)
    → (cached_of (after_steps [] steps) now pair hash ≡ Unsafe → IsToldAfter steps now pair hash)
    → (cached_of (after_steps [] steps) now pair hash ≡ Safe → IsNotReturned steps now pair hash)
    → PairBeginsHash pair hash → RestsOnFaithful steps now hashes pair hash → IsRight (cached_of (after_steps [] steps) now pair hash) hashes hash
kept_rules steps now hashes pair hash was_told was_not begins rests = go (cached_of (after_steps [] steps) now pair hash) refl
  where
    go : (ruling : Cached) → cached_of (after_steps [] steps) now pair hash ≡ ruling → IsRight ruling hashes hash
    go Unsafe is =
        let told = was_told is in
        (rests.told told hash begins).1
        (record { found = told.told.found; member = told.told.was_returned; of_list = told.told.of_list; of_hash = told.told.of_hash })
    go Safe is = λ held.
        let last = was_not is in
        let returned = (rests.not_returned last hash begins).0 held in
        last.not_returned returned.found returned.member returned.of_list returned.of_hash
    go Ask is = tt

-- ---- by a server

is_asked : (asked : AskedHashes) (prefix : List ℕ) (hash : List ℕ) → Contains asked.prefixes prefix → take (length prefix) hash ≡ prefix → asks_hash asked hash ≡ true
is_asked asked prefix hash member begins =
    list_any_at (λ (p : List ℕ). bytes_eq (take (length p) hash) p) asked.prefixes member.0 prefix member.1
    (subst (λ (p : List ℕ). bytes_eq (take (length p) hash) p ≡ true) (sym member.2) ((bytes_eq-Decides (take (length prefix) hash) prefix).1 begins))

module _ (history : History) (wait cache negative : ℕ) (asked : AskedHashes) (matched : (found : Match) → Contains (matches_of history cache asked) found ↔ IsMatchOf history cache asked found)
    (same : (a b : ListName) → IsTrue (same_name a b) ↔ (a ≡ b)) (list : ListName) where
  abbrev Full : List (List ℕ)
  Full = full_hashes_at history list (version_count history)

  returned_where_held : (prefix : List ℕ) (hash : FullHash) → IsTrue (declares history list) → IsTrue (asks_list asked list) → Contains asked.prefixes prefix → PairBeginsHash (pair_of list prefix) hash
      → Contains Full hash.bytes → HasMatchOf (find_answer history wait cache negative asked) list hash
  returned_where_held prefix hash declared list_asked prefix_asked begins held =
      let found : Match = record { name = list; hash = hash; cache = cache * 1000000000 } in
      record {
        found = found;
        member = (matched found).1 (record {
          declared = declared;
          list_asked = list_asked;
          held = held;
          hash_asked = is_asked asked prefix hash.bytes prefix_asked begins;
          cache_told = refl;
        });
        of_list = (same list list).1 refl;
        of_hash = refl;
      }

  held_where_returned : (hash : FullHash) → HasMatchOf (find_answer history wait cache negative asked) list hash → Contains Full hash.bytes
  held_where_returned hash returned =
      let is = (matched returned.found).0 returned.member in
      subst (λ (h : FullHash). Contains Full h.bytes) returned.of_hash
      (subst (λ (name : ListName). Contains (full_hashes_at history name (version_count history)) returned.found.hash.bytes) ((same returned.found.name list).0 returned.of_list) is.held)

  pub served_is_faithful : (prefix : List ℕ) (hashes : List (List ℕ)) → IsTrue (declares history list) → IsTrue (asks_list asked list) → Contains asked.prefixes prefix
      → AgreeUnder (pair_of list prefix) hashes Full → IsFaithfulFor hashes (pair_of list prefix) (find_answer history wait cache negative asked)
  served_is_faithful prefix hashes declared list_asked prefix_asked agree hash begins = (
    λ held. returned_where_held prefix hash declared list_asked prefix_asked begins ((agree hash begins).0 held),
    λ returned. (agree hash begins).1 (held_where_returned hash returned),
  )
