-- A find asks for each of its hits, and an answer that put a pair was asked for it.
use Rattle.std.proofs.Common.{rules, ◌≡◌, ℕ, Bool, true, List, ◌∷◌, map, filter, Contains, refl, sym, subst, arith}
use Rattle.std.specs.Prelude.{◌↔◌, ◌==◌, ◌&&◌, IsTrue}
use Rattle.std.specs.List.{list_any}
use Rattle.std.proofs.lemmas.Bool.Decides.{nat_tests}
use Rattle.std.proofs.lemmas.List.Elements.{Contains-append_right}
use Rattle.sb_model.specs.declared.names.ThreatType.{ThreatType}
use Rattle.sb_model.specs.declared.names.ThreatType.TheVariants as threat
use Rattle.sb_model.specs.declared.names.PlatformType.{PlatformType}
use Rattle.sb_model.specs.declared.names.PlatformType.TheVariants as platform
use Rattle.sb_model.specs.declared.names.EntryType.{EntryType}
use Rattle.sb_model.specs.declared.names.EntryType.TheVariants as entry
use Rattle.sb_model.specs.declared.names.ListName.{ListName}
use Rattle.sb_model.specs.declared.time.Moment.{Moment}
use Rattle.sb_model.specs.History.{History}
use Rattle.sb_model.specs.Names.{threats, threat_code, platforms, platform_code, entries, entry_code}
use Rattle.sb_model.specs.Naming.{Naming}
use Rattle.sb_model.specs.Prefixes.{set_of}
use Rattle.hash_messages.specs.Messages.{AskedHashes}
use Rattle.hash_messages.specs.Matches.{asks_list}
use Rattle.hash_messages.specs.declared.response.FindResponse.{FindResponse}
use Rattle.update_client.specs.Held.{Held}
use Rattle.full_hash_cache.specs.declared.pair.Pair.{Pair}
use Rattle.full_hash_cache.specs.Cache.{pair_of, pairs_of, pairs_asked}
use Rattle.full_hash_cache.specs.Law.{Step, IsNotReturned}
use Rattle.full_hash_cache.specs.Law.Step.{Takes}
use Rattle.url_checker.specs.declared.findings.Hit.{Hit}
use Rattle.url_checker.specs.Resolving.{find_asked}
use Rattle.client_laws.specs.Full.{IsFullIn}
use Rattle.client_laws.specs.Faithful.{IsFaithfulFor, TakenAreFaithful, KeptAreFaithful, pair_of_hit}
use Rattle.client_laws.proofs.Members.{here, in_map, from_map, in_filter, from_filter, from_flat_map, any_of}

-- ---- the answers that put a pair

pub record IsAskedPair (asked : AskedHashes) (pair : Pair) : Type 0 where
  pub list_asked : IsTrue (asks_list asked pair.list)
  pub prefix_asked : Contains asked.prefixes pair.prefix

asked_pair : (asked : AskedHashes) (names : List ListName) (pair : Pair) → Contains (pairs_asked asked names) pair → IsAskedPair asked pair
asked_pair asked names pair h =
    let of = from_flat_map (pairs_of asked.prefixes) (filter (asks_list asked) names) pair h in
    let at = from_map (pair_of of.0) asked.prefixes pair of.2 in
    subst (IsAskedPair asked) at.2 (record { list_asked = (from_filter (asks_list asked) names of.0 of.1).1; prefix_asked = at.1 })

module _ (history : History) (token_at : Naming) (lists : List Held) (steps : List Step) (taken : TakenAreFaithful history token_at lists steps) where
  put_is_faithful : (at : Moment) (names : List ListName) (asked : AskedHashes) (response : FindResponse) (hit : Hit) (hashes : List (List ℕ))
      → Contains steps (Takes at names asked response) → Contains (pairs_asked asked names) (pair_of_hit hit) → IsFullIn history token_at lists hit.list hashes
      → IsFaithfulFor hashes (pair_of_hit hit) response
  put_is_faithful at names asked response hit hashes step put full =
      let is = asked_pair asked names (pair_of_hit hit) put in
      taken at names asked response step hit.list hashes hit.prefix full is.list_asked is.prefix_asked

  last_is_faithful : (now : Moment) (hit : Hit) (hashes : List (List ℕ)) (last : IsNotReturned steps now (pair_of_hit hit) hit.hash) → IsFullIn history token_at lists hit.list hashes
      → IsFaithfulFor hashes (pair_of_hit hit) last.response
  last_is_faithful now hit hashes last full =
      let put = last.last_put in
      let step : Step = Takes last.at put.lists put.asked last.response in
      put_is_faithful last.at put.lists put.asked last.response hit hashes
      (subst (λ all. Contains all step) (sym put.parted) (Contains-append_right put.before (step ∷ put.after) step (here step put.after))) put.was_put full

  pub kept_are_faithful : (now : Moment) (hits : List Hit) → KeptAreFaithful history token_at lists steps now hits
  kept_are_faithful now hits hit hashes member full = record {
    told = λ after. let told = after.told in put_is_faithful told.at told.lists told.asked told.response hit hashes told.was_taken told.was_asked full;
    not_returned = λ last. last_is_faithful now hit hashes last full;
  }

-- ---- the tables of types

threat_is : (t : ThreatType) → Contains threats t
threat_is threat.Malware = (0, omega arith, refl)
threat_is threat.SocialEngineering = (1, omega arith, refl)
threat_is threat.UnwantedSoftware = (2, omega arith, refl)
threat_is threat.PotentiallyHarmfulApplication = (3, omega arith, refl)

platform_is : (p : PlatformType) → Contains platforms p
platform_is platform.Windows = (0, omega arith, refl)
platform_is platform.Linux = (1, omega arith, refl)
platform_is platform.Android = (2, omega arith, refl)
platform_is platform.Osx = (3, omega arith, refl)
platform_is platform.Ios = (4, omega arith, refl)
platform_is platform.AnyPlatform = (5, omega arith, refl)
platform_is platform.AllPlatforms = (6, omega arith, refl)
platform_is platform.Chrome = (7, omega arith, refl)

entry_is : (e : EntryType) → Contains entries e
entry_is entry.Url = (0, omega arith, refl)
entry_is entry.Executable = (1, omega arith, refl)

-- ---- the find of a hit

itself : (n : ℕ) → (n == n) ≡ true
itself n = grind (arith, nat_tests)

all_true : (p q r : Bool) → p ≡ true → q ≡ true → r ≡ true → (p && q && r) ≡ true
all_true p q r a b c = search rules

-- of the types of a table, those that a hit has are kept
type_asked : {T : Type 0} (code : T → ℕ) (table : List T) (type_of : Hit → T) (hits : List Hit) (hit : Hit) → Contains hits hit → Contains table (type_of hit)
    → list_any (λ one. code one == code (type_of hit)) (filter (λ one. list_any (λ (other : Hit). code (type_of other) == code one) hits) table) ≡ true
type_asked code table type_of hits hit member is =
    any_of (λ one. code one == code (type_of hit)) (filter (λ one. list_any (λ (other : Hit). code (type_of other) == code one) hits) table) (type_of hit)
    (in_filter (λ one. list_any (λ (other : Hit). code (type_of other) == code one) hits) table (type_of hit) is
    (any_of (λ (other : Hit). code (type_of other) == code (type_of hit)) hits hit member (itself (code (type_of hit)))))
    (itself (code (type_of hit)))

pub hit_is_asked : (members : (xs : List (List ℕ)) (x : List ℕ) → Contains (set_of xs) x ↔ Contains xs x) (states : List (List ℕ)) (hits : List Hit) (hit : Hit) → Contains hits hit
    → IsAskedPair (find_asked states hits) (pair_of_hit hit)
hit_is_asked members states hits hit member = record {
  list_asked = all_true _ _ _
      (type_asked threat_code threats (λ (one : Hit). one.list.threat) hits hit member (threat_is hit.list.threat))
      (type_asked platform_code platforms (λ (one : Hit). one.list.platform) hits hit member (platform_is hit.list.platform))
      (type_asked entry_code entries (λ (one : Hit). one.list.entry) hits hit member (entry_is hit.list.entry));
  prefix_asked = (members (map (λ (one : Hit). one.prefix) hits) hit.prefix).1 (in_map (λ (one : Hit). one.prefix) hits hit member);
}
