-- What a resolution says of hits.
use Rattle.std.proofs.Common.{rules, ◌≡◌, ℕ, Bool, true, false, List, [], ◌∷◌, map, filter, Contains, Option, Some, None, Result, Ok, Err, refl, sym, ap, ◌∙◌, subst}
use Rattle.std.specs.Prelude.{◌↔◌, ◌&&◌, IsTrue, if◌then◌else◌}
use Rattle.std.specs.Str.{bytes_eq}
use Rattle.std.proofs.lemmas.Bool.{false≢true}
use Rattle.std.proofs.lemmas.Slice.Eq.{bytes_eq-Decides}
use Rattle.sb_model.specs.declared.names.ListName.{ListName}
use Rattle.sb_model.specs.declared.time.Moment.{Moment}
use Rattle.sb_model.specs.Names.{same_name}
use Rattle.hash_prefixes.specs.declared.hashes.FullHash.{FullHash}
use Rattle.hash_messages.specs.declared.response.Match.{Match}
use Rattle.hash_messages.specs.declared.response.FindResponse.{FindResponse}
use Rattle.full_hash_cache.specs.Cache.{Pairs}
use Rattle.full_hash_cache.specs.declared.pair.Cached.{Cached}
use Rattle.full_hash_cache.specs.declared.pair.Cached.TheVariants.{Unsafe, Safe, Ask}
use Rattle.verdict_report.specs.declared.verdicts.Cause.{Cause}
use Rattle.url_checker.specs.declared.findings.Hit.{Hit}
use Rattle.url_checker.specs.Resolving.{said_of, is_ask, hits_asked, is_returned, is_unsafe_by, message_in, unsafe_lists, open_cause}
use Rattle.client_laws.specs.Rulings.{Rulings, IsRight, IsNoneOpen, IsCalledUnsafe}
use Rattle.client_laws.specs.Faithful.{HasMatchOf, PairBeginsHash, IsFaithfulFor, pair_of_hit}
use Rattle.client_laws.specs.Resolved.{ruling_by}
use Rattle.client_laws.proofs.Members.{here, nothing, in_map, from_map, in_filter, from_filter, any_found, any_of}
use Rattle.client_laws.proofs.NameOrder.{in_names, from_names}

-- ---- whether a message has a hit

both_true : (p q : Bool) → (p && q) ≡ true → (p ≡ true) × (q ≡ true)
both_true p q h = search rules

and_true : (p q : Bool) → p ≡ true → q ≡ true → (p && q) ≡ true
and_true p q a b = search rules

abbrev has_hit : Hit → Match → Bool
has_hit hit found = same_name found.name hit.list && bytes_eq found.hash.bytes hit.hash.bytes

returned_of : (message : FindResponse) (hit : Hit) → is_returned message hit ≡ true → HasMatchOf message hit.list hit.hash
returned_of message hit h =
    let found = any_found (has_hit hit) message.matches h in
    let parts = both_true _ _ found.2 in
    let same = (bytes_eq-Decides found.0.hash.bytes hit.hash.bytes).0 parts.1 in
    record { found = found.0; member = found.1; of_list = parts.0; of_hash = λ i. record { bytes = same i } }

is_returned_of : (message : FindResponse) (hit : Hit) → HasMatchOf message hit.list hit.hash → is_returned message hit ≡ true
is_returned_of message hit returned =
    any_of (has_hit hit) message.matches returned.found returned.member
    (and_true _ _ returned.of_list ((bytes_eq-Decides returned.found.hash.bytes hit.hash.bytes).1 (ap (λ (hash : FullHash). hash.bytes) returned.of_hash)))

-- ---- what is said in the end is right

got_rules : (message : FindResponse) (hit : Hit) (hashes : List (List ℕ)) → IsFaithfulFor hashes (pair_of_hit hit) message → PairBeginsHash (pair_of_hit hit) hit.hash
    → IsRight (ruling_by (Some message) Ask hit) hashes hit.hash
got_rules message hit hashes faithful begins = go (is_returned message hit) refl
  where
    go : (b : Bool) → is_returned message hit ≡ b → IsRight (if b then Unsafe else Safe) hashes hit.hash
    go true is = (faithful hit.hash begins).1 (returned_of message hit is)
    go false is = λ held. false≢true (sym is ∙ is_returned_of message hit ((faithful hit.hash begins).0 held))

pub ruling_is_right : (answer : Result FindResponse Cause) (hit : Hit) (hashes : List (List ℕ)) (kept : Cached) → IsRight kept hashes hit.hash
    → ((message : FindResponse) → answer ≡ Ok message → kept ≡ Ask → IsFaithfulFor hashes (pair_of_hit hit) message) → PairBeginsHash (pair_of_hit hit) hit.hash
    → IsRight (ruling_by (message_in answer) kept hit) hashes hit.hash
ruling_is_right answer hit hashes Unsafe right faithful begins = right
ruling_is_right answer hit hashes Safe right faithful begins = right
ruling_is_right (Ok message) hit hashes Ask right faithful begins = got_rules message hit hashes (faithful message refl refl) begins
ruling_is_right (Err cause) hit hashes Ask right faithful begins = tt

-- ---- the unsafe hits

unsafe_is : (message : Option FindResponse) (kept : Cached) (hit : Hit) → is_unsafe_by message kept hit ≡ true → ruling_by message kept hit ≡ Unsafe
unsafe_is message Unsafe hit h = refl
unsafe_is message Safe hit h = absurd (false≢true h)
unsafe_is None Ask hit h = absurd (false≢true h)
unsafe_is (Some message) Ask hit h = go (is_returned message hit) h
  where
    go : (b : Bool) → b ≡ true → (if b then Unsafe else Safe) ≡ Unsafe
    go true is = refl
    go false is = absurd (false≢true is)

is_unsafe : (message : Option FindResponse) (kept : Cached) (hit : Hit) → ruling_by message kept hit ≡ Unsafe → is_unsafe_by message kept hit ≡ true
is_unsafe message Unsafe hit h = refl
is_unsafe message Safe hit h = cc h
is_unsafe None Ask hit h = cc h
is_unsafe (Some message) Ask hit h = go (is_returned message hit) h
  where
    go : (b : Bool) → (if b then Unsafe else Safe) ≡ Unsafe → b ≡ true
    go true is = refl
    go false is = cc is

module _ (pairs : Pairs) (now : Moment) (message : Option FindResponse) (hits : List Hit) where
  abbrev Said : Rulings
  Said hit = ruling_by message (said_of pairs now hit) hit

  abbrev is_bad : Hit → Bool
  is_bad hit = is_unsafe_by message (said_of pairs now hit) hit

  pub named_are_called : (name : ListName) → Contains (unsafe_lists pairs now message hits) name → IsCalledUnsafe hits Said name
  named_are_called name h =
      let on = from_map (λ (hit : Hit). hit.list) (filter is_bad hits) name (from_names (map (λ (hit : Hit). hit.list) (filter is_bad hits)) name h) in
      let passed = from_filter is_bad hits on.0 on.1 in
      record { hit = on.0; member = passed.0; on_list = on.2; unsafe = unsafe_is message (said_of pairs now on.0) on.0 passed.1 }

  pub called_are_named : ((a b : ListName) → IsTrue (same_name a b) ↔ (a ≡ b)) → (name : ListName) → IsCalledUnsafe hits Said name → Contains (unsafe_lists pairs now message hits) name
  called_are_named same name called =
      let hit = called.hit in
      let kept = in_filter is_bad hits hit called.member (is_unsafe message (said_of pairs now hit) hit called.unsafe) in
      subst (Contains (unsafe_lists pairs now message hits)) called.on_list
      (in_names same (map (λ (hit : Hit). hit.list) (filter is_bad hits)) hit.list (in_map (λ (hit : Hit). hit.list) (filter is_bad hits) hit kept))

-- ---- the open hits

ask_is : (kept : Cached) → is_ask kept ≡ true → kept ≡ Ask
ask_is Unsafe h = absurd (false≢true h)
ask_is Safe h = absurd (false≢true h)
ask_is Ask h = refl

open_was_asked : (message : Option FindResponse) (kept : Cached) (hit : Hit) → ruling_by message kept hit ≡ Ask → kept ≡ Ask
open_was_asked message Unsafe hit h = h
open_was_asked message Safe hit h = h
open_was_asked message Ask hit h = refl

never_open : (message : FindResponse) (kept : Cached) (hit : Hit) → ruling_by (Some message) kept hit ≡ Ask → ⊥
never_open message Unsafe hit h = cc h
never_open message Safe hit h = cc h
never_open message Ask hit h = go (is_returned message hit) h
  where
    go : (b : Bool) → (if b then Unsafe else Safe) ≡ Ask → ⊥
    go true is = cc is
    go false is = cc is

no_cause : (answer : Result FindResponse Cause) (asked : List Hit) → ((cause : Cause) → answer ≡ Err cause → (hit : Hit) → Contains asked hit → ⊥) → open_cause answer asked ≡ None
no_cause (Ok message) [] none = refl
no_cause (Ok message) (hit ∷ asked) none = refl
no_cause (Err cause) [] none = refl
no_cause (Err cause) (hit ∷ asked) none = absurd (none cause refl hit (here hit asked))

a_cause : (answer : Result FindResponse Cause) (asked : List Hit) (hit : Hit) (kept : Cached) → Contains asked hit → ruling_by (message_in answer) kept hit ≡ Ask → open_cause answer asked ≡ None → ⊥
a_cause answer [] hit kept member left none = nothing hit member
a_cause (Ok message) (other ∷ asked) hit kept member left none = never_open message kept hit left
a_cause (Err cause) (other ∷ asked) hit kept member left none = cc none

module _ (pairs : Pairs) (now : Moment) (answer : Result FindResponse Cause) (hits : List Hit) where
  abbrev is_asked : Hit → Bool
  is_asked hit = is_ask (said_of pairs now hit)

  abbrev Decided : Rulings
  Decided hit = ruling_by (message_in answer) (said_of pairs now hit) hit

  pub none_open_no_cause : IsNoneOpen hits Decided → open_cause answer (hits_asked pairs now hits) ≡ None
  none_open_no_cause none = no_cause answer (hits_asked pairs now hits) (λ cause is hit member.
      let passed = from_filter is_asked hits hit member in
      none hit passed.0
      (ap (λ (a : Result FindResponse Cause). ruling_by (message_in a) (said_of pairs now hit) hit) is
      ∙ ap (λ (kept : Cached). ruling_by None kept hit) (ask_is (said_of pairs now hit) passed.1)))

  pub no_cause_none_open : open_cause answer (hits_asked pairs now hits) ≡ None → IsNoneOpen hits Decided
  no_cause_none_open none hit member left =
      let was = open_was_asked (message_in answer) (said_of pairs now hit) hit left in
      a_cause answer (hits_asked pairs now hits) hit (said_of pairs now hit) (in_filter is_asked hits hit member (ap is_ask was)) left none
