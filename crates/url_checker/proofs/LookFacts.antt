-- A look-up changes the order of the kept pairs alone, so what is said of a hit stays.
use Rattle.std.proofs.Common.{◌≡◌, ℕ, ◌+◌, ◌<◌, Bool, true, false, cond, List, [], ◌∷◌, ◌++◌, length, take, get_or, map, Option, Some, None, refl, sym, ap, ◌∙◌}
use Rattle.std.specs.Prelude.{◌&&◌, IsTrue, ◌↔◌, filter}
use Rattle.std.specs.Option.{option_map_or}
use Rattle.std.specs.Str.{bytes_eq}
use Rattle.std.specs.Map.{lookup, lookup_entry, remove_entry}
use Rattle.std.proofs.lemmas.Bool.{false≢true}
use Rattle.std.proofs.lemmas.Slice.Eq.{bytes_eq-Decides}
use Rattle.std.proofs.lemmas.List.{take_more, map_more}
use Rattle.std.proofs.lemmas.List.Sums.{fold-append}
use Rattle.lru.specs.LruCache.{promoted}
use Rattle.sb_model.specs.declared.names.ListName.{ListName}
use Rattle.sb_model.specs.declared.time.Moment.{Moment}
use Rattle.sb_model.specs.Names.{same_name}
use Rattle.hash_messages.specs.declared.response.FindResponse.{FindResponse}
use Rattle.full_hash_cache.specs.declared.pair.Pair.{Pair}
use Rattle.full_hash_cache.specs.Cache.{Pairs, KeptOfPair, same_pair, kept_of_pair, said_by_pair, match_end, asked_pairs, pair_of}
use Rattle.full_hash_cache.specs.declared.pair.Cached.{Cached}
use Rattle.full_hash_cache.specs.declared.pair.Cached.TheVariants as cached
use Rattle.url_checker.specs.declared.findings.Hit.{Hit}
use Rattle.url_checker.specs.declared.looking.Looked.{Looked}
use Rattle.url_checker.specs.Resolving.{said_of, is_ask, is_unsafe_by, looked_up_pairs, hits_asked}
use Rattle.url_checker.specs.Looking.{looked_of, asked_in, unsafe_in}

-- ---- the pair that was asked for goes first

module _ (t u : Pair → Bool) (alike : (k : Pair) → t k ≡ true → u k ≡ true → (other : Pair) → u other ≡ t other) where
  -- behind an entry that does not pass, another goes first
  behind : (e f : Pair × KeptOfPair) (rest removed : Pairs) → t e.0 ≡ false → t f.0 ≡ true → (b : Bool) → u f.0 ≡ b
      → cond b (Some f.1) (lookup u removed) ≡ lookup u rest → cond b (Some f.1) (cond (u e.0) (Some e.1) (lookup u removed)) ≡ cond (u e.0) (Some e.1) (lookup u rest)
  behind e f rest removed not_it it true is before =
      before ∙ sym (ap (λ c. cond c (Some e.1) (lookup u rest)) (alike f.0 it is e.0 ∙ not_it))
  behind e f rest removed not_it it false is before = ap (λ (found : Option KeptOfPair). cond (u e.0) (Some e.1) found) before

  passes : (es : Pairs) (f : Pair × KeptOfPair) → lookup_entry t es ≡ Some f → t f.0 ≡ true
  passes [] f h = cc h
  passes (e ∷ es) f h = go (t e.0) refl (passes es f) h
    where
      go : (b : Bool) → t e.0 ≡ b → (lookup_entry t es ≡ Some f → t f.0 ≡ true) → cond b (Some e) (lookup_entry t es) ≡ Some f → t f.0 ≡ true
      go true is more i = let same : e ≡ f = cc i in ap (λ (x : Pair × KeptOfPair). t x.0) (sym same) ∙ is
      go false is more i = more i

  -- what is found of a key is found still
  found_still : (es : Pairs) → lookup u (promoted t es) ≡ lookup u es
  found_still [] = refl
  found_still (e ∷ es) = go (t e.0) refl (lookup_entry t es) refl (found_still es)
    where
      go : (b : Bool) → t e.0 ≡ b → (o : Option (Pair × KeptOfPair)) → lookup_entry t es ≡ o
          → lookup u (option_map_or (λ (f : Pair × KeptOfPair). f ∷ remove_entry t es) o es) ≡ lookup u es
          → lookup u (option_map_or (λ (f : Pair × KeptOfPair). f ∷ cond b es (e ∷ remove_entry t es)) (cond b (Some e) o) (e ∷ es)) ≡ cond (u e.0) (Some e.1) (lookup u es)
      go true is o at before = refl
      go false is None at before = refl
      go false is (Some f) at before = behind e f es (remove_entry t es) is (passes es f at) (u f.0) refl before

-- ---- pairs that are the same as a third

module _ (names : (a b : ListName) → IsTrue (same_name a b) ↔ (a ≡ b)) where
  both_true : (a b : Bool) → (a && b) ≡ true → (a ≡ true) × (b ≡ true)
  both_true true b h = (refl, h)
  both_true false b h = absurd (false≢true h)

  pair_alike : (p q k : Pair) → same_pair p k ≡ true → same_pair q k ≡ true → (other : Pair) → same_pair q other ≡ same_pair p other
  pair_alike p q k first second other =
      let one = both_true (same_name p.list k.list) (bytes_eq p.prefix k.prefix) first in
      let two = both_true (same_name q.list k.list) (bytes_eq q.prefix k.prefix) second in
      let lists : q.list ≡ p.list = (names q.list k.list).0 two.0 ∙ sym ((names p.list k.list).0 one.0) in
      let prefixes : q.prefix ≡ p.prefix = (bytes_eq-Decides q.prefix k.prefix).0 two.1 ∙ sym ((bytes_eq-Decides p.prefix k.prefix).0 one.1) in
      ap (λ list. same_name list other.list && bytes_eq q.prefix other.prefix) lists
      ∙ ap (λ prefix. same_name p.list other.list && bytes_eq prefix other.prefix) prefixes

  kept_still : (pairs : Pairs) (p q : Pair) → kept_of_pair (asked_pairs pairs p) q ≡ kept_of_pair pairs q
  kept_still pairs p q = found_still (same_pair p) (same_pair q) (pair_alike p q) pairs

  said_still : (pairs : Pairs) (p : Pair) (now : Moment) (hit : Hit) → said_of (asked_pairs pairs p) now hit ≡ said_of pairs now hit
  said_still pairs p now hit =
      ap (λ (kept : Option KeptOfPair). option_map_or (λ (one : KeptOfPair). said_by_pair now one.negative_end (match_end one.matches hit.hash)) kept cached.Ask)
      (kept_still pairs p (pair_of hit.list hit.prefix))

  -- what is said of a hit after others were looked up is what was said before
  pub said_after : (pairs : Pairs) (hits : List Hit) (now : Moment) (hit : Hit) → said_of (looked_up_pairs pairs hits) now hit ≡ said_of pairs now hit
  said_after pairs [] now hit = refl
  said_after pairs (first ∷ hits) now hit =
      said_after (asked_pairs pairs (pair_of first.list first.prefix)) hits now hit ∙ said_still pairs (pair_of first.list first.prefix) now hit

-- ---- hits with what is said of them

pub asked_are : (pairs : Pairs) (now : Moment) (hits : List Hit) → asked_in (map (looked_of pairs now) hits) ≡ hits_asked pairs now hits
asked_are pairs now [] = refl
asked_are pairs now (hit ∷ hits) = go (is_ask (said_of pairs now hit)) (asked_are pairs now hits)
  where
    go : (b : Bool) → asked_in (map (looked_of pairs now) hits) ≡ hits_asked pairs now hits
        → map (λ (one : Looked). one.hit) (cond b (looked_of pairs now hit ∷ filter (λ (one : Looked). is_ask one.said) (map (looked_of pairs now) hits)) (filter (λ (one : Looked). is_ask one.said) (map (looked_of pairs now) hits)))
        ≡ cond b (hit ∷ hits_asked pairs now hits) (hits_asked pairs now hits)
    go true more = ap (λ (rest : List Hit). hit ∷ rest) more
    go false more = more

pub unsafe_are : (pairs : Pairs) (now : Moment) (message : Option FindResponse) (hits : List Hit)
    → unsafe_in message (map (looked_of pairs now) hits) ≡ filter (λ hit. is_unsafe_by message (said_of pairs now hit) hit) hits
unsafe_are pairs now message [] = refl
unsafe_are pairs now message (hit ∷ hits) = go (is_unsafe_by message (said_of pairs now hit) hit) (unsafe_are pairs now message hits)
  where
    go : (b : Bool) → unsafe_in message (map (looked_of pairs now) hits) ≡ filter (λ hit. is_unsafe_by message (said_of pairs now hit) hit) hits
        → map (λ (one : Looked). one.hit) (cond b (looked_of pairs now hit ∷ filter (λ (one : Looked). is_unsafe_by message one.said one.hit) (map (looked_of pairs now) hits)) (filter (λ (one : Looked). is_unsafe_by message one.said one.hit) (map (looked_of pairs now) hits)))
        ≡ cond b (hit ∷ filter (λ h. is_unsafe_by message (said_of pairs now h) h) hits) (filter (λ h. is_unsafe_by message (said_of pairs now h) h) hits)
    go true more = ap (λ (rest : List Hit). hit ∷ rest) more
    go false more = more

-- ---- one more hit

module _ (names : (a b : ListName) → IsTrue (same_name a b) ↔ (a ≡ b)) (pairs cache : Pairs) (now : Moment) (hits : List Hit) (i : ℕ) (hit : Hit) (below : i < length hits) (item : hit ≡ get_or hits i hit) (at : cache ≡ looked_up_pairs pairs (take i hits)) where
  pub looked_more : (one : Looked) (old new : List Looked) → one ≡ looked_of cache now hit → old ≡ map (looked_of pairs now) (take i hits) → new ≡ old ++ one ∷ [] → new ≡ map (looked_of pairs now) (take (i + 1) hits)
  looked_more one old new is before pushed =
      let said : said_of cache now hit ≡ said_of pairs now hit = ap (λ (kept : Pairs). said_of kept now hit) at ∙ said_after names pairs (take i hits) now hit in
      let same : one ≡ looked_of pairs now (get_or hits i hit) =
      is ∙ ap (λ (word : Cached). let it : Looked = record { hit = hit; said = word } in it) said ∙ ap (looked_of pairs now) item in
      pushed
      ∙ ap (λ (done : List Looked). done ++ one ∷ []) before
      ∙ ap (λ (last : Looked). map (looked_of pairs now) (take i hits) ++ last ∷ []) same
      ∙ sym (map_more (looked_of pairs now) hits i hit below)

  pub lookups_more : (new : Pairs) → new ≡ looked_up_pairs cache (hit ∷ []) → new ≡ looked_up_pairs pairs (take (i + 1) hits)
  lookups_more new made =
      made
      ∙ ap (λ (kept : Pairs). looked_up_pairs kept (hit ∷ [])) at
      ∙ sym (fold-append (λ kept (one : Hit). asked_pairs kept (pair_of one.list one.prefix)) pairs (take i hits) (hit ∷ []))
      ∙ ap (looked_up_pairs pairs) (ap (λ (last : Hit). take i hits ++ last ∷ []) item ∙ sym (take_more hits i hit below))
