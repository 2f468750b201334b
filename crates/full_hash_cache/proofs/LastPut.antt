-- What is kept of a pair is from the last answer that put it.
use Rattle.std.proofs.Common.{◌≡◌, ℕ, zero, suc, ◌-◌, ◌⊎◌, Bool, true, false, cond, nat_eq, List, [], ◌∷◌, take, Contains, Option, Some, None, IfSome, refl, sym, subst, inl, inr, arith}
use Rattle.std.specs.Prelude.{◌&&◌}
use Rattle.std.specs.List.{AllByRecursion}
use Rattle.std.specs.Option.{option_map_or}
use Rattle.std.specs.Str.{bytes_eq}
use Rattle.std.specs.Map.{lookup, lookup_entry, remove_entry}
use Rattle.std.proofs.lemmas.Bool.Decides.{nat_tests}
use Rattle.lru.specs.LruCache.{promoted}
use Rattle.sb_model.specs.declared.names.ListName.{ListName}
use Rattle.sb_model.specs.declared.time.Moment.{Moment}
use Rattle.sb_model.specs.Names.{threat_code, platform_code, entry_code, same_name}
use Rattle.hash_messages.specs.Messages.{AskedHashes}
use Rattle.hash_messages.specs.declared.response.FindResponse.{FindResponse}
use Rattle.full_hash_cache.specs.declared.pair.Pair.{Pair}
use Rattle.full_hash_cache.specs.Cache.{KeptOfPair, Pairs, most_pairs, same_pair, kept_of_pair, asked_pairs, with_pair, put_pair, put_pairs, pairs_asked, taken}
use Rattle.full_hash_cache.specs.Law.{Step, after_steps, PutsPair, IsLastPut}
use Rattle.full_hash_cache.specs.Law.Step.{Takes, Asks}
use Rattle.full_hash_cache.proofs.Told.{here, there, equal_pairs}
use Rattle.full_hash_cache.proofs.Returned.{either_place, in_none, IsFrom, is_from}

-- ---- entries of a pair

if_map : {X : Type 0} (P Q : X → Type 0) → ((x : X) → P x → Q x) → (o : Option X) → IfSome o P → IfSome o Q
if_map P Q f None h = tt
if_map P Q f (Some x) h = f x h

module _ {K V : Type 0} (P : V → Type 0) (test : K → Bool) where
  if_more : (b : Bool) (v : V) (o p : Option V) → (IfSome o P → IfSome p P) → IfSome (cond b (Some v) o) P → IfSome (cond b (Some v) p) P
  if_more true v o p f h = h
  if_more false v o p f h = f h

  if_taken : (n : ℕ) (es : List (K × V)) → IfSome (lookup test es) P → IfSome (lookup test (take n es)) P
  if_taken zero es h = tt
  if_taken (suc n) [] h = tt
  if_taken (suc n) (e ∷ es) h = if_more (test e.0) e.1 (lookup test es) (lookup test (take n es)) (if_taken n es) h

  if_removed : (gone : K → Bool) → ((k : K) → gone k ≡ true → test k ≡ false) → (es : List (K × V)) → IfSome (lookup test es) P → IfSome (lookup test (remove_entry gone es)) P
  if_removed gone apart [] h = tt
  if_removed gone apart (e ∷ es) h = go (gone e.0) refl (if_removed gone apart es)
    where
      go : (b : Bool) → gone e.0 ≡ b → (IfSome (lookup test es) P → IfSome (lookup test (remove_entry gone es)) P)
          → IfSome (lookup test (cond b es (e ∷ remove_entry gone es))) P
      go true is more = subst (λ b. IfSome (cond b (Some e.1) (lookup test es)) P) (apart e.0 is) h
      go false is more = if_more (test e.0) e.1 (lookup test es) (lookup test (remove_entry gone es)) more h

  -- the first entry that passes has the value that is looked up
  if_entry : (es : List (K × V)) → IfSome (lookup test es) P → IfSome (lookup_entry test es) (λ e. P e.1 × (test e.0 ≡ true))
  if_entry [] h = tt
  if_entry (e ∷ es) h = go (test e.0) refl h (if_entry es)
    where
      go : (b : Bool) → test e.0 ≡ b → IfSome (cond b (Some e.1) (lookup test es)) P
          → (IfSome (lookup test es) P → IfSome (lookup_entry test es) (λ e. P e.1 × (test e.0 ≡ true)))
          → IfSome (cond b (Some e) (lookup_entry test es)) (λ e. P e.1 × (test e.0 ≡ true))
      go true is h more = (h, is)
      go false is h more = more h

  if_first : (e : K × V) (es : List (K × V)) → test e.0 ≡ true → P e.1 → IfSome (lookup test (e ∷ es)) P
  if_first e es is p = subst (λ b. IfSome (cond b (Some e.1) (lookup test es)) P) (sym is) p

  if_later : (e : K × V) (es : List (K × V)) → test e.0 ≡ false → IfSome (lookup test es) P → IfSome (lookup test (e ∷ es)) P
  if_later e es is h = subst (λ b. IfSome (cond b (Some e.1) (lookup test es)) P) (sym is) h

  if_promoted : (es : List (K × V)) → IfSome (lookup test es) P → IfSome (lookup test (promoted test es)) P
  if_promoted es h = go (lookup_entry test es) (if_entry es h)
    where
      go : (o : Option (K × V)) → IfSome o (λ e. P e.1 × (test e.0 ≡ true)) → IfSome (lookup test (option_map_or (λ e. e ∷ remove_entry test es) o es)) P
      go None is = h
      go (Some e) is = if_first e (remove_entry test es) is.1 is.0

passes : {K V : Type 0} (test : K → Bool) (es : List (K × V)) → IfSome (lookup_entry test es) (λ e. test e.0 ≡ true)
passes test [] = tt
passes test (e ∷ es) = go (test e.0) refl (passes test es)
  where
    go : (b : Bool) → test e.0 ≡ b → IfSome (lookup_entry test es) (λ e. test e.0 ≡ true) → IfSome (cond b (Some e) (lookup_entry test es)) (λ e. test e.0 ≡ true)
    go true is more = is
    go false is more = more

-- ---- equal pairs

pub same_prefix : (a : List ℕ) → bytes_eq a a ≡ true
same_prefix [] = refl
same_prefix (x ∷ xs) = let same : nat_eq x x ≡ true = grind (arith, nat_tests) in λ i. same i && same_prefix xs i

same_code : (n : ℕ) → nat_eq n n ≡ true
same_code n = grind (arith, nat_tests)

same_list : (a : ListName) → same_name a a ≡ true
same_list a = λ i. same_code (threat_code a.threat) i && same_code (platform_code a.platform) i && same_code (entry_code a.entry) i

pair_itself : (a : Pair) → same_pair a a ≡ true
pair_itself a = λ i. same_list a.list i && same_prefix a.prefix i

-- ---- what is kept of a pair as others are put or asked for

module _ (P : KeptOfPair → Type 0) (pair : Pair) where
  others_apart : (other : Pair) → same_pair pair other ≡ false → (k : Pair) → same_pair other k ≡ true → same_pair pair k ≡ false
  others_apart other apart k is = subst (λ k. same_pair pair k ≡ false) (equal_pairs other k is) apart

  own_put : (pairs : Pairs) (kept : KeptOfPair) → P kept → IfSome (kept_of_pair (with_pair pairs pair kept) pair) P
  own_put pairs kept p = go (lookup_entry (same_pair pair) pairs) (passes (same_pair pair) pairs)
    where
      go : (o : Option (Pair × KeptOfPair)) → IfSome o (λ e. same_pair pair e.0 ≡ true)
          → IfSome (kept_of_pair (option_map_or (λ e. (e.0, kept) ∷ remove_entry (same_pair pair) pairs) o ((pair, kept) ∷ take (most_pairs - 1) pairs)) pair) P
      go None is = if_first P (same_pair pair) (pair, kept) (take (most_pairs - 1) pairs) (pair_itself pair) p
      go (Some e) is = if_first P (same_pair pair) (e.0, kept) (remove_entry (same_pair pair) pairs) is p

  other_put : (pairs : Pairs) (other : Pair) (kept : KeptOfPair) → same_pair pair other ≡ false → IfSome (kept_of_pair pairs pair) P → IfSome (kept_of_pair (with_pair pairs other kept) pair) P
  other_put pairs other kept apart h = go (lookup_entry (same_pair other) pairs) (passes (same_pair other) pairs)
    where
      go : (o : Option (Pair × KeptOfPair)) → IfSome o (λ e. same_pair other e.0 ≡ true)
          → IfSome (kept_of_pair (option_map_or (λ e. (e.0, kept) ∷ remove_entry (same_pair other) pairs) o ((other, kept) ∷ take (most_pairs - 1) pairs)) pair) P
      go None is = if_later P (same_pair pair) (other, kept) (take (most_pairs - 1) pairs) apart (if_taken P (same_pair pair) (most_pairs - 1) pairs h)
      go (Some e) is = if_later P (same_pair pair) (e.0, kept) (remove_entry (same_pair other) pairs) (others_apart other apart e.0 is)
          (if_removed P (same_pair pair) (same_pair other) (others_apart other apart) pairs h)

  other_asked : (pairs : Pairs) (other : Pair) → same_pair pair other ≡ false → IfSome (kept_of_pair pairs pair) P → IfSome (kept_of_pair (asked_pairs pairs other) pair) P
  other_asked pairs other apart h = go (lookup_entry (same_pair other) pairs) (passes (same_pair other) pairs)
    where
      go : (o : Option (Pair × KeptOfPair)) → IfSome o (λ e. same_pair other e.0 ≡ true)
          → IfSome (kept_of_pair (option_map_or (λ e. e ∷ remove_entry (same_pair other) pairs) o pairs) pair) P
      go None is = h
      go (Some e) is = if_later P (same_pair pair) e (remove_entry (same_pair other) pairs) (others_apart other apart e.0 is)
          (if_removed P (same_pair pair) (same_pair other) (others_apart other apart) pairs h)

  still_kept : (pairs : Pairs) (other : Pair) → IfSome (kept_of_pair pairs pair) P → IfSome (kept_of_pair (asked_pairs pairs other) pair) P
  still_kept pairs other h = go (same_pair pair other) refl
    where
      go : (b : Bool) → same_pair pair other ≡ b → IfSome (kept_of_pair (asked_pairs pairs other) pair) P
      go true is = subst (λ k. IfSome (kept_of_pair (asked_pairs pairs k) pair) P) (equal_pairs pair other is) (if_promoted P (same_pair pair) pairs h)
      go false apart = other_asked pairs other apart h

  -- an answer that does not put it
  none_put : (at : Moment) (response : FindResponse) (others : List Pair) (pairs : Pairs) → AllByRecursion (λ other. same_pair pair other ≡ false) others
      → IfSome (kept_of_pair pairs pair) P → IfSome (kept_of_pair (put_pairs at response pairs others) pair) P
  none_put at response [] pairs apart h = h
  none_put at response (other ∷ others) pairs apart h = none_put at response others (put_pair at response pairs other) apart.1 (other_put pairs other _ apart.0 h)

-- ---- an answer that puts it

own_from : (at : Moment) (response : FindResponse) (pairs : Pairs) (pair : Pair) → IfSome (kept_of_pair (put_pair at response pairs pair) pair) (IsFrom pair at response)
own_from at response pairs pair = own_put (IsFrom pair at response) pair pairs _ (is_from pairs pair at response)

still_from : (at : Moment) (response : FindResponse) (pair : Pair) (others : List Pair) (pairs : Pairs)
    → IfSome (kept_of_pair pairs pair) (IsFrom pair at response) → IfSome (kept_of_pair (put_pairs at response pairs others) pair) (IsFrom pair at response)
still_from at response pair [] pairs h = h
still_from at response pair (other ∷ others) pairs h = still_from at response pair others (put_pair at response pairs other) (go (same_pair pair other) refl)
  where
    go : (b : Bool) → same_pair pair other ≡ b → IfSome (kept_of_pair (put_pair at response pairs other) pair) (IsFrom pair at response)
    go true is = subst (λ k. IfSome (kept_of_pair (put_pair at response pairs k) pair) (IsFrom pair at response)) (equal_pairs pair other is) (own_from at response pairs pair)
    go false apart = other_put (IsFrom pair at response) pair pairs other _ apart h

put_from : (at : Moment) (response : FindResponse) (pair : Pair) (asked : List Pair) (pairs : Pairs) → Contains asked pair
    → IfSome (kept_of_pair (put_pairs at response pairs asked) pair) (IsFrom pair at response)
put_from at response pair [] pairs c = absurd (in_none pair c)
put_from at response pair (other ∷ others) pairs c = go (either_place other others pair c) (put_from at response pair others (put_pair at response pairs other))
  where
    after : Pairs
    after = put_pairs at response (put_pair at response pairs other) others

    go : (other ≡ pair) ⊎ Contains others pair → (Contains others pair → IfSome (kept_of_pair after pair) (IsFrom pair at response)) → IfSome (kept_of_pair after pair) (IsFrom pair at response)
    go (inl is) more = still_from at response pair others (put_pair at response pairs other)
        (subst (λ k. IfSome (kept_of_pair (put_pair at response pairs k) pair) (IsFrom pair at response)) (sym is) (own_from at response pairs pair))
    go (inr c) more = more c

-- ---- whether an answer puts it

among : (pair : Pair) (asked : List Pair) → Contains asked pair ⊎ AllByRecursion (λ other. same_pair pair other ≡ false) asked
among pair [] = inr tt
among pair (other ∷ others) = go (same_pair pair other) refl (among pair others)
  where
    go : (b : Bool) → same_pair pair other ≡ b → Contains others pair ⊎ AllByRecursion (λ other. same_pair pair other ≡ false) others
        → Contains (other ∷ others) pair ⊎ AllByRecursion (λ other. same_pair pair other ≡ false) (other ∷ others)
    go true is more = inl (subst (λ k. Contains (k ∷ others) pair) (equal_pairs pair other is) (here pair others))
    go false apart (inl c) = inl (there other others pair c)
    go false apart (inr more) = inr (apart, more)

not_among : (pair : Pair) (asked : List Pair) → AllByRecursion (λ other. same_pair pair other ≡ false) asked → Contains asked pair → ⊥
not_among pair [] apart c = in_none pair c
not_among pair (other ∷ others) apart c = go (either_place other others pair c) (not_among pair others apart.1)
  where
    go : (other ≡ pair) ⊎ Contains others pair → (Contains others pair → ⊥) → ⊥
    go (inl is) more = let itself = subst (λ k. same_pair pair k ≡ false) is apart.0 in cc (itself, pair_itself pair)
    go (inr c) more = more c

-- ---- steps

abbrev IsNotPut : List Step → Pair → Type 0
IsNotPut steps pair = (step : Step) → Contains steps step → PutsPair step pair → ⊥

pub record WasPut (steps : List Step) (pair : Pair) (kept : KeptOfPair) : Type 0 where
  pub at : Moment
  pub response : FindResponse
  pub last_put : IsLastPut steps pair at response
  pub is_from : IsFrom pair at response kept

later_put : (step : Step) (steps : List Step) (pair : Pair) (kept : KeptOfPair) → WasPut steps pair kept → WasPut (step ∷ steps) pair kept
later_put step steps pair kept was = record {
  at = was.at;
  response = was.response;
  last_put = record {
    before = step ∷ was.last_put.before;
    lists = was.last_put.lists;
    asked = was.last_put.asked;
    after = was.last_put.after;
    parted = λ i. step ∷ was.last_put.parted i;
    was_put = was.last_put.was_put;
    is_last = was.last_put.is_last;
  };
  is_from = was.is_from;
}

first_put : (at : Moment) (lists : List ListName) (asked : AskedHashes) (response : FindResponse) (steps : List Step) (pair : Pair) (kept : KeptOfPair)
    → Contains (pairs_asked asked lists) pair → IsNotPut steps pair → IsFrom pair at response kept → WasPut (Takes at lists asked response ∷ steps) pair kept
first_put at lists asked response steps pair kept c apart from = record {
  at = at;
  response = response;
  last_put = record { before = []; lists = lists; asked = asked; after = steps; parted = refl; was_put = c; is_last = apart };
  is_from = from;
}

not_put_more : (step : Step) (steps : List Step) (pair : Pair) → (PutsPair step pair → ⊥) → IsNotPut steps pair → IsNotPut (step ∷ steps) pair
not_put_more step steps pair apart none one c puts = go (either_place step steps one c)
  where
    go : (step ≡ one) ⊎ Contains steps one → ⊥
    go (inl is) = apart (subst (λ s. PutsPair s pair) (sym is) puts)
    go (inr c) = none one c puts

-- what is kept of a pair after some steps was kept before them, and they do not put it, or it is from the last of them that puts it
module _ (pair : Pair) where
  abbrev Came : (KeptOfPair → Type 0) → List Step → KeptOfPair → Type 0
  Came P steps kept = (P kept × IsNotPut steps pair) ⊎ WasPut steps pair kept

  through : (P : KeptOfPair → Type 0) (step : Step) (steps : List Step) → (PutsPair step pair → ⊥) → (kept : KeptOfPair) → Came P steps kept → Came P (step ∷ steps) kept
  through P step steps apart kept (inl before) = inl (before.0, not_put_more step steps pair apart before.1)
  through P step steps apart kept (inr was) = inr (later_put step steps pair kept was)

  from_here : (P : KeptOfPair → Type 0) (at : Moment) (lists : List ListName) (asked : AskedHashes) (response : FindResponse) (steps : List Step) → Contains (pairs_asked asked lists) pair
      → (kept : KeptOfPair) → Came (IsFrom pair at response) steps kept → Came P (Takes at lists asked response ∷ steps) kept
  from_here P at lists asked response steps c kept (inl before) = inr (first_put at lists asked response steps pair kept c before.1 before.0)
  from_here P at lists asked response steps c kept (inr was) = inr (later_put (Takes at lists asked response) steps pair kept was)

  -- after an answer, by what is kept then
  taken_then : (P : KeptOfPair → Type 0) (at : Moment) (lists : List ListName) (asked : AskedHashes) (response : FindResponse) (steps : List Step) (pairs : Pairs) → IfSome (kept_of_pair pairs pair) P
      → (IfSome (kept_of_pair (taken at lists asked response pairs) pair) (IsFrom pair at response)
      → IfSome (kept_of_pair (after_steps (taken at lists asked response pairs) steps) pair) (Came (IsFrom pair at response) steps))
      → (IfSome (kept_of_pair (taken at lists asked response pairs) pair) P → IfSome (kept_of_pair (after_steps (taken at lists asked response pairs) steps) pair) (Came P steps))
      → IfSome (kept_of_pair (after_steps (taken at lists asked response pairs) steps) pair) (Came P (Takes at lists asked response ∷ steps))
  taken_then P at lists asked response steps pairs h own other = go (among pair (pairs_asked asked lists))
    where
      end : Option KeptOfPair
      end = kept_of_pair (after_steps (taken at lists asked response pairs) steps) pair

      go : Contains (pairs_asked asked lists) pair ⊎ AllByRecursion (λ other. same_pair pair other ≡ false) (pairs_asked asked lists)
          → IfSome end (Came P (Takes at lists asked response ∷ steps))
      go (inl c) = if_map (Came (IsFrom pair at response) steps) (Came P (Takes at lists asked response ∷ steps)) (from_here P at lists asked response steps c)
          end (own (put_from at response pair (pairs_asked asked lists) pairs c))
      go (inr apart) = if_map (Came P steps) (Came P (Takes at lists asked response ∷ steps)) (through P (Takes at lists asked response) steps (not_among pair (pairs_asked asked lists) apart))
          end (other (none_put P pair at response (pairs_asked asked lists) pairs apart h))

  came : (steps : List Step) (P : KeptOfPair → Type 0) (pairs : Pairs) → IfSome (kept_of_pair pairs pair) P → IfSome (kept_of_pair (after_steps pairs steps) pair) (Came P steps)
  came [] P pairs h = if_map P (Came P []) (λ kept p. inl (p, λ step c puts. in_none step c)) (kept_of_pair pairs pair) h
  came (Takes at lists asked response ∷ steps) P pairs h =
      taken_then P at lists asked response steps pairs h
      (came steps (IsFrom pair at response) (taken at lists asked response pairs))
      (came steps P (taken at lists asked response pairs))
  came (Asks now other hash ∷ steps) P pairs h = if_map (Came P steps) (Came P (Asks now other hash ∷ steps)) (through P (Asks now other hash) steps (λ puts. puts))
      (kept_of_pair (after_steps (asked_pairs pairs other) steps) pair) (came steps P (asked_pairs pairs other) (still_kept P pair pairs other h))

-- from no pairs on
settled : (steps : List Step) (pair : Pair) (kept : KeptOfPair) → Came pair (λ _. ⊥) steps kept → WasPut steps pair kept
settled steps pair kept (inl before) = absurd before.0
settled steps pair kept (inr was) = was

pub last_put : (steps : List Step) (pair : Pair) → IfSome (kept_of_pair (after_steps [] steps) pair) (WasPut steps pair)
last_put steps pair = if_map (Came pair (λ _. ⊥) steps) (WasPut steps pair) (settled steps pair) (kept_of_pair (after_steps [] steps) pair) (came pair steps (λ _. ⊥) [] tt)
