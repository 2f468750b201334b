-- The counts of prefixes where one full hash more has a prefix, or one less.
use Rattle.std.proofs.Common.{◌≡◌, ℕ, zero, suc, ◌+◌, ◌-◌, ◌^◌, ◌<◌, ◌≤◌, ◌⊎◌, inl, inr, Bool, true, false, cond, List, [], ◌∷◌, length, map, refl, sym, ap, subst, ◌∙◌, arith, Some, None}
use Rattle.std.specs.Prelude.{◌↔◌, min, filter, Contains, if◌then◌else◌, is_some, IsTrue}
use Rattle.std.specs.Option.{unwrap_or}
use Rattle.std.specs.Str.{bytes_eq}
use Rattle.std.proofs.lemmas.Bool.{false≢true}
use Rattle.sb_model.specs.declared.history.Added.{Added}
use Rattle.sb_model.specs.Difference.{has_member}
use Rattle.sb_model.specs.History.{prefix_of}
use Rattle.sb_model.specs.Prefixes.{IsRising, with_member, set_of}
use Rattle.delta_server.specs.Counts.{value_at_key, Puts, has_prefix, holders_of, count_if_any, Gains, Counts}
use Rattle.delta_server.specs.declared.holders.Holders.{Holders}
use Rattle.delta_server.specs.Walk.{published}
use Rattle.delta_server.proofs.Membership.{In, contains_in, in_contained, in_map, from_map, in_filter, from_filter}
use Rattle.delta_server.proofs.SetCounts.{equal_bytes, same_bytes, in_has, has_not, kept, length-with_member, kept-with_member, known-with_member}

-- what is known of sets
pub record SetLaws : Type 0 where
  pub members : (xs : List (List ℕ)) (x : List ℕ) → Contains (set_of xs) x ↔ Contains xs x
  pub same : (xs ys : List (List ℕ)) → ((x : List ℕ) → Contains xs x ↔ Contains ys x) → set_of xs ≡ set_of ys

-- ---- counts

pub count_counted : (n : ℕ) → unwrap_or (count_if_any n) 0 ≡ n
count_counted zero = refl
count_counted (suc n) = refl

pub some_counted : (n : ℕ) → 0 < n → is_some (count_if_any n) ≡ true
some_counted zero h = absurd (omega arith)
some_counted (suc n) h = refl

pub counted_suc : (n m : ℕ) → m ≡ n + 1 → count_if_any m ≡ Some m
counted_suc n zero h = absurd (omega arith)
counted_suc n (suc m) h = refl

pub none_counted : (n : ℕ) → n ≡ 0 → count_if_any n ≡ None
none_counted n is = ap count_if_any is

-- the counts after the count of one prefix was put
pub put_holders : (before after : List (List ℕ × ℕ)) (q : List ℕ) (from to : List Added) → ((p : List ℕ) → value_at_key before p ≡ count_if_any (holders_of p from))
    → ((p : List ℕ) → bytes_eq q p ≡ false → holders_of p to ≡ holders_of p from) → Puts before after q (count_if_any (holders_of q to))
    → (p : List ℕ) → value_at_key after p ≡ count_if_any (holders_of p to)
put_holders before after q from to counts others puts p =
    puts p ∙ go (bytes_eq q p) refl
  where
    go : (t : Bool) → bytes_eq q p ≡ t → (if t then count_if_any (holders_of q to) else value_at_key before p) ≡ count_if_any (holders_of p to)
    go true is = ap (λ (x : List ℕ). count_if_any (holders_of x to)) (equal_bytes q p is)
    go false is = counts p ∙ sym (ap count_if_any (others p is))

pub gains_other : (fewer more : List Added) (q : List ℕ) → Gains fewer more q → (p : List ℕ) → bytes_eq q p ≡ false → holders_of p more ≡ holders_of p fewer
gains_other fewer more q gains p other = gains.holders p ∙ ap (λ (t : Bool). holders_of p fewer + (if t then 1 else 0)) other ∙ omega arith

pub gains_own : (fewer more : List Added) (q : List ℕ) → Gains fewer more q → holders_of q more ≡ holders_of q fewer + 1
gains_own fewer more q gains = gains.holders q ∙ ap (λ (t : Bool). holders_of q fewer + (if t then 1 else 0)) (same_bytes q q refl)

pub few_holders : (q : List ℕ) (entries : List Added) → holders_of q entries ≤ length entries
few_holders q [] = omega arith
few_holders q (e ∷ es) = go (has_prefix q e) (few_holders q es)
  where
    go : (t : Bool) → holders_of q es ≤ length es → length (cond t (e ∷ filter (has_prefix q) es) (filter (has_prefix q) es)) ≤ suc (length es)
    go true more = omega (arith, more)
    go false more = omega (arith, more)

-- ---- the sets

some_holder : (q : List ℕ) (entries : List Added) → In q (map prefix_of entries) → 0 < holders_of q entries
some_holder q entries h =
    let from : (e : Added) × In e entries × (prefix_of e ≡ q) = from_map prefix_of q entries h in
    go (filter (has_prefix q) entries) from.0 (in_filter (has_prefix q) from.0 entries from.1 (same_bytes (prefix_of from.0) q from.2))
  where
    go : (es : List Added) (e : Added) → In e es → 0 < length es
    go [] e there = absurd there
    go (x ∷ es) e there = omega arith

held_by : (q : List ℕ) (entries : List Added) → 0 < holders_of q entries → In q (map prefix_of entries)
held_by q entries h = go (filter (has_prefix q) entries) h (λ e there. from_filter (has_prefix q) e entries there)
  where
    go : (es : List Added) → 0 < length es → ((e : Added) → In e es → In e entries × (has_prefix q e ≡ true)) → In q (map prefix_of entries)
    go [] none each = absurd (omega arith)
    go (e ∷ es) some each =
        let found : In e entries × (has_prefix q e ≡ true) = each e (inl refl) in
        subst (λ (x : List ℕ). In x (map prefix_of entries)) (equal_bytes (prefix_of e) q found.1) (in_map prefix_of e entries found.0)

module _ (laws : SetLaws) (fewer more : List Added) (q : List ℕ) (gains : Gains fewer more q) where
  pub not_published : holders_of q fewer ≡ 0 → In q (published fewer) → ⊥
  not_published none h =
      let there : In q (map prefix_of fewer) = in_contained q (map prefix_of fewer) ((laws.members (map prefix_of fewer) q).0 (contains_in q (published fewer) h)) in
      let some : 0 < holders_of q fewer = some_holder q fewer there in
      omega arith

  to_more : (x : List ℕ) → In x (map prefix_of fewer) → In x (map prefix_of more)
  to_more x h = let some : 0 < holders_of x fewer = some_holder x fewer h in held_by x more (omega (arith, gains.holders x))

  to_fewer : (x : List ℕ) → bytes_eq q x ≡ false → In x (map prefix_of more) → In x (map prefix_of fewer)
  to_fewer x other h =
      let some : 0 < holders_of x more = some_holder x more h in
      held_by x fewer (omega (arith, gains_other fewer more q gains x other))

  from_more : (x : List ℕ) → In x (map prefix_of more) → (q ≡ x) ⊎ In x (map prefix_of fewer)
  from_more x h = go (bytes_eq q x) refl
    where
      go : (t : Bool) → bytes_eq q x ≡ t → (q ≡ x) ⊎ In x (map prefix_of fewer)
      go true is = inl (equal_bytes q x is)
      go false is = inr (to_fewer x is h)

  own : In q (map prefix_of more)
  own = held_by q more (omega (arith, gains_own fewer more q gains))

  -- the first full hash with a prefix brings it in
  pub published_first : published more ≡ with_member q (published fewer)
  published_first = laws.same (map prefix_of more) (q ∷ map prefix_of fewer) (λ x. (
    λ c. contains_in x (q ∷ map prefix_of fewer) (from_more x (in_contained x (map prefix_of more) c)),
    λ c. contains_in x (map prefix_of more) (back x (in_contained x (q ∷ map prefix_of fewer) c)),
  ))
    where
      back : (x : List ℕ) → (q ≡ x) ⊎ In x (map prefix_of fewer) → In x (map prefix_of more)
      back x (inl same) = subst (λ (y : List ℕ). In y (map prefix_of more)) same own
      back x (inr h) = to_more x h

  -- a further one changes nothing
  pub published_again : 0 < holders_of q fewer → published more ≡ published fewer
  published_again some = laws.same (map prefix_of more) (map prefix_of fewer) (λ x. (
    λ c. contains_in x (map prefix_of fewer) (there x (from_more x (in_contained x (map prefix_of more) c))),
    λ c. contains_in x (map prefix_of more) (to_more x (in_contained x (map prefix_of fewer) c)),
  ))
    where
      there : (x : List ℕ) → (q ≡ x) ⊎ In x (map prefix_of fewer) → In x (map prefix_of fewer)
      there x (inl same) = subst (λ (y : List ℕ). In y (map prefix_of fewer)) same (held_by q fewer some)
      there x (inr h) = h

  -- what the first one changes, beside a held set
  pub record First (held : List (List ℕ)) : Type 0 where
    pub members : length (published more) ≡ length (published fewer) + 1
    pub stay : kept (published more) held ≡ kept (published fewer) held + (if has_member held q then 1 else 0)
    pub known : kept held (published more) ≡ kept held (published fewer) + (if has_member held q then 1 else 0)

  pub first_changes : (held : List (List ℕ)) → IsRising held → holders_of q fewer ≡ 0 → First held
  first_changes held up none = record {
    members = ap length published_first ∙ length-with_member q (published fewer) (not_published none) ∙ omega arith;
    stay = ap (λ (s : List (List ℕ)). kept s held) published_first ∙ kept-with_member q (published fewer) held up (not_published none);
    known = ap (λ (s : List (List ℕ)). kept held s) published_first ∙ known-with_member q (published fewer) held (not_published none);
  }

-- what a test for a held prefix tells
pub has_held : (held : List (List ℕ)) (q : List ℕ) (found : Bool) → (IsTrue found ↔ Contains held q) → has_member held q ≡ found
has_held held q true tells = in_has held q (in_contained q held (tells.0 refl))
has_held held q false tells = has_not held q (λ h. false≢true (tells.1 (contains_in q held h)))

-- ---- where the count of a prefix is put

-- One full hash more has a prefix: its count rises by one.
pub enters : (laws : SetLaws) (before after : List (List ℕ × ℕ)) (q : List ℕ) (fewer more : List Added) (count value : ℕ) → Gains fewer more q
    → length more < 2 ^ 63 → ((p : List ℕ) → value_at_key before p ≡ count_if_any (holders_of p fewer)) → count ≡ unwrap_or (value_at_key before q) 0
    → value ≡ min (count + 1) (2 ^ 64 - 1) → Puts before after q (Some value) → (p : List ℕ) → value_at_key after p ≡ count_if_any (holders_of p more)
enters laws before after q fewer more count value gains few counts is bounded puts =
    let own : count ≡ holders_of q fewer = is ∙ ap (λ o. unwrap_or o 0) (counts q) ∙ count_counted (holders_of q fewer) in
    let all : holders_of q more ≡ holders_of q fewer + 1 = gains_own fewer more q gains in
    let next : value ≡ holders_of q more = omega (arith, few_holders q more, few, own, all, bounded) in
    put_holders before after q fewer more counts (gains_other fewer more q gains)
    (subst (Puts before after q) (ap Some next ∙ sym (counted_suc (holders_of q fewer) (holders_of q more) all)) puts)

-- the map is as long as there are prefixes
pub enters_len : (laws : SetLaws) (before after : List (List ℕ × ℕ)) (q : List ℕ) (fewer more : List Added) → Gains fewer more q
    → ((p : List ℕ) → value_at_key before p ≡ count_if_any (holders_of p fewer)) → length before ≡ length (published fewer)
    → length after ≡ length before + (if is_some (value_at_key before q) then 0 else 1) → (held : List (List ℕ)) → IsRising held → length after ≡ length (published more)
enters_len laws before after q fewer more gains counts before_len after_len held up = go (holders_of q fewer) refl
  where
    go : (n : ℕ) → holders_of q fewer ≡ n → length after ≡ length (published more)
    go zero none =
        let new : is_some (value_at_key before q) ≡ false = ap is_some (counts q ∙ ap count_if_any none) in
        let first : length (published more) ≡ length (published fewer) + 1 = (first_changes laws fewer more q gains held up none).members in
        omega (arith, after_len ∙ ap (λ (t : Bool). length before + (if t then 0 else 1)) new, before_len, first)
    go (suc n) some =
        let there : is_some (value_at_key before q) ≡ true = ap is_some (counts q ∙ ap count_if_any some) in
        let again : published more ≡ published fewer = published_again laws fewer more q gains (omega (arith, some)) in
        omega (arith, after_len ∙ ap (λ (t : Bool). length before + (if t then 0 else 1)) there, before_len, ap length again)

pub nothing_held : (held : List (List ℕ)) → 0 ≡ kept [] held
nothing_held [] = refl
nothing_held (h ∷ hs) = nothing_held hs

add_back : (a b c : ℕ) → a + c ≡ b + c → a ≡ b
add_back a b c is = omega arith

-- the count that is found is the count of the full hashes
pub count_is : (entries : List (List ℕ × ℕ)) (q : List ℕ) (of : List Added) (count : ℕ) → ((p : List ℕ) → value_at_key entries p ≡ count_if_any (holders_of p of))
    → count ≡ unwrap_or (value_at_key entries q) 0 → count ≡ holders_of q of
count_is entries q of count counts is = is ∙ ap (λ o. unwrap_or o 0) (counts q) ∙ count_counted (holders_of q of)

shared_few : (set held : List (List ℕ)) → kept set held ≤ length held
shared_few set [] = omega arith
shared_few set (h ∷ hs) = go (has_member set h) (shared_few set hs)
  where
    go : (t : Bool) → kept set hs ≤ length hs → length (cond t (h ∷ filter (has_member set) hs) (filter (has_member set) hs)) ≤ suc (length hs)
    go true more = omega (arith, more)
    go false more = omega (arith, more)

module _ (laws : SetLaws) (now after : Holders) (q : List ℕ) (fewer more : List Added) (gains : Gains fewer more q) (up : IsRising now.held.now) (same : after.held.now ≡ now.held.now) where
  -- what a full hash that comes does to the count of shared prefixes
  pub record Shares (before later : ℕ) : Type 0 where
    pub first : holders_of q fewer ≡ 0 → later ≡ before + (if has_member now.held.now q then 1 else 0)
    pub again : 0 < holders_of q fewer → later ≡ before

  stays : (before later : ℕ) → Shares before later → (before ≡ kept (published fewer) now.held.now) → later ≡ kept (published more) now.held.now
  stays before later shares is = go (holders_of q fewer) refl
    where
      go : (n : ℕ) → holders_of q fewer ≡ n → later ≡ kept (published more) now.held.now
      go zero none =
          shares.first none ∙ ap (λ k. k + (if has_member now.held.now q then 1 else 0)) is
          ∙ sym (first_changes laws fewer more q gains now.held.now up none).stay
      go (suc n) some =
          let there : 0 < holders_of q fewer = omega (arith, some) in
          shares.again there ∙ is ∙ sym (ap (λ (s : List (List ℕ)). kept s now.held.now) (published_again laws fewer more q gains there))

  knows : (before later : ℕ) → Shares before later → (before ≡ kept now.held.now (published fewer)) → later ≡ kept now.held.now (published more)
  knows before later shares is = go (holders_of q fewer) refl
    where
      go : (n : ℕ) → holders_of q fewer ≡ n → later ≡ kept now.held.now (published more)
      go zero none =
          shares.first none ∙ ap (λ k. k + (if has_member now.held.now q then 1 else 0)) is
          ∙ sym (first_changes laws fewer more q gains now.held.now up none).known
      go (suc n) some =
          let there : 0 < holders_of q fewer = omega (arith, some) in
          shares.again there ∙ is ∙ sym (ap (λ (s : List (List ℕ)). kept now.held.now s) (published_again laws fewer more q gains there))

  -- one full hash more
  pub gained : Counts now fewer → ((p : List ℕ) → value_at_key after.counts.entries p ≡ count_if_any (holders_of p more)) → length after.counts.entries ≡ length (published more)
      → Shares now.shared after.shared → Counts after more
  gained counts found long shares = record {
    holders = found;
    members = long;
    stay = stays now.shared after.shared shares counts.stay ∙ ap (λ (h : List (List ℕ)). kept (published more) h) (sym same);
    known = knows now.shared after.shared shares counts.known ∙ ap (λ (h : List (List ℕ)). kept h (published more)) (sym same);
  }

  back_stays : (before later : ℕ) → Shares later before → (before ≡ kept (published more) now.held.now) → later ≡ kept (published fewer) now.held.now
  back_stays before later shares is = go (holders_of q fewer) refl
    where
      go : (n : ℕ) → holders_of q fewer ≡ n → later ≡ kept (published fewer) now.held.now
      go zero none = add_back later (kept (published fewer) now.held.now) (if has_member now.held.now q then 1 else 0)
          (sym (shares.first none) ∙ is ∙ (first_changes laws fewer more q gains now.held.now up none).stay)
      go (suc n) some =
          let there : 0 < holders_of q fewer = omega (arith, some) in
          sym (shares.again there) ∙ is ∙ ap (λ (s : List (List ℕ)). kept s now.held.now) (published_again laws fewer more q gains there)

  back_knows : (before later : ℕ) → Shares later before → (before ≡ kept now.held.now (published more)) → later ≡ kept now.held.now (published fewer)
  back_knows before later shares is = go (holders_of q fewer) refl
    where
      go : (n : ℕ) → holders_of q fewer ≡ n → later ≡ kept now.held.now (published fewer)
      go zero none = add_back later (kept now.held.now (published fewer)) (if has_member now.held.now q then 1 else 0)
          (sym (shares.first none) ∙ is ∙ (first_changes laws fewer more q gains now.held.now up none).known)
      go (suc n) some =
          let there : 0 < holders_of q fewer = omega (arith, some) in
          sym (shares.again there) ∙ is ∙ ap (λ (s : List (List ℕ)). kept now.held.now s) (published_again laws fewer more q gains there)

  -- one full hash less
  pub lost : Counts now more → ((p : List ℕ) → value_at_key after.counts.entries p ≡ count_if_any (holders_of p fewer)) → length after.counts.entries ≡ length (published fewer)
      → Shares after.shared now.shared → Counts after fewer
  lost counts found long shares = record {
    holders = found;
    members = long;
    stay = back_stays now.shared after.shared shares counts.stay ∙ ap (λ (h : List (List ℕ)). kept (published fewer) h) (sym same);
    known = back_knows now.shared after.shared shares counts.known ∙ ap (λ (h : List (List ℕ)). kept h (published fewer)) (sym same);
  }

-- a shared count has room for one more
pub shared_room : (now : Holders) (entries : List Added) → Counts now entries → (limit : ℕ) → length now.held.now ≤ limit → now.shared ≤ limit
shared_room now entries counts limit few = omega (arith, counts.stay, shared_few (published entries) now.held.now, few)

-- where a prefix that is held was counted, it is shared
pub shared_some : (now : Holders) (entries : List Added) → Counts now entries → (q : List ℕ) → In q now.held.now → 0 < holders_of q entries → (laws : SetLaws) → 0 < now.shared
shared_some now entries counts q there some laws =
    let own : In q (published entries) = in_contained q (published entries) ((laws.members (map prefix_of entries) q).1 (contains_in q (map prefix_of entries) (held_by q entries some))) in
    let kept_there : In q (filter (has_member (published entries)) now.held.now) = in_filter (has_member (published entries)) q now.held.now there (in_has (published entries) q own) in
    omega (arith, counts.stay, go (filter (has_member (published entries)) now.held.now) kept_there)
  where
    go : (ms : List (List ℕ)) → In q ms → 0 < length ms
    go [] h = absurd h
    go (m ∷ ms) h = omega arith

-- ---- where one full hash less has a prefix

-- what is left of its count
pub left_is : (before : List (List ℕ × ℕ)) (q : List ℕ) (fewer more : List Added) (left : ℕ) → Gains fewer more q
    → ((p : List ℕ) → value_at_key before p ≡ count_if_any (holders_of p more)) → left ≡ unwrap_or (value_at_key before q) 0 - 1 → left ≡ holders_of q fewer
left_is before q fewer more left gains counts is =
    let own : unwrap_or (value_at_key before q) 0 ≡ holders_of q more = count_is before q more _ counts refl in
    omega (arith, gains_own fewer more q gains, own, is)

-- its count falls by one
pub leaves : (before after : List (List ℕ × ℕ)) (q : List ℕ) (fewer more : List Added) (left : ℕ) → Gains fewer more q
    → ((p : List ℕ) → value_at_key before p ≡ count_if_any (holders_of p more)) → left ≡ holders_of q fewer → Puts before after q (count_if_any left)
    → (p : List ℕ) → value_at_key after p ≡ count_if_any (holders_of p fewer)
leaves before after q fewer more left gains counts is puts =
    put_holders before after q more fewer counts (λ p other. sym (gains_other fewer more q gains p other))
    (subst (λ (n : ℕ). Puts before after q (count_if_any n)) is puts)

-- the map has the prefix
pub there_before : (before : List (List ℕ × ℕ)) (q : List ℕ) (fewer more : List Added) → Gains fewer more q → ((p : List ℕ) → value_at_key before p ≡ count_if_any (holders_of p more))
    → is_some (value_at_key before q) ≡ true
there_before before q fewer more gains counts = ap is_some (counts q) ∙ some_counted (holders_of q more) (omega (arith, gains_own fewer more q gains))

-- the map is as long as there are prefixes left
pub leaves_len : (laws : SetLaws) (before after : List (List ℕ × ℕ)) (q : List ℕ) (fewer more : List Added) (left : ℕ) → Gains fewer more q
    → ((p : List ℕ) → value_at_key before p ≡ count_if_any (holders_of p more)) → length before ≡ length (published more) → left ≡ holders_of q fewer
    → length after + (if is_some (value_at_key before q) then 1 else 0) ≡ length before + (if is_some (count_if_any left) then 1 else 0)
    → (held : List (List ℕ)) → IsRising held → length after ≡ length (published fewer)
leaves_len laws before after q fewer more left gains counts before_len is after_len held up = go (holders_of q fewer) refl
  where
    whole : length after + 1 ≡ length before + (if is_some (count_if_any (holders_of q fewer)) then 1 else 0)
    whole =
        sym (ap (λ (t : Bool). length after + (if t then 1 else 0)) (there_before before q fewer more gains counts)) ∙ after_len
        ∙ ap (λ (n : ℕ). length before + (if is_some (count_if_any n) then 1 else 0)) is

    go : (n : ℕ) → holders_of q fewer ≡ n → length after ≡ length (published fewer)
    go zero none =
        let own = whole ∙ ap (λ (n : ℕ). length before + (if is_some (count_if_any n) then 1 else 0)) none in
        let first : length (published more) ≡ length (published fewer) + 1 = (first_changes laws fewer more q gains held up none).members in
        omega (arith, own, before_len, first)
    go (suc n) some =
        let own = whole ∙ ap (λ (n : ℕ). length before + (if is_some (count_if_any n) then 1 else 0)) some in
        let again : published more ≡ published fewer = published_again laws fewer more q gains (omega (arith, some)) in
        omega (arith, own, before_len, ap length again)
