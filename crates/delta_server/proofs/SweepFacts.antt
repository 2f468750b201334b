-- A sweep through the stretches of a list, and what it tells of each version.
use Rattle.std.proofs.Common.{◌≡◌, ℕ, zero, suc, ◌+◌, ◌-◌, ◌*◌, ◌^◌, ◌<◌, ◌≤◌, inl, Bool, true, false, List, [], ◌∷◌, ◌++◌, length, take, drop, get_or, refl, sym, ap, ◌∙◌, arith, length-append, append_assoc, Option, Some, None}
use Rattle.std.specs.Prelude.{◌&&◌, nat_le, nat_lt, if◌then◌else◌}
use Rattle.std.proofs.lemmas.List.{take_more, take-append-drop}
use Rattle.std.proofs.lemmas.Bool.{lt-ltb, ltb-true, le-leb, leb-true}
use Rattle.std.specs.Option.{IfSome, unwrap_or}
use Rattle.sb_model.specs.declared.names.ListName.{ListName}
use Rattle.sb_model.specs.Difference.{has_member, difference_count}
use Rattle.sb_model.specs.History.{History, version_count, prefixes_at}
use Rattle.sb_model.specs.Prefixes.{IsRising, set_of}
use Rattle.sb_model.specs.Target.{is_within, greatest_up_to, target_version}
use Rattle.list_versions.specs.declared.stretch.Stretch.{Stretch}
use Rattle.list_versions.specs.Stretches.{prefix_in, AreInOrder, AreStretches}
use Rattle.delta_server.specs.declared.marks.Marks.{Marks}
use Rattle.delta_server.specs.Sweeping.{is_head_shown, shown_at, shows_first, TellsCounts, NameFourBytes}
use Rattle.delta_server.specs.Walk.{may_take, published, entries_after}
use Rattle.delta_server.proofs.CountFacts.{SetLaws}
use Rattle.delta_server.proofs.MarkFacts.{bit, tells_more}
use Rattle.delta_server.proofs.Membership.{In, in_left, in_right}
use Rattle.delta_server.proofs.SetCounts.{kept, difference_by_shared}
use Rattle.delta_server.proofs.ShownFacts.{same_test, both_true, first_true, second_true, of_all, few_kept, length_shown, kept_shown, held_is, kept_both, shown_is}
use Rattle.delta_server.proofs.TargetFacts.{greatest_step, greatest_within, greatest_from, reach, later, target_none}

-- a list at one of its places
pub pushed_at : (xs : List Stretch) (i : ℕ) (d : Stretch) → i < length xs → take i xs ++ get_or xs i d ∷ [] ≡ take (i + 1) xs
pushed_at xs i d within = sym (take_more xs i d within)

pub split_at : (xs : List Stretch) (i : ℕ) (d : Stretch) → i < length xs → take i xs ++ get_or xs i d ∷ drop (i + 1) xs ≡ xs
split_at xs i d within =
    sym (append_assoc (take i xs) (get_or xs i d ∷ []) (drop (i + 1) xs)) ∙ ap (λ (ys : List Stretch). ys ++ drop (i + 1) xs) (pushed_at xs i d within) ∙ take-append-drop (i + 1) xs

-- versions and their places
place_is : (first begin reach place : ℕ) → first ≤ begin → first ≤ reach
    → (nat_le (begin - first) place && nat_lt place (reach - first)) ≡ (nat_le begin (first + place) && nat_lt (first + place) reach)
place_is first begin reach place low high = same_test (nat_le (begin - first) place && nat_lt place (reach - first)) (nat_le begin (first + place) && nat_lt (first + place) reach)
    (λ h. let a : begin - first ≤ place = leb-true (begin - first) place (first_true _ _ h) in
    let b : place < reach - first = ltb-true place (reach - first) (second_true (nat_le (begin - first) place) _ h) in
    both_true (nat_le begin (first + place)) (nat_lt (first + place) reach) (le-leb begin (first + place) (omega arith)) (lt-ltb (first + place) reach (omega arith)))
    (λ h. let a : begin ≤ first + place = leb-true begin (first + place) (first_true _ _ h) in
    let b : first + place < reach = ltb-true (first + place) reach (second_true (nat_le begin (first + place)) _ h) in
    both_true (nat_le (begin - first) place) (nat_lt place (reach - first)) (le-leb (begin - first) place (omega arith)) (lt-ltb place (reach - first) (omega arith)))

module _ (laws : SetLaws) (done : List Stretch) (s : Stretch) (rest : List Stretch) (order : AreInOrder (done ++ s ∷ rest)) (heads : NameFourBytes (done ++ s ∷ rest))
    (first end begin reach : ℕ) (low : first ≤ begin) (high : first ≤ reach)
    (anew : (version : ℕ) → first ≤ version → version < end → (nat_le begin version && nat_lt version reach) ≡ shows_first done s version) where
  abbrev whole : List Stretch
  whole = done ++ s ∷ rest

  abbrev has_piece : ℕ → Bool
  has_piece place = nat_le (begin - first) place && nat_lt place (reach - first)

  each_head : (t : Stretch) → In t whole → t.head < 2 ^ 32
  each_head t there = of_all (λ u. u.head < 2 ^ 32) whole heads t there

  piece_is : (place : ℕ) → first + place < end → has_piece place ≡ shows_first done s (first + place)
  piece_is place within = place_is first begin reach place low high ∙ anew (first + place) (omega arith) within

  longer : length (done ++ s ∷ []) ≡ length done + 1
  longer = length-append done (s ∷ [])

  -- all prefixes
  pub all_told : (marks : Marks) → length marks.begins.items ≡ end - first + 1
      → TellsCounts marks (length done + 1) (λ place. length (shown_at done (first + place)) + (if has_piece place then 1 else 0))
      → TellsCounts marks (length (done ++ s ∷ [])) (λ place. length (shown_at (done ++ s ∷ []) (first + place)))
  all_told marks long tells = tells_more marks (length done + 1) (length (done ++ s ∷ [])) _ _ (omega (arith, longer)) (λ place within.
      let inside : first + place < end = omega (arith, within, long) in
      length_shown laws done s (λ t there. each_head t (in_left t done (s ∷ rest) there)) (each_head s (in_right s done (s ∷ rest) (inl refl))) (first + place)
      ∙ ap (λ (t : Bool). length (shown_at done (first + place)) + bit t) (sym (piece_is place inside))) tells

  -- the shared ones
  abbrev held : List (List ℕ)
  held = shown_at whole first

  abbrev more_kept : ℕ → Type 0
  more_kept place = kept held (shown_at (done ++ s ∷ []) (first + place)) ≡ kept held (shown_at done (first + place)) + bit (has_piece place && has_member held (prefix_in s))

  kept_more : (place : ℕ) → first + place < end → more_kept place
  kept_more place inside =
      kept_shown laws done s (λ t there. each_head t (in_left t done (s ∷ rest) there)) (each_head s (in_right s done (s ∷ rest) (inl refl))) (first + place) held
      ∙ ap (λ (t : Bool). kept held (shown_at done (first + place)) + bit (t && has_member held (prefix_in s))) (sym (piece_is place inside))

  pub shared_told : (own : Bool) → own ≡ is_head_shown (done ++ s ∷ []) s.head first → (place : ℕ) → first + place < end
      → kept held (shown_at (done ++ s ∷ []) (first + place)) ≡ kept held (shown_at done (first + place)) + bit (own && has_piece place)
  shared_told own is place inside =
      kept_more place inside ∙ ap (λ (n : ℕ). kept held (shown_at done (first + place)) + n) (go (has_piece place) refl)
    where
      go : (t : Bool) → has_piece place ≡ t → bit (t && has_member held (prefix_in s)) ≡ bit (own && t)
      go true shown =
          ap bit (held_is laws done s rest order each_head first (first + place) (omega arith) (sym (piece_is place inside) ∙ shown) ∙ sym is ∙ sym (and_true own))
        where
          and_true : (b : Bool) → (b && true) ≡ b
          and_true true = refl
          and_true false = refl
      go false shown = ap bit (sym (and_false own))
        where
          and_false : (b : Bool) → (b && false) ≡ false
          and_false true = refl
          and_false false = refl

  -- where the prefix is held, its piece is marked
  pub shared_marked : (marks : Marks) → length marks.begins.items ≡ end - first + 1 → true ≡ is_head_shown (done ++ s ∷ []) s.head first
      → TellsCounts marks (length done + 1) (λ place. kept held (shown_at done (first + place)) + (if has_piece place then 1 else 0))
      → TellsCounts marks (length (done ++ s ∷ [])) (λ place. kept held (shown_at (done ++ s ∷ []) (first + place)))
  shared_marked marks long own tells = tells_more marks (length done + 1) (length (done ++ s ∷ [])) _ _ (omega (arith, longer))
      (λ place within. shared_told true own place (omega (arith, within, long))) tells

  -- where it is not, nothing is
  pub shared_left : (marks : Marks) → length marks.begins.items ≡ end - first + 1 → false ≡ is_head_shown (done ++ s ∷ []) s.head first
      → TellsCounts marks (length done) (λ place. kept held (shown_at done (first + place)))
      → TellsCounts marks (length (done ++ s ∷ [])) (λ place. kept held (shown_at (done ++ s ∷ []) (first + place)))
  shared_left marks long own tells = tells_more marks (length done) (length (done ++ s ∷ [])) _ _ (omega (arith, longer))
      (λ place within. let more = shared_told false own place (omega (arith, within, long)) in omega (arith, more)) tells

-- ---- levels

pub may_take_is : SetLaws → (old xs : List (List ℕ)) (held len shared count max_update max_database : ℕ) → IsRising old → held ≡ length old → len ≡ length (set_of xs)
    → shared ≡ kept old (set_of xs) → count ≡ held + len - 2 * shared
    → (is_within max_update count && is_within max_database len) ≡ may_take old max_update max_database (set_of xs)
may_take_is laws old xs held len shared count max_update max_database up held_is len_is shared_is is =
    ap (λ (n : ℕ). is_within max_update n && is_within max_database len) differs ∙ ap (λ (n : ℕ). is_within max_update (difference_count old (set_of xs)) && is_within max_database n) len_is
  where
    both : difference_count old (set_of xs) + 2 * shared ≡ length old + length (set_of xs)
    both = difference_by_shared old (set_of xs) shared (shared_is ∙ sym (kept_both laws old xs up)) shared_is

    differs : count ≡ difference_count old (set_of xs)
    differs = omega (arith, both, held_is, len_is, is)

pub few_shared : (held set : List (List ℕ)) (shared : ℕ) → shared ≡ kept held set → shared ≤ length set
few_shared held set shared is = omega (arith, is, few_kept (has_member held) set)

pub greatest_more : (test : ℕ → Bool) (place old new : ℕ) (b : Bool) → test place ≡ b → old ≡ greatest_up_to test (place - 1) → new ≡ (if b then place else old)
    → new ≡ greatest_up_to test (place + 1 - 1)
greatest_more test zero old new true is before now = now
greatest_more test zero old new false is before now = now ∙ before
greatest_more test (suc place) old new b is before now =
    let back : suc place - 1 ≡ place = omega arith in
    let next : suc place ≡ place + 1 = omega arith in
    let to : place + 1 ≡ suc place + 1 - 1 = omega arith in
    now ∙ ap (λ (k : ℕ). if b then suc place else k) (before ∙ ap (greatest_up_to test) back)
    ∙ ap (λ (k : ℕ). if b then k else greatest_up_to test place) next
    ∙ sym (greatest_step test place b (sym (ap test next) ∙ is)) ∙ ap (greatest_up_to test) to

-- ---- the target

module _ (laws : SetLaws) (versions : History) (list : ListName) (stretches : List Stretch) (are : AreStretches versions list stretches) (max_update max_database : ℕ) where
  abbrev swept : ℕ → ℕ → Bool
  swept first place = may_take (shown_at stretches first) max_update max_database (shown_at stretches (first + place))

  swept_is : (first place : ℕ) → first ≤ version_count versions → place ≤ version_count versions - first
      → swept first place ≡ may_take (prefixes_at versions list first) max_update max_database (prefixes_at versions list (first + place))
  swept_is first place within below =
      sym (ap (λ (set : List (List ℕ)). may_take set max_update max_database (shown_at stretches (first + place))) (shown_is laws versions list stretches first are within))
      ∙ sym (ap (λ (set : List (List ℕ)). may_take (prefixes_at versions list first) max_update max_database set) (shown_is laws versions list stretches (first + place) are (omega arith)))

  pub swept_target : (from : Option ℕ) (taken : ℕ) → IfSome from (λ version. version ≤ version_count versions)
      → taken ≡ greatest_up_to (swept (unwrap_or from 0)) (version_count versions - unwrap_or from 0)
      → unwrap_or from 0 + taken ≡ target_version versions list from max_update max_database
  swept_target None taken within is =
      let start : 0 + taken ≡ taken = omega arith in
      let whole : version_count versions - 0 ≡ version_count versions = omega arith in
      start ∙ is ∙ ap (greatest_up_to (swept 0)) whole
      ∙ greatest_within (swept 0) (λ count. may_take [] max_update max_database (published (entries_after list [] versions.changes count))) (version_count versions) (λ k below.
      swept_is 0 k (omega arith) (omega arith) ∙ ap (λ (n : ℕ). may_take [] max_update max_database (prefixes_at versions list n)) (let same : 0 + k ≡ k = omega arith in same))
      ∙ sym (target_none versions list max_update max_database)
  swept_target (Some version) taken within is =
      let whole : version + (version_count versions - version) ≡ version_count versions = omega arith in
      ap (λ n. version + n) (is ∙ greatest_within (swept version) (later versions list version max_update max_database) (version_count versions - version) (λ k below. swept_is version k within below))
      ∙ sym (greatest_from versions list version max_update max_database (version_count versions - version))
      ∙ ap (greatest_up_to (reach versions list version max_update max_database)) whole

  pub swept_from : (from : Option ℕ) (first end taken : ℕ) → IfSome from (λ version. version ≤ version_count versions) → first ≡ unwrap_or from 0 → end ≡ version_count versions + 1
      → taken ≡ greatest_up_to (swept first) (end - first - 1) → first + taken ≡ target_version versions list from max_update max_database
  swept_from from first end taken within own last is =
      let span : end - first - 1 ≡ version_count versions - first = omega (arith, last) in
      ap (λ n. n + taken) own
      ∙ swept_target from taken within (is ∙ ap (greatest_up_to (swept first)) span ∙ ap (λ (n : ℕ). greatest_up_to (swept n) (version_count versions - n)) own)
