-- Requests that wish the same have one answer.
use Rattle.std.proofs.Common.{◌≡◌, ◌+◌, ◌<◌, ◌≤◌, ℕ, zero, suc, Bool, true, false, not, cond, List, [], ◌∷◌, get_or, length, map, Option, Some, None, refl, sym, ap, ◌∙◌, arith}
use Rattle.std.specs.Prelude.{◌==◌, ◌&&◌, ◌||◌, nat_le, filter, find, if◌then◌else◌, is_some, option_and_then, option_map, IfSome}
use Rattle.std.specs.List.{Any, cons_option, enumerate_from, filter_map, range_with_len}
use Rattle.std.specs.Str.{bytes_eq}
use Rattle.std.specs.declared.cmp.Ordering.{Ordering}
use Rattle.std.specs.declared.cmp.Ordering.TheVariants.{Less, Equal, Greater}
use Rattle.std.specs.Ordering.{match_ordering}
use Rattle.std.proofs.lemmas.Bool.{leb-true, le-leb}
use Rattle.std.proofs.lemmas.List.{length-map}
use Rattle.std.proofs.lemmas.List.FromFn.{length-enumerate_from}
use Rattle.std.proofs.lemmas.Slice.Eq.{bytes_eq-Decides}
use Rattle.sb_model.specs.declared.names.ListName.{ListName}
use Rattle.sb_model.specs.Difference.{difference_count, has_member, removed_places}
use Rattle.sb_model.specs.History.{History, prefix_of, prefixes_at, sizes_at, version_count}
use Rattle.sb_model.specs.Prefixes.{bytes_cmp, set_of, with_member}
use Rattle.sb_model.specs.Target.{can_reach, greatest_up_to, is_within, target_version}
use Rattle.list_versions.specs.Limits.{most_hashes, WithinLimits}
use Rattle.answering_lists.specs.Lists.{answering, is_answered}
use Rattle.update_messages.specs.Answer.{update_for, update_to, version_named}
use Rattle.named_answers.specs.Answers.{asked_of_list, named_fetch_answer, named_update, named_update_for, under_name}
use Rattle.update_messages.specs.Messages.{AskedList, Request, UpdatedList}
use Rattle.update_messages.specs.declared.response.FetchResponse.{FetchResponse}
use Rattle.delta_server.specs.Tokens.{server_naming}
use Rattle.sb_service.specs.declared.wish.Wish.{Wish}
use Rattle.sb_service.specs.Wish.{answered_items, is_free, newest_size, wish_of, wish_of_list, wish_with, wished_answer, wished_update, AreWishesOf}

-- ---- tests

both_true : (a b : Bool) → a ≡ true → b ≡ true → (a && b) ≡ true
both_true true b is more = more
both_true false b is more = absurd (cc)

left_true : (a b : Bool) → (a && b) ≡ true → a ≡ true
left_true true b is = refl
left_true false b is = absurd (cc)

right_true : (a b : Bool) → (a && b) ≡ true → b ≡ true
right_true true b is = is
right_true false b is = absurd (cc)

or_then : (a b c : Bool) → (a || b) ≡ true → (b ≡ true → c ≡ true) → (a || c) ≡ true
or_then true b c is more = refl
or_then false b c is more = more is

within_less : (limit few many : ℕ) → few ≤ many → is_within limit many ≡ true → is_within limit few ≡ true
within_less limit few many less is = go (limit == 0) is
  where
    go : (t : Bool) → (t || nat_le many limit) ≡ true → (t || nat_le few limit) ≡ true
    go true h = refl
    go false h = let below : many ≤ limit = leb-true many limit h in le-leb few limit (omega arith)

-- ---- how many prefixes a version has, and how many two differ by

by_order : (order : Ordering) (x y : List ℕ) (ys rest : List (List ℕ)) → length rest ≤ suc (length ys)
    → length (match_ordering order (x ∷ y ∷ ys) (y ∷ ys) (y ∷ rest)) ≤ suc (suc (length ys))
by_order Less x y ys rest few = omega (arith)
by_order Equal x y ys rest few = omega (arith)
by_order Greater x y ys rest few = omega (arith, few)

one_more : (x : List ℕ) (xs : List (List ℕ)) → length (with_member x xs) ≤ suc (length xs)
one_more x [] = omega (arith)
one_more x (y ∷ ys) = by_order (bytes_cmp x y) x y ys (with_member x ys) (one_more x ys)

no_more : (xs : List (List ℕ)) → length (set_of xs) ≤ length xs
no_more [] = omega (arith)
no_more (x ∷ xs) = let rest = no_more xs in let one = one_more x (set_of xs) in omega (arith, rest, one)

few_kept : {X : Type 0} (p : X → Bool) (xs : List X) → length (filter p xs) ≤ length xs
few_kept p [] = omega (arith)
few_kept p (x ∷ xs) = go (p x) (few_kept p xs)
  where
    go : (b : Bool) → length (filter p xs) ≤ length xs → length (cond b (x ∷ filter p xs) (filter p xs)) ≤ suc (length xs)
    go true few = omega (arith, few)
    go false few = omega (arith, few)

few_removed : (old newer : List (List ℕ)) → length (removed_places old newer) ≤ length old
few_removed old newer =
    let lacks : ℕ × List ℕ → Bool = λ member. not (has_member newer member.1) in
    let whole = length-map (filter lacks (enumerate_from 0 old)) (λ (member : ℕ × List ℕ). member.0) in
    let few = few_kept lacks (enumerate_from 0 old) in
    omega (arith, whole, few, length-enumerate_from 0 old)

differ_in_few : (old newer : List (List ℕ)) → difference_count old newer ≤ length old + length newer
differ_in_few old newer =
    let few = few_removed old newer in
    let more = few_kept (λ (member : List ℕ). not (has_member old member)) newer in
    omega (arith, few, more)

few_at : (history : History) → WithinLimits history → (list : ListName) (version : ℕ) → version ≤ version_count history → length (prefixes_at history list version) ≤ most_hashes
few_at history limits list version within =
    let few = no_more (map prefix_of (sizes_at history list version)) in
    let same = length-map (sizes_at history list version) prefix_of in
    let count = (limits list version within).count in
    omega (arith, few, same, count)

-- ---- the version that an item is brought to

reaches_all : (test : ℕ → Bool) (n : ℕ) → test n ≡ true → greatest_up_to test n ≡ n
reaches_all test zero is = refl
reaches_all test (suc n) is = ap (λ (b : Bool). if b then suc n else greatest_up_to test n) is

free_reaches : (history : History) (asked : AskedList) (held : Option ℕ) → WithinLimits history → IfSome held (λ version. version ≤ version_count history) → is_free history asked held ≡ true
    → can_reach history asked.name held asked.max_update asked.max_database (version_count history) ≡ true
free_reaches history asked None limits within free = free
free_reaches history asked (Some held) limits within free =
    let old : List (List ℕ) = prefixes_at history asked.name held in
    let newer : List (List ℕ) = prefixes_at history asked.name (version_count history) in
    let few = few_at history limits asked.name held within in
    let differ = differ_in_few old newer in
    or_then (version_count history == held) _ _ free (λ both.
    both_true _ _ (both_true _ _ (le-leb held (version_count history) within)
    (within_less asked.max_update (difference_count old newer) (newest_size history asked.name + most_hashes) (omega (arith, few, differ)) (left_true _ _ both)))
    (right_true _ _ both))

-- a version that a state names is one of the history, and the state is its token
record IsNamed (history : History) (asked : AskedList) (held : ℕ) : Type 0 where
  pub within : held ≤ version_count history
  pub token : server_naming history asked.name held ≡ asked.state

found_in : (test : ℕ → Bool) (start count n : ℕ) → find test (range_with_len start count) ≡ Some n → (n < start + count) × (test n ≡ true)
found_in test start zero n found = absurd (cc)
found_in test start (suc count) n found = go (test start) refl found (found_in test (start + 1) count n)
  where
    go : (b : Bool) → test start ≡ b → cond b (Some start) (find test (range_with_len (start + 1) count)) ≡ Some n
        → (find test (range_with_len (start + 1) count) ≡ Some n → (n < start + 1 + count) × (test n ≡ true)) → (n < start + suc count) × (test n ≡ true)
    go true is here more = let same : start ≡ n = cc in (omega (arith, same), ap test (sym same) ∙ is)
    go false is here more = (omega (arith, (more here).0), (more here).1)

named : (history : History) (asked : AskedList) (held : ℕ) → version_named history (server_naming history) asked.name asked.state ≡ Some held → IsNamed history asked held
named history asked held is =
    let found = found_in (λ (version : ℕ). bytes_eq (server_naming history asked.name version) asked.state) 0 (version_count history + 1) held is in
    record {
      within = omega (arith, found.0);
      token = (bytes_eq-Decides (server_naming history asked.name held) asked.state).0 found.1;
    }

-- ---- one item

when_so : (b : Bool) (made wish : Wish) → (if b then Some made else None) ≡ Some wish → (b ≡ true) × (made ≡ wish)
when_so true made wish is = (refl, cc)
when_so false made wish is = absurd (cc)

-- What an item is sent under a name follows from its wish. It asks for the list that answers for that name.
module _ (history : History) (limits : WithinLimits history) (name : ListName) (asked : AskedList) where
  abbrev made : Option ℕ → Wish
  made held = record { name = name; list = asked.name; held = held; rice = asked.rice }

  abbrev target : Option ℕ → ℕ
  target held = target_version history asked.name held asked.max_update asked.max_database

  within : (held : Option ℕ) → version_named history (server_naming history) asked.name asked.state ≡ held → IfSome held (λ version. version ≤ version_count history)
  within None is = tt
  within (Some held) is = (named history asked held is).within

  same_update : (held : Option ℕ) → version_named history (server_naming history) asked.name asked.state ≡ held
      → under_name name (update_to history (server_naming history) asked held (version_count history)) ≡ wished_update history (made held)
  same_update None is = refl
  same_update (Some held) is =
      ap (λ (state : List ℕ). under_name name (update_to history (server_naming history) (record asked { state = state }) (Some held) (version_count history)))
      (sym (named history asked held is).token)

  by_version : (held : Option ℕ) (wish : Wish) → version_named history (server_naming history) asked.name asked.state ≡ held → wish_with history name asked held ≡ Some wish
      → under_name name (update_to history (server_naming history) asked held (target held)) ≡ wished_update history wish
  by_version held wish is has =
      let both = when_so (is_free history asked held) (made held) wish has in
      let newest : target held ≡ version_count history =
      reaches_all (can_reach history asked.name held asked.max_update asked.max_database) (version_count history) (free_reaches history asked held limits (within held is) both.0) in
      ap (λ (version : ℕ). under_name name (update_to history (server_naming history) asked held version)) newest ∙ same_update held is ∙ ap (wished_update history) both.1

  pub wished : (wish : Wish) → wish_with history name asked (version_named history (server_naming history) asked.name asked.state) ≡ Some wish
      → under_name name (update_for history (server_naming history) asked) ≡ wished_update history wish
  wished wish has = by_version (version_named history (server_naming history) asked.name asked.state) wish refl has

-- ---- all items

one_less : {X : Type 0} (x y : X) (xs ys : List X) → ◌≡◌ {A = List X} (x ∷ xs) (y ∷ ys) → (x ≡ y) × (xs ≡ ys)
one_less x y xs ys same = (cc, cc)

module _ (history : History) (limits : WithinLimits history) where
  -- what an item of a list is sent
  one_wished : (asked : AskedList) (list : ListName) (wish : Wish) → answering history asked.name ≡ Some list → wish_of history asked ≡ Some wish
      → named_update history (server_naming history) asked list ≡ wished_update history wish
  one_wished asked list wish is has =
      wished history limits asked.name (asked_of_list list asked) wish (sym (ap (option_and_then (wish_of_list history asked)) is) ∙ has)

  each_wished : (items : List AskedList) (wishes : List Wish) → AreWishesOf history items wishes
      → filter_map (named_update_for history (server_naming history)) items ≡ map (wished_update history) wishes
  each_wished [] [] are = refl
  each_wished [] (wish ∷ wishes) are = absurd (cc)
  each_wished (asked ∷ items) wishes are = go (answering history asked.name) refl wishes (λ others. each_wished items others) are
    where
      go : (o : Option ListName) → answering history asked.name ≡ o → (all : List Wish)
          → ((others : List Wish) → AreWishesOf history items others → filter_map (named_update_for history (server_naming history)) items ≡ map (wished_update history) others)
          → map (wish_of history) (cond (is_some o) (asked ∷ answered_items history items) (answered_items history items)) ≡ map Some all
          → cons_option (option_map (named_update history (server_naming history) asked) o) (filter_map (named_update_for history (server_naming history)) items)
          ≡ map (wished_update history) all
      go None is all rest so = rest all so
      go (Some list) is [] rest so = absurd (cc)
      go (Some list) is (wish ∷ others) rest so =
          let both = one_less (wish_of history asked) (Some wish) (map (wish_of history) (answered_items history items)) (map Some others) so in
          ap (λ (update : UpdatedList). update ∷ filter_map (named_update_for history (server_naming history)) items) (one_wished asked list wish is both.0)
          ∙ ap (λ (updates : List UpdatedList). wished_update history wish ∷ updates) (rest others both.1)

  pub answered : (wait : ℕ) (request : Request) (wishes : List Wish) → AreWishesOf history request.items wishes
      → named_fetch_answer history (server_naming history) wait request ≡ wished_answer history wait wishes
  answered wait request wishes are =
      ap (λ (updates : List UpdatedList). let response : FetchResponse = record { items = updates; wait = (wished_answer history wait wishes).wait } in response)
      (each_wished request.items wishes are)

  pub one_answer : (wait : ℕ) (first second : Request) (wishes : List Wish) → AreWishesOf history first.items wishes → AreWishesOf history second.items wishes
      → named_fetch_answer history (server_naming history) wait first ≡ named_fetch_answer history (server_naming history) wait second
  one_answer wait first second wishes are also = answered wait first wishes are ∙ sym (answered wait second wishes also)

-- ---- an item that has no wish

in_rest : {X : Type 0} (P : X → Type 0) (y : X) (rest : List X) (b : Bool) → Any P rest → Any P (cond b (y ∷ rest) rest)
in_rest P y rest true (k, x, below, at, holds) = (suc k, x, omega (arith, below), at, holds)
in_rest P y rest false some = some

is_first : {X : Type 0} (P : X → Type 0) (y x : X) (rest : List X) (b : Bool) → b ≡ true → y ≡ x → P x → Any P (cond b (y ∷ rest) rest)
is_first P y x rest true passes same holds = (0, x, omega (arith), same, holds)
is_first P y x rest false passes same holds = absurd (cc)

-- what stands at a place and passes a test is among those that pass
among : {X : Type 0} (p : X → Bool) (P : X → Type 0) (xs : List X) (i : ℕ) (x : X) → i < length xs → get_or xs i x ≡ x → p x ≡ true → P x → Any P (filter p xs)
among p P [] i x below here passes holds = absurd (omega (arith, below))
among p P (y ∷ ys) zero x below here passes holds = is_first P y x (filter p ys) (p y) (ap p here ∙ passes) here holds
among p P (y ∷ ys) (suc i) x below here passes holds = in_rest P y (filter p ys) (p y) (among p P ys i x (omega (arith, below)) here passes holds)

pub unwished : (history : History) (items : List AskedList) (i : ℕ) (asked : AskedList) (list : ListName) → i < length items → asked ≡ get_or items i asked
    → answering history asked.name ≡ Some list → wish_of_list history asked list ≡ None → Any (λ (a : AskedList). wish_of history a ≡ None) (answered_items history items)
unwished history items i asked list below is known none =
    among (λ (a : AskedList). is_answered history a.name) (λ (a : AskedList). wish_of history a ≡ None) items i asked below (sym is)
    (ap is_some known) (ap (option_and_then (wish_of_list history asked)) known ∙ none)
