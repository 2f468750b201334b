-- The matches of the lists that answer, under the names for which they answer.
use Rattle.std.proofs.Common.{◌≡◌, ℕ, ◌*◌, Bool, true, false, cond, List, [], ◌∷◌, ◌++◌, length, map, take, filter, flat_map, Contains, Option, Some, None, inl, inr, refl, sym, ap, ◌∙◌, subst, append-nil}
use Rattle.std.specs.Prelude.{◌&&◌, ◌||◌, ◌==◌, ◌↔◌, IsTrue, is_some, if◌then◌else◌}
use Rattle.std.specs.Cmp.{IsTotalOrder}
use Rattle.std.specs.List.{list_any, AllByRecursion}
use Rattle.std.specs.List.Sorted.{IsStrictlySortedBy}
use Rattle.std.specs.Option.{option_map_or}
use Rattle.std.specs.Str.{bytes_eq}
use Rattle.std.specs.declared.cmp.Ordering.TheVariants.{Less, Equal}
use Rattle.std.proofs.lemmas.Bool.{and_parts}
use Rattle.std.proofs.lemmas.Cmp.{nat_cmp_total, on_total, then_total, tied_itself}
use Rattle.std.proofs.lemmas.List.Elements.{filter-append}
use Rattle.std.proofs.lemmas.List.Folds.{list_any-append}
use Rattle.std.proofs.lemmas.Map.Keys.{sorted_head, sorted_tail}
use Rattle.sb_model.specs.declared.names.ListName.{ListName}
use Rattle.sb_model.specs.declared.names.PlatformType.{PlatformType}
use Rattle.sb_model.specs.declared.names.PlatformType.TheVariants as platform
use Rattle.sb_model.specs.History.{History, declares, full_hashes_at, version_count}
use Rattle.sb_model.specs.Names.{same_name, name_cmp, threat_code, platform_code, entry_code}
use Rattle.sb_model.specs.Prefixes.{set_of}
use Rattle.answering_lists.specs.Lists.{answered_names, answering, for_any_platform, is_answered}
use Rattle.hash_messages.specs.Matches.{all_names, asks_list, find_answer, hashes_asked, lists_asked, matches_in, matches_of}
use Rattle.hash_messages.specs.Messages.{AskedHashes}
use Rattle.hash_messages.specs.declared.response.FindResponse.{FindResponse}
use Rattle.hash_messages.specs.declared.response.Match.{Match}
use Rattle.named_answers.specs.Answers.{named_find_answer, named_matches, named_matches_in, names_asked}
use Rattle.named_answers.specs.Naming.{is_match_in, match_under, matches_under, matches_of_list, AsksForAnyToo}
use Rattle.named_answers.proofs.Items.{answers_by, declared_if_answering}
use Rattle.named_answers.proofs.Members.{cases, nothing, in_filter, from_filter}

-- two names with the same codes are one
abbrev pub NamesLaw : Type 0
NamesLaw = (a b : ListName) → IsTrue (same_name a b) ↔ (a ≡ b)

-- the lists that are asked rise
abbrev pub ListsLaw : Type 0
ListsLaw = (history : History) (asked : AskedHashes) → IsStrictlySortedBy name_cmp (lists_asked history asked)

-- the names for which lists answer are those
abbrev pub AnsweredLaw : Type 0
AnsweredLaw = (history : History) (name : ListName) → Contains (answered_names history) name ↔ (is_answered history name ≡ true)

-- ---- one name among names that rise

name_total : IsTotalOrder name_cmp
name_total =
    then_total (on_total (λ (name : ListName). threat_code name.threat) nat_cmp_total)
    (then_total (on_total (λ (name : ListName). platform_code name.platform) nat_cmp_total) (on_total (λ (name : ListName). entry_code name.entry) nat_cmp_total))

not_below_itself : (x : ListName) → name_cmp x x ≡ Less → ⊥
not_below_itself x less = let itself : name_cmp x x ≡ Equal = tied_itself name_total x in cc

held_by_member : (P : ListName → Type 0) (ys : List ListName) (x : ListName) → AllByRecursion P ys → Contains ys x → P x
held_by_member P [] x all h = absurd (nothing x h)
held_by_member P (y ∷ ys) x all h = elim (cases y x ys h) [
  | inl same ↦ subst P same all.0
  | inr later ↦ held_by_member P ys x all.1 later
]

module _ (law : NamesLaw) where
  -- a name that is not another has other codes
  other_codes : (y x : ListName) → (y ≡ x → ⊥) → same_name y x ≡ false
  other_codes y x differ = go (same_name y x) refl
    where
      go : (b : Bool) → same_name y x ≡ b → b ≡ false
      go true is = absurd (differ ((law y x).0 is))
      go false is = refl

  none_same : (x : ListName) (ys : List ListName) → AllByRecursion (λ y. name_cmp x y ≡ Less) ys → filter (λ y. same_name y x) ys ≡ []
  none_same x [] above = refl
  none_same x (y ∷ ys) above =
      ap (λ (b : Bool). cond b (y ∷ filter (λ z. same_name z x) ys) (filter (λ z. same_name z x) ys))
      (other_codes y x (λ same. not_below_itself x (subst (λ (z : ListName). name_cmp x z ≡ Less) same above.0)))
      ∙ none_same x ys above.1

  -- among names that rise each stands once
  picked : (x : ListName) (ys : List ListName) → IsStrictlySortedBy name_cmp ys → Contains ys x → filter (λ y. same_name y x) ys ≡ x ∷ []
  picked x [] sorted h = absurd (nothing x h)
  picked x (y ∷ ys) sorted h = elim (cases y x ys h) [
    | inl same ↦
        ap (λ (b : Bool). cond b (y ∷ filter (λ z. same_name z x) ys) (filter (λ z. same_name z x) ys)) ((law y x).1 same)
        ∙ ap (λ (zs : List ListName). y ∷ zs) (none_same x ys (subst (λ (z : ListName). AllByRecursion (λ w. name_cmp z w ≡ Less) ys) same (sorted_head name_cmp y ys sorted)))
        ∙ ap (λ (z : ListName). z ∷ []) same
    | inr later ↦
        ap (λ (b : Bool). cond b (y ∷ filter (λ z. same_name z x) ys) (filter (λ z. same_name z x) ys))
        (other_codes y x (λ same. not_below_itself x
        (subst (λ (z : ListName). name_cmp z x ≡ Less) same (held_by_member (λ w. name_cmp y w ≡ Less) ys x (sorted_head name_cmp y ys sorted) later))))
        ∙ picked x ys (sorted_tail name_cmp y ys sorted) later
  ]

-- ---- the matches of one list among those of all

module _ (history : History) (cache : ℕ) (wider : AskedHashes) (list : ListName) where
  abbrev made : ListName → List ℕ → Match
  made name hash = record { name = name; hash = record { bytes = hash }; cache = cache * 1000000000 }

  kept_or_not : (y : ListName) (b : Bool) → same_name y list ≡ b → (hashes : List (List ℕ)) → filter (is_match_in list) (map (made y) hashes) ≡ cond b (map (made y) hashes) []
  kept_or_not y true is [] = refl
  kept_or_not y false is [] = refl
  kept_or_not y true is (hash ∷ hashes) =
      ap (λ (b : Bool). cond b (made y hash ∷ filter (is_match_in list) (map (made y) hashes)) (filter (is_match_in list) (map (made y) hashes))) is
      ∙ ap (λ (ms : List Match). made y hash ∷ ms) (kept_or_not y true is hashes)
  kept_or_not y false is (hash ∷ hashes) =
      ap (λ (b : Bool). cond b (made y hash ∷ filter (is_match_in list) (map (made y) hashes)) (filter (is_match_in list) (map (made y) hashes))) is
      ∙ kept_or_not y false is hashes

  opened : (y : ListName) (rest : List ListName) (b : Bool) → flat_map (matches_in history cache wider) (cond b (y ∷ rest) rest)
      ≡ cond b (matches_in history cache wider y) [] ++ flat_map (matches_in history cache wider) rest
  opened y rest true = refl
  opened y rest false = refl

  narrowed : (ys : List ListName) → filter (is_match_in list) (flat_map (matches_in history cache wider) ys)
      ≡ flat_map (matches_in history cache wider) (filter (λ y. same_name y list) ys)
  narrowed [] = refl
  narrowed (y ∷ ys) =
      filter-append (is_match_in list) (matches_in history cache wider y) (flat_map (matches_in history cache wider) ys)
      ∙ ap (λ (ms : List Match). ms ++ filter (is_match_in list) (flat_map (matches_in history cache wider) ys))
      (kept_or_not y (same_name y list) refl (hashes_asked history wider y))
      ∙ ap (λ (ms : List Match). cond (same_name y list) (matches_in history cache wider y) [] ++ ms) (narrowed ys)
      ∙ sym (opened y (filter (λ z. same_name z list) ys) (same_name y list))

  of_list : NamesLaw → ListsLaw → Contains (lists_asked history wider) list → filter (is_match_in list) (matches_of history cache wider) ≡ matches_in history cache wider list
  of_list law rise h =
      narrowed (lists_asked history wider)
      ∙ ap (flat_map (matches_in history cache wider)) (picked law list (lists_asked history wider) (rise history wider) h)
      ∙ append-nil (matches_in history cache wider list)

-- ---- a request that asks for any platform too

module _ (history : History) (asked wider : AskedHashes) (wide : AsksForAnyToo asked wider) where
  all_three : (a b c : Bool) → a ≡ true → b ≡ true → c ≡ true → (a && b && c) ≡ true
  all_three true true true is is' is'' = refl
  all_three true true false is is' is'' = absurd (cc)
  all_three true false c is is' is'' = absurd (cc)
  all_three false b c is is' is'' = absurd (cc)

  each_three : (a b c : Bool) → (a && b && c) ≡ true → (a ≡ true) × (b ≡ true) × (c ≡ true)
  each_three true true true is = (refl, refl, refl)
  each_three true true false is = absurd (cc)
  each_three true false c is = absurd (cc)
  each_three false b c is = absurd (cc)

  left_so : (a b : Bool) → a ≡ true → (a || b) ≡ true
  left_so true b is = refl
  left_so false b is = absurd (cc)

  right_so : (a b : Bool) → b ≡ true → (a || b) ≡ true
  right_so true b is = refl
  right_so false b is = is

  abbrev has_platform : ListName → List PlatformType → Bool
  has_platform list platforms = list_any (λ p. platform_code p == platform_code list.platform) platforms

  -- it asks for a list if its threat and its entries are asked, and its platform is one of the wider ones
  asks_wider : (list name : ListName) → list.threat ≡ name.threat → list.entry ≡ name.entry → asks_list asked name ≡ true
      → has_platform list (asked.platforms ++ platform.AnyPlatform ∷ []) ≡ true → asks_list wider list ≡ true
  asks_wider list name threat entry asks has =
      let each = each_three (list_any (λ t. threat_code t == threat_code name.threat) asked.threats)
      (list_any (λ p. platform_code p == platform_code name.platform) asked.platforms)
      (list_any (λ e. entry_code e == entry_code name.entry) asked.entries) asks in
      all_three _ _ _
      (ap (λ ts. list_any (λ t. threat_code t == threat_code list.threat) ts) wide.threats ∙ ap (λ h. list_any (λ t. threat_code t == threat_code h) asked.threats) threat ∙ each.0)
      (ap (has_platform list) wide.platforms ∙ has)
      (ap (λ es. list_any (λ e. entry_code e == entry_code list.entry) es) wide.entries ∙ ap (λ h. list_any (λ e. entry_code e == entry_code h) asked.entries) entry ∙ each.2)

  own_asked : (name : ListName) → asks_list asked name ≡ true → asks_list wider name ≡ true
  own_asked name asks =
      asks_wider name name refl refl asks
      (list_any-append (λ (p : PlatformType). platform_code p == platform_code name.platform) asked.platforms (platform.AnyPlatform ∷ [])
      ∙ left_so _ _ (each_three (list_any (λ t. threat_code t == threat_code name.threat) asked.threats)
      (list_any (λ p. platform_code p == platform_code name.platform) asked.platforms)
      (list_any (λ e. entry_code e == entry_code name.entry) asked.entries) asks).1)

  general_asked : (name : ListName) → asks_list asked name ≡ true → asks_list wider (for_any_platform name) ≡ true
  general_asked name asks =
      asks_wider (for_any_platform name) name refl refl asks
      (list_any-append (λ (p : PlatformType). platform_code p == 6) asked.platforms (platform.AnyPlatform ∷ []) ∙ right_so _ _ refl)

  -- the list that answers for an asked name
  answering_asked : (name list : ListName) → asks_list asked name ≡ true → answering history name ≡ Some list → asks_list wider list ≡ true
  answering_asked name list asks is = elim (answers_by history name list is) [
    | inl own ↦ ap (asks_list wider) own.1 ∙ own_asked name asks
    | inr general ↦ ap (asks_list wider) general.1 ∙ general_asked name asks
  ]

  answered_if_declared : (list : ListName) → declares history list ≡ true → is_answered history list ≡ true
  answered_if_declared list is =
      ap (λ (b : Bool). is_some (if b then Some list else if declares history (for_any_platform list) then Some (for_any_platform list) else None)) is

  answering_there : AnsweredLaw → (name list : ListName) → asks_list asked name ≡ true → answering history name ≡ Some list → Contains (lists_asked history wider) list
  answering_there answered name list asks is =
      let known : declares history list ≡ true = declared_if_answering history name list is in
      let also : asks_list wider list ≡ true = answering_asked name list asks is in
      in_filter (λ l. declares history l && asks_list wider l) all_names list
      (from_filter (is_answered history) all_names list ((answered history list).1 (answered_if_declared list known))).0
      (ap (λ (b : Bool). b && asks_list wider list) known ∙ also)

  -- ---- under a name

  module _ (cache : ℕ) where
    under : (name list : ListName) (hashes : List (List ℕ)) → map (match_under name) (map (made history cache wider list list) hashes) ≡ map (made history cache wider list name) hashes
    under name list [] = refl
    under name list (hash ∷ hashes) = ap (λ (ms : List Match). made history cache wider list name hash ∷ ms) (under name list hashes)

    same_hashes : (list : ListName) → hashes_asked history wider list ≡ hashes_asked history asked list
    same_hashes list =
        ap (λ (prefixes : List (List ℕ)). set_of (filter (λ hash. list_any (λ prefix. bytes_eq (take (length prefix) hash) prefix) prefixes)
        (full_hashes_at history list (version_count history)))) wide.prefixes

    one_name : NamesLaw → ListsLaw → AnsweredLaw → (name : ListName) → asks_list asked name ≡ true
        → matches_under history (matches_of history cache wider) name ≡ named_matches_in history cache asked name
    one_name law rise answered name asks = go (answering history name) refl
      where
        go : (o : Option ListName) → answering history name ≡ o
            → option_map_or (matches_of_list (matches_of history cache wider) name) o []
            ≡ map (made history cache wider name name) (option_map_or (hashes_asked history asked) o [])
        go None is = refl
        go (Some list) is =
            ap (map (match_under name)) (of_list history cache wider list law rise (answering_there answered name list asks is))
            ∙ under name list (hashes_asked history wider list)
            ∙ ap (map (made history cache wider name name)) (same_hashes list)

flat_map_same : {A B : Type 0} (p : A → Bool) (f g : A → List B) → ((x : A) → p x ≡ true → f x ≡ g x) → (xs : List A) → flat_map f (filter p xs) ≡ flat_map g (filter p xs)
flat_map_same p f g same [] = refl
flat_map_same {A = A} {B = B} p f g same (x ∷ xs) = go (p x) refl (flat_map_same p f g same xs)
  where
    go : (b : Bool) → p x ≡ b → flat_map f (filter p xs) ≡ flat_map g (filter p xs) → flat_map f (cond b (x ∷ filter p xs) (filter p xs)) ≡ flat_map g (cond b (x ∷ filter p xs) (filter p xs))
    go true is rest = ap (λ (ys : List B). ys ++ flat_map f (filter p xs)) (same x is) ∙ ap (λ (ys : List B). g x ++ ys) rest
    go false is rest = rest

-- the matches for all names are those of the answer
pub matches_found : NamesLaw → ListsLaw → AnsweredLaw → (history : History) (cache : ℕ) (asked wider : AskedHashes) → AsksForAnyToo asked wider
    → (names : List ListName) (found matches : List Match) → names ≡ names_asked history asked → found ≡ matches_of history cache wider
    → matches ≡ flat_map (matches_under history found) names → matches ≡ named_matches history cache asked
matches_found law rise answered history cache asked wider wide names found matches names_are found_are made_of =
    made_of ∙ ap (λ (ms : List Match). flat_map (matches_under history ms) names) found_are
    ∙ ap (flat_map (matches_under history (matches_of history cache wider))) names_are
    ∙ flat_map_same (asks_list asked) (matches_under history (matches_of history cache wider)) (named_matches_in history cache asked)
    (λ name asks. one_name history asked wider wide cache law rise answered name asks) (answered_names history)

-- ---- requests of which each answered name is declared

both_filters : {A : Type 0} (p q : A → Bool) (xs : List A) → filter q (filter p xs) ≡ filter (λ x. p x && q x) xs
both_filters p q [] = refl
both_filters {A = A} p q (z ∷ xs) = go (p z) (q z) refl refl (both_filters p q xs)
  where
    go : (b c : Bool) → p z ≡ b → q z ≡ c → filter q (filter p xs) ≡ filter (λ x. p x && q x) xs → filter q (cond b (z ∷ filter p xs) (filter p xs)) ≡ cond (b && c) (z ∷ filter (λ x. p x && q x) xs) (filter (λ x. p x && q x) xs)
    go true true e f rest = rw f (ap (λ (ys : List A). z ∷ ys) rest)
    go true false e f rest = rw f rest
    go false c e f rest = rest

flat_maps_agree : {A B : Type 0} (p q : A → Bool) (f g : A → List B) → ((x : A) → p x ≡ q x) → ((x : A) → q x ≡ true → f x ≡ g x)
    → (xs : List A) → flat_map f (filter p xs) ≡ flat_map g (filter q xs)
flat_maps_agree p q f g tests same [] = refl
flat_maps_agree {A = A} {B = B} p q f g tests same (x ∷ xs) = go (p x) (q x) (tests x) refl (flat_maps_agree p q f g tests same xs)
  where
    go : (b c : Bool) → b ≡ c → q x ≡ c → flat_map f (filter p xs) ≡ flat_map g (filter q xs) → flat_map f (cond b (x ∷ filter p xs) (filter p xs)) ≡ flat_map g (cond c (x ∷ filter q xs) (filter q xs))
    go true true e is rest = ap (λ (ys : List B). ys ++ flat_map f (filter p xs)) (same x is) ∙ ap (λ (ys : List B). g x ++ ys) rest
    go true false e is rest = absurd (cc)
    go false true e is rest = absurd (cc)
    go false false e is rest = rest

module _ (history : History) (cache : ℕ) (asked : AskedHashes)
    (only : (name : ListName) → asks_list asked name ≡ true → is_answered history name ≡ true → declares history name ≡ true) where
  itself_if_declared : (name : ListName) → declares history name ≡ true → answering history name ≡ Some name
  itself_if_declared name is =
      ap (λ (b : Bool). if b then Some name else if declares history (for_any_platform name) then Some (for_any_platform name) else None) is

  same_test : (name : ListName) → (is_answered history name && asks_list asked name) ≡ (declares history name && asks_list asked name)
  same_test name = go (declares history name) (asks_list asked name) (is_answered history name) refl refl refl
    where
      go : (d a w : Bool) → declares history name ≡ d → asks_list asked name ≡ a → is_answered history name ≡ w → (w && a) ≡ (d && a)
      go true a true known asks answered = refl
      go true a false known asks answered = absurd (cc (answered, ap is_some (itself_if_declared name known)))
      go false true true known asks answered = absurd (cc (known, only name asks answered))
      go false true false known asks answered = refl
      go false false true known asks answered = refl
      go false false false known asks answered = refl

  same_matches : (name : ListName) → (declares history name && asks_list asked name) ≡ true → named_matches_in history cache asked name ≡ matches_in history cache asked name
  same_matches name is =
      let known = (and_parts (declares history name) (asks_list asked name) is).0 in
      ap (λ (o : Option ListName). map (made history cache asked name name) (option_map_or (hashes_asked history asked) o [])) (itself_if_declared name known)

  matches_as_before : named_matches history cache asked ≡ matches_of history cache asked
  matches_as_before =
      ap (flat_map (named_matches_in history cache asked)) (both_filters (is_answered history) (asks_list asked) all_names)
      ∙ flat_maps_agree (λ (name : ListName). is_answered history name && asks_list asked name) (λ (name : ListName). declares history name && asks_list asked name)
      (named_matches_in history cache asked) (matches_in history cache asked) same_test same_matches all_names

  pub found_as_before : (wait negative : ℕ) → named_find_answer history wait cache negative asked ≡ find_answer history wait cache negative asked
  found_as_before wait negative =
      ap (λ (matches : List Match). let response : FindResponse = record { matches = matches; wait = wait * 1000000000; negative = negative * 1000000000 } in response) matches_as_before

-- a name is answered by its own list alone if no list is for any platform
some_own : (b c : Bool) (own general : ListName) → c ≡ false → is_some (if b then Some own else if c then Some general else None) ≡ true → b ≡ true
some_own true c own general none is = refl
some_own false true own general none is = absurd (cc)
some_own false false own general none is = absurd (cc)

pub declared_alone : (history : History) → ((name : ListName) → declares history (for_any_platform name) ≡ false) → (name : ListName) → is_answered history name ≡ true → declares history name ≡ true
declared_alone history none name is = some_own (declares history name) (declares history (for_any_platform name)) name (for_any_platform name) (none name) is
