-- Declared lists, targets that need no walk, and answers part by part.
use Rattle.std.proofs.Common.{◌≡◌, ℕ, ◌+◌, ◌<◌, ◌≤◌, Bool, true, false, cond, List, [], ◌∷◌, ◌++◌, length, map, take, get_or, append-nil, refl, sym, ap, ◌∙◌, arith, Option, Some, None}
use Rattle.std.specs.Prelude.{◌==◌, ◌&&◌, ◌||◌, nat_le, filter, find, is_some, All}
use Rattle.std.specs.List.{list_any}
use Rattle.std.specs.Option.{IfSome, option_map}
use Rattle.std.proofs.lemmas.Bool.{le-leb, leb-true}
use Rattle.std.proofs.lemmas.List.{map-append, take_more}
use Rattle.std.proofs.lemmas.List.Elements.{All-weaker, filter-append}
use Rattle.std.proofs.lemmas.Option.{same_Some}
use Rattle.sb_model.specs.declared.history.Change.{Change}
use Rattle.sb_model.specs.declared.names.ListName.{ListName}
use Rattle.sb_model.specs.Difference.{difference_count}
use Rattle.sb_model.specs.History.{History, IsPrefixSize, IsWellFormed, declares, version_count, prefixes_at}
use Rattle.sb_model.specs.Names.{same_name}
use Rattle.sb_model.specs.Target.{is_within, can_reach, target_version}
use Rattle.list_versions.specs.Journal.{declared_size_of}
use Rattle.update_messages.specs.Answer.{version_named, size_in, declared_size, update_to, update_for, whole_update, difference_update}
use Rattle.update_messages.specs.Messages.{AskedList, UpdatedList}
use Rattle.delta_server.specs.Tokens.{server_token, server_naming}
use Rattle.delta_server.specs.Walk.{HasSizes, may_take, held_set}
use Rattle.delta_server.proofs.TargetFacts.{from_nothing}

-- ---- declared lists

any_found : {X : Type 0} (p : X → Bool) (xs : List X) → list_any p xs ≡ is_some (find p xs)
any_found p [] = refl
any_found p (x ∷ xs) = go (p x) (any_found p xs)
  where
    go : (b : Bool) → list_any p xs ≡ is_some (find p xs) → (b || list_any p xs) ≡ is_some (cond b (Some x) (find p xs))
    go true more = refl
    go false more = more

pub not_declared : (history : History) (list : ListName) → declared_size_of history list ≡ None → declares history list ≡ false
not_declared history list none = any_found (λ (declared : ListName × ℕ). same_name declared.0 list) history.declared ∙ go (find (λ (declared : ListName × ℕ). same_name declared.0 list) history.declared) none
  where
    go : (o : Option (ListName × ℕ)) → option_map (λ (declared : ListName × ℕ). declared.1) o ≡ None → is_some o ≡ false
    go None h = refl
    go (Some declared) h = absurd (cc)

pub size_found : (history : History) (list : ListName) (size : ℕ) → declared_size_of history list ≡ Some size → size ≡ declared_size history list
size_found history list size found = go (find (λ (declared : ListName × ℕ). same_name declared.0 list) history.declared) found
  where
    go : (o : Option (ListName × ℕ)) → option_map (λ (declared : ListName × ℕ). declared.1) o ≡ Some size → size ≡ size_in o
    go None h = absurd (cc)
    go (Some declared) h = sym (same_Some declared.1 size h)

pub each_has_sizes : (history : History) → IsWellFormed history → All HasSizes history.changes
each_has_sizes history keeps =
    All-weaker (λ (change : Change). All (λ added. (length added.hash ≡ 32) × IsPrefixSize added.size) change.adds) HasSizes
    (λ change each. All-weaker (λ added. (length added.hash ≡ 32) × IsPrefixSize added.size) (λ added. IsPrefixSize added.size) (λ added both. both.1) change.adds each)
    history.changes keeps.adds

-- ---- targets that need no walk

within_less : (limit few many : ℕ) → few ≤ many → is_within limit many ≡ true → is_within limit few ≡ true
within_less limit few many less is = go (limit == 0) is
  where
    go : (t : Bool) → (t || nat_le many limit) ≡ true → (t || nat_le few limit) ≡ true
    go true h = refl
    go false h = let below : many ≤ limit = leb-true many limit h in le-leb few limit (omega arith)

both_true : (a b : Bool) → a ≡ true → b ≡ true → (a && b) ≡ true
both_true true true a b = refl
both_true true false a b = absurd (cc)
both_true false b a c = absurd (cc)

-- Limits that do not bind, told by the prefixes in which two sets differ.
pub told_takes : (held newer : List (List ℕ)) (max_update max_database : ℕ) → is_within max_update (difference_count held newer) ≡ true
    → is_within max_database (length newer) ≡ true → may_take held max_update max_database newer ≡ true
told_takes held newer max_update max_database update database = both_true _ _ update database

module _ (history : History) (list : ListName) (max_update max_database : ℕ) where
  later_true : (a b c d : Bool) → b ≡ true → (c && d) ≡ true → (a || b && c && d) ≡ true
  later_true true b c d at both = refl
  later_true false true c d at both = both
  later_true false false c d at both = absurd (cc)

  abbrev newest : List (List ℕ)
  newest = prefixes_at history list (version_count history)

  newest_reached : (from : Option ℕ) → IfSome from (λ version. version ≤ version_count history) → may_take (held_set list from history.changes) max_update max_database newest ≡ true
      → can_reach history list from max_update max_database (version_count history) ≡ true
  newest_reached None within takes = ap (λ n. is_within max_update n && is_within max_database (length newest)) (sym (from_nothing newest)) ∙ takes
  newest_reached (Some version) within takes = later_true _ _ _ _ (le-leb version (version_count history) within) takes

  pub reaches_newest : (from : Option ℕ) (held set : List (List ℕ)) → IfSome from (λ version. version ≤ version_count history)
      → held ≡ held_set list from history.changes → set ≡ newest → may_take held max_update max_database set ≡ true
      → can_reach history list from max_update max_database (version_count history) ≡ true
  reaches_newest from held set within own is takes =
      newest_reached from within (ap (λ (s : List (List ℕ)). may_take (held_set list from history.changes) max_update max_database s) (sym is)
      ∙ ap (λ (h : List (List ℕ)). may_take h max_update max_database set) (sym own) ∙ takes)

-- ---- answers

module _ (history : History) (asked : AskedList) where
  pub whole_is : (set : List (List ℕ)) (token : List ℕ) (version target : ℕ) (update : UpdatedList)
      → update ≡ whole_update asked set token → set ≡ prefixes_at history asked.name version → token ≡ server_token history.epoch asked.name version → version ≡ target
      → update ≡ update_to history (server_naming history) asked None target
  whole_is set token version target update made sent named is =
      made ∙ ap (λ (s : List (List ℕ)). whole_update asked s token) sent
      ∙ ap (λ (t : List ℕ). whole_update asked (prefixes_at history asked.name version) t) named
      ∙ ap (λ v. update_to history (server_naming history) asked None v) is

  pub partial_is : (held size : ℕ) (old set : List (List ℕ)) (token : List ℕ) (version target : ℕ) (update : UpdatedList)
      → update ≡ difference_update asked size old set token → size ≡ declared_size history asked.name → old ≡ prefixes_at history asked.name held
      → set ≡ prefixes_at history asked.name version → token ≡ server_token history.epoch asked.name version → version ≡ target
      → update ≡ update_to history (server_naming history) asked (Some held) target
  partial_is held size old set token version target update made declared from sent named is =
      made ∙ ap (λ n. difference_update asked n old set token) declared
      ∙ ap (λ (o : List (List ℕ)). difference_update asked (declared_size history asked.name) o set token) from
      ∙ ap (λ (s : List (List ℕ)). difference_update asked (declared_size history asked.name) (prefixes_at history asked.name held) s token) sent
      ∙ ap (λ (t : List ℕ). difference_update asked (declared_size history asked.name) (prefixes_at history asked.name held) (prefixes_at history asked.name version) t) named
      ∙ ap (λ v. update_to history (server_naming history) asked (Some held) v) is

  pub for_is : (held : Option ℕ) (update : UpdatedList) → held ≡ version_named history (server_naming history) asked.name asked.state
      → update ≡ update_to history (server_naming history) asked held (target_version history asked.name held asked.max_update asked.max_database)
      → update ≡ update_for history (server_naming history) asked
  for_is held update named made =
      made ∙ ap (λ (h : Option ℕ). update_to history (server_naming history) asked h (target_version history asked.name h asked.max_update asked.max_database)) named

pub token_same : (e f : ℕ) (n m : ListName) (version : ℕ) → e ≡ f → n ≡ m → server_token e n version ≡ server_token f m version
token_same e f n m version epoch name = ap (λ k. server_token k n version) epoch ∙ ap (λ (l : ListName). server_token f l version) name

pub target_same : (history : History) (from : Option ℕ) (n m : ListName) (u v d e : ℕ) → n ≡ m → u ≡ v → d ≡ e
    → target_version history n from u d ≡ target_version history m from v e
target_same history from n m u v d e name update database =
    ap (λ (l : ListName). target_version history l from u d) name ∙ ap (λ k. target_version history m from k d) update ∙ ap (λ k. target_version history m from v k) database

-- ---- items that pass a test, one by one

module _ {X : Type 0} (p : X → Bool) (xs : List X) (i : ℕ) (x : X) (below : i < length xs) (is : x ≡ get_or xs i x) where
  one_further : filter p (take (i + 1) xs) ≡ filter p (take i xs) ++ filter p (x ∷ [])
  one_further =
      ap (filter p) (take_more xs i x below) ∙ filter-append p (take i xs) (get_or xs i x ∷ [])
      ∙ ap (λ (y : X). filter p (take i xs) ++ filter p (y ∷ [])) (sym is)

  -- one that does not pass
  pub left_out : p x ≡ false → filter p (take i xs) ≡ filter p (take (i + 1) xs)
  left_out fails =
      sym (one_further ∙ ap (λ (b : Bool). filter p (take i xs) ++ cond b (x ∷ []) []) fails ∙ append-nil (filter p (take i xs)))

  -- one answer more
  pub answered_more : {Y : Type 0} (f : X → Y) (old new : List Y) (y : Y) → p x ≡ true → old ≡ map f (filter p (take i xs)) → y ≡ f x → new ≡ old ++ y ∷ []
      → new ≡ map f (filter p (take (i + 1) xs))
  answered_more f old new y passes before made pushed =
      pushed ∙ ap (λ (ys : List _). ys ++ y ∷ []) before ∙ ap (λ (z : _). map f (filter p (take i xs)) ++ z ∷ []) made
      ∙ sym (map-append f (filter p (take i xs)) (x ∷ []))
      ∙ ap (map f) (sym (one_further ∙ ap (λ (b : Bool). filter p (take i xs) ++ cond b (x ∷ []) []) passes))
