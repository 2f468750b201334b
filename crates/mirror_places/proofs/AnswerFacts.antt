-- What a mirror answers, from its parts.
use Rattle.std.proofs.Common.{◌≡◌, ℕ, ◌+◌, ◌-◌, ◌<◌, ◌≤◌, List, [], ◌∷◌, ◌++◌, Bool, true, false, cond, length, map, take, get_or, refl, sym, ap, ◌∙◌, arith, Option, Some, None, append-nil}
use Rattle.std.specs.Prelude.{filter, find, position, IsSome, is_some, nat_le, not}
use Rattle.std.specs.List.{range_with_len}
use Rattle.std.specs.Str.{bytes_eq}
use Rattle.std.proofs.lemmas.Bool.{lt-leb}
use Rattle.std.proofs.lemmas.List.{map-append, take_more}
use Rattle.std.proofs.lemmas.List.Elements.{filter-append}
use Rattle.std.proofs.lemmas.Option.{slice_get-get_or, slice_get_read}
use Rattle.sha2.specs.Sha256.{sha256}
use Rattle.sb_model.specs.declared.names.ListName.{ListName}
use Rattle.sb_model.specs.Names.{same_name}
use Rattle.sb_model.specs.Prefixes.{concatenation}
use Rattle.update_messages.specs.Answer.{difference_update}
use Rattle.update_messages.specs.Messages.{AskedList, UpdatedList}
use Rattle.update_client.specs.Held.{digest_of, Held}
use Rattle.update_client.specs.Step.{list_named}
use Rattle.mirror_places.specs.Answer.{is_held, held_at_place, list_in, mirror_update, place_named, removal_size, set_in, update_from}
use Rattle.mirror_places.specs.Places.{HaveSameNames, lists_at_place, names_of_lists, newest_place, Places}
use Rattle.mirror_places.specs.Tokens.{mirror_token}
use Rattle.mirror_places.proofs.Finding.{all_at, found_at, found_by, from_range}
use Rattle.mirror_places.proofs.FollowFacts.{IsListAt, list_there}
use Rattle.mirror_places.proofs.PlaceFacts.{at_kept}

-- ---- the list of a name, under a token

pub named_at : (p : Held → Bool) (lists : List Held) (i : ℕ) (held : Held) → position p lists ≡ Some i → held ≡ get_or lists i held → find p lists ≡ Some held
named_at p lists i held at is = let found = found_at p lists i at in found.1 ∙ slice_get_read lists (length lists) i held refl found.0 is

pub no_list : (o : Option Held) → o ≡ None → (false ≡ true → is_held o ≡ true) × (is_held o ≡ true → false ≡ true)
no_list o none = (λ h. absurd (cc), λ h. sym (ap is_held none) ∙ h)

pub no_token : (o : Option Held) (held : Held) → o ≡ Some held → held.token ≡ [] → (false ≡ true → is_held o ≡ true) × (is_held o ≡ true → false ≡ true)
no_token o held is empty = (λ h. absurd (cc), λ h. sym (ap (λ (t : List ℕ). not (nat_le (length t) 0)) empty) ∙ sym (ap is_held is) ∙ h)

has_some : (token : List ℕ) → (token ≡ [] → ⊥) → not (nat_le (length token) 0) ≡ true
has_some [] some = absurd (some refl)
has_some (x ∷ xs) some = ap not (lt-leb (length (x ∷ xs)) 0 (omega arith))

pub a_token : (o : Option Held) (held : Held) → o ≡ Some held → (held.token ≡ [] → ⊥) → (true ≡ true → is_held o ≡ true) × (is_held o ≡ true → true ≡ true)
a_token o held is some = (λ h. ap is_held is ∙ has_some held.token some, λ h. refl)

-- ---- a list stands at each kept place

same_found : (name : ListName) (a b : List Held) → names_of_lists a ≡ names_of_lists b → (own : Held) → list_named name a ≡ Some own → (other : Held) × (list_named name b ≡ Some other)
same_found name [] b names own is = absurd (cc)
same_found name (x ∷ xs) [] names own is = absurd (cc)
same_found name (x ∷ xs) (y ∷ ys) names own is =
    let first : x.name ≡ y.name = cc in
    let rest : names_of_lists xs ≡ names_of_lists ys = cc in
    go (same_name x.name name) refl first is (λ h. same_found name xs ys rest own h)
  where
    go : (b : Bool) → same_name x.name name ≡ b → x.name ≡ y.name → cond b (Some x) (list_named name xs) ≡ Some own
        → (list_named name xs ≡ Some own → (other : Held) × (list_named name ys ≡ Some other)) → (other : Held) × (list_named name (y ∷ ys) ≡ Some other)
    go true e first h more = (y, ap (λ (b : Bool). cond b (Some y) (list_named name ys)) (sym (ap (λ (n : ListName). same_name n name) first) ∙ e))
    go false e first h more =
        let found = more h in
        (found.0, ap (λ (b : Bool). cond b (Some y) (list_named name ys)) (sym (ap (λ (n : ListName). same_name n name) first) ∙ e) ∙ found.1)

some_is_some : {X : Type 0} (o : Option X) (x : X) → o ≡ Some x → IsSome o
some_is_some o x is = ap is_some is

names_at : (mirror : Places) (names : HaveSameNames mirror) (place : ℕ) (lists : List Held) → mirror.gone ≤ place → lists_at_place mirror place ≡ Some lists → names_of_lists lists ≡ names.0
names_at mirror names place lists within is =
    all_at (λ (ls : List Held). names_of_lists ls ≡ names.0) mirror.kept (place - mirror.gone) lists names.1 (sym (at_kept mirror place within) ∙ is)

-- one that is held at the newest place stands at each place that a state names
pub stands_there : (mirror : Places) → HaveSameNames mirror → (name : ListName) (state : List ℕ) (place : ℕ) (own : Held)
    → place_named mirror name state ≡ Some place → held_at_place mirror (newest_place mirror) name ≡ Some own → IsSome (held_at_place mirror place name)
stands_there mirror names name state place own named is =
    let range = from_range place mirror.gone (length mirror.kept)
    (found_by (λ (p : ℕ). bytes_eq (mirror_token mirror.epoch name p) state) (range_with_len mirror.gone (length mirror.kept)) place named).0 in
    let newest : IsListAt mirror (newest_place mirror) name own = list_there mirror (newest_place mirror) name own is in
    let lists : List Held = get_or mirror.kept (place - mirror.gone) newest.lists in
    let there : lists_at_place mirror place ≡ Some lists =
    at_kept mirror place range.0 ∙ slice_get-get_or mirror.kept (place - mirror.gone) newest.lists (omega (arith, range.0, range.1)) in
    let same : names_of_lists newest.lists ≡ names_of_lists lists =
    names_at mirror names (newest_place mirror) newest.lists (omega (arith, range.0, range.1)) newest.there ∙ sym (names_at mirror names place lists range.0 there) in
    let other = same_found name newest.lists lists same own newest.named in
    some_is_some (held_at_place mirror place name) other.0 (ap (list_in name) there ∙ other.1)

-- ---- updates

pub unchanged_is : (asked : AskedList) (digest : List ℕ) (old newer : List (List ℕ)) (token : List ℕ) (update : UpdatedList)
    → ((size : ℕ) (set : List (List ℕ)) → digest ≡ sha256 (concatenation set) → update ≡ difference_update asked size set set token)
    → digest ≡ digest_of newer → newer ≡ old → update ≡ difference_update asked (removal_size old) old newer token
unchanged_is asked digest old newer token update made own same =
    made (removal_size old) old (own ∙ ap digest_of same) ∙ ap (λ (set : List (List ℕ)). difference_update asked (removal_size old) old set token) (sym same)

pub partial_is : (asked : AskedList) (size : ℕ) (from old newer : List (List ℕ)) (token : List ℕ) (update : UpdatedList)
    → update ≡ difference_update asked size from newer token → size ≡ removal_size from → from ≡ old → update ≡ difference_update asked (removal_size old) old newer token
partial_is asked size from old newer token update made sized same =
    made ∙ ap (λ n. difference_update asked n from newer token) sized
    ∙ ap (λ (set : List (List ℕ)). difference_update asked (removal_size set) set newer token) same

pub update_is : (mirror : Places) (asked : AskedList) (set : List (List ℕ)) (token : List ℕ) (found : Option ℕ) (update : UpdatedList)
    → update ≡ update_from mirror asked set token found → set ≡ set_in (held_at_place mirror (newest_place mirror) asked.name)
    → token ≡ mirror_token mirror.epoch asked.name (newest_place mirror) → found ≡ place_named mirror asked.name asked.state → update ≡ mirror_update mirror asked
update_is mirror asked set token found update made sent named is =
    made ∙ ap (λ (s : List (List ℕ)). update_from mirror asked s token found) sent
    ∙ ap (λ (t : List ℕ). update_from mirror asked (set_in (held_at_place mirror (newest_place mirror) asked.name)) t found) named
    ∙ ap (λ (o : Option ℕ). update_from mirror asked (set_in (held_at_place mirror (newest_place mirror) asked.name)) (mirror_token mirror.epoch asked.name (newest_place mirror)) o) is

pub token_same : (e f : ℕ) (n m : ListName) (p q : ℕ) → e ≡ f → n ≡ m → p ≡ q → mirror_token e n p ≡ mirror_token f m q
token_same e f n m p q epoch name place =
    ap (λ k. mirror_token k n p) epoch ∙ ap (λ (l : ListName). mirror_token f l p) name ∙ ap (λ k. mirror_token f m k) place

-- ---- items that pass a test, one by one

module _ {X : Type 0} (p : X → Bool) (xs : List X) (i : ℕ) (x : X) (below : i < length xs) (is : x ≡ get_or xs i x) where
  one_further : filter p (take (i + 1) xs) ≡ filter p (take i xs) ++ filter p (x ∷ [])
  one_further =
      ap (filter p) (take_more xs i x below) ∙ filter-append p (take i xs) (get_or xs i x ∷ [])
      ∙ ap (λ (y : X). filter p (take i xs) ++ filter p (y ∷ [])) (sym is)

  -- one that does not pass
  pub left_out : {Y : Type 0} (f : X → Y) (old : List Y) → p x ≡ false → old ≡ map f (filter p (take i xs)) → old ≡ map f (filter p (take (i + 1) xs))
  left_out f old fails before =
      before
      ∙ ap (map f) (sym (one_further ∙ ap (λ (b : Bool). filter p (take i xs) ++ cond b (x ∷ []) []) fails ∙ append-nil (filter p (take i xs))))

  -- one answer more
  pub answered_more : {Y : Type 0} (f : X → Y) (old new : List Y) (y : Y) → p x ≡ true → old ≡ map f (filter p (take i xs)) → y ≡ f x → new ≡ old ++ y ∷ []
      → new ≡ map f (filter p (take (i + 1) xs))
  answered_more f old new y passes before made pushed =
      pushed ∙ ap (λ (ys : List _). ys ++ y ∷ []) before ∙ ap (λ (z : _). map f (filter p (take i xs)) ++ z ∷ []) made
      ∙ sym (map-append f (filter p (take i xs)) (x ∷ []))
      ∙ ap (map f) (sym (one_further ∙ ap (λ (b : Bool). filter p (take i xs) ++ cond b (x ∷ []) []) passes))
