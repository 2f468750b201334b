-- The ends of the boxes, one after the other.
use Rattle.std.proofs.Common.{◌≡◌, ℕ, zero, suc, ◌+◌, ◌-◌, ◌<◌, ◌≤◌, ◌⊎◌, inl, inr, ⊎_elim, false, List, [], ◌∷◌, ◌++◌, length, map, take, drop, set, refl, sym, ap, ◌∙◌, subst, arith, length-append}
use Rattle.std.specs.Prelude.{Some, All, slice_get, slice_index_or}
use Rattle.std.proofs.lemmas.List.{length-map, map-append}
use Rattle.std.proofs.lemmas.Option.{slice_get_within, get_or_from_slice_get}
use Rattle.snapshot_publish.specs.declared.view.View.{View}
use Rattle.atomic_table.specs.Seated.{TableId}
use Rattle.update_client.specs.Held.{Held}
use Rattle.snapshot_publish.specs.Publications.{Publications, Publication, IsLastOf, publication, most_kept, kept_end}
use Rattle.snapshot_publish.specs.Publishing.{Known, Told, Seated, publications_at_first, list_told, box_of, box_told, told_at}
use Rattle.snapshot_publish.specs.Rule.{publishing}
use Rattle.snapshot_publish.specs.Kept.{IsPublisher, IsNote, IsFirst, AreEnds, delivered, MayDeliver}
use Rattle.snapshot_publish.proofs.Newest.{length_kept, kept_more, last_kept}

module _ {X : Type 0} where
  pub get_more : (xs ys : List X) (k : ℕ) (x : X) → slice_get xs k ≡ Some x → slice_get (xs ++ ys) k ≡ Some x
  get_more [] ys k x e = absurd cc
  get_more (y ∷ xs) ys zero x e = e
  get_more (y ∷ xs) ys (suc k) x e = get_more xs ys k x e

  pub get_end : (xs : List X) (y : X) (k : ℕ) → k ≡ length xs → slice_get (xs ++ y ∷ []) k ≡ Some y
  get_end [] y zero e = refl
  get_end [] y (suc k) e = absurd (omega arith)
  get_end (x ∷ xs) y zero e = absurd (omega arith)
  get_end (x ∷ xs) y (suc k) e = get_end xs y k (omega arith)

  pub get_either : (xs : List X) (y : X) (k : ℕ) (x : X) → slice_get (xs ++ y ∷ []) k ≡ Some x → (slice_get xs k ≡ Some x) ⊎ ((k ≡ length xs) × (y ≡ x))
  get_either [] y zero x e = inr (refl, cc)
  get_either [] y (suc k) x e = absurd cc
  get_either (z ∷ xs) y zero x e = inl e
  get_either (z ∷ xs) y (suc k) x e = ⊎_elim (λ t. inl t) (λ t. inr (ap suc t.0, t.1)) (get_either xs y k x e)

  pub all_end : (P : X → Type 0) (xs : List X) (y : X) → All P xs → P y → All P (xs ++ y ∷ [])
  all_end P [] y h p zero d i = p
  all_end P [] y h p (suc k) d i = absurd (omega arith)
  all_end P (x ∷ xs) y h p zero d i = h zero d (omega arith)
  all_end P (x ∷ xs) y h p (suc k) d i = all_end P xs y (λ j e b. h (suc j) e (omega arith)) p k d (omega arith)

  pub all_at : (P : X → Type 0) (xs : List X) (k : ℕ) (x : X) → All P xs → slice_get xs k ≡ Some x → P x
  all_at P xs k x h e = subst P (get_or_from_slice_get xs k x x e) (h k x (slice_get_within xs k x e))

  pub all_front : (P : X → Type 0) (xs ys : List X) → All P (xs ++ ys) → All P xs
  all_front P [] ys h k d i = absurd (omega arith)
  all_front P (x ∷ xs) ys h zero d i = h zero d (omega arith)
  all_front P (x ∷ xs) ys h (suc k) d i = all_front P xs ys (λ j e b. h (suc j) e (omega arith)) k d (omega arith)

  pub all_last : (P : X → Type 0) (xs : List X) (y : X) → All P (xs ++ y ∷ []) → P y
  all_last P xs y h = all_at P (xs ++ y ∷ []) (length xs) y h (get_end xs y (length xs) refl)

  pub set_same : (xs : List X) (k : ℕ) (x : X) → slice_get xs k ≡ Some x → set xs k x ≡ xs
  set_same [] k x e = absurd cc
  set_same (y ∷ xs) zero x e = let same : y ≡ x = cc in ap (λ (z : X). z ∷ xs) (sym same)
  set_same (y ∷ xs) (suc k) x e = ap (λ (l : List X). y ∷ l) (set_same xs k x e)

  take_suc : (xs : List X) (k : ℕ) (x : X) → slice_get xs k ≡ Some x → take (suc k) xs ≡ take k xs ++ x ∷ []
  take_suc [] k x e = absurd cc
  take_suc (y ∷ xs) zero x e = let same : y ≡ x = cc in ap (λ (z : X). z ∷ []) same
  take_suc (y ∷ xs) (suc k) x e = ap (λ (l : List X). y ∷ l) (take_suc xs k x e)

  pub take_one : (xs : List X) (k : ℕ) (x : X) → slice_get xs k ≡ Some x → take (k + 1) xs ≡ take k xs ++ x ∷ []
  take_one xs k x e = let n : k + 1 ≡ suc k = omega arith in ap (λ (m : ℕ). take m xs) n ∙ take_suc xs k x e

  all_map : {Y : Type 0} (P : Y → Type 0) (f : X → Y) (xs : List X) → All (λ x. P (f x)) xs → All P (map f xs)
  all_map P f [] h k d i = absurd (omega arith)
  all_map P f (x ∷ xs) h zero d i = h zero x (omega arith)
  all_map P f (x ∷ xs) h (suc k) d i = all_map P f xs (λ j e b. h (suc j) e (omega arith)) k d (omega arith)

  all_to : (P Q : X → Type 0) (xs : List X) → ((x : X) → P x → Q x) → All P xs → All Q xs
  all_to P Q xs f h k d i = f _ (h k d i)

-- ---- deliveries

pub boxes_stay : (next : Publication) (ends : List Known) → map box_of (map (delivered next) ends) ≡ map box_of ends
boxes_stay next [] = refl
boxes_stay next (end ∷ ends) = ap (λ (l : List TableId). end.box ∷ l) (boxes_stay next ends)

list_more : (next : Publication) (ends : List Known) → 0 < length ends → publications_at_first (map (delivered next) ends) ≡ publications_at_first ends ++ next.lists ∷ []
list_more next [] some = absurd (omega arith)
list_more next (end ∷ ends) some = refl

-- one more was delivered
one_more : (f : Known → Known) (old : List Known) (k : ℕ) (end : Known) → slice_get (map f (take k old) ++ drop k old) k ≡ Some end
    → set (map f (take k old) ++ drop k old) k (f end) ≡ map f (take (suc k) old) ++ drop (suc k) old
one_more f [] zero end e = absurd cc
one_more f [] (suc k) end e = absurd cc
one_more f (x ∷ old) zero end e = let same : x ≡ end = cc in ap (λ (z : Known). f z ∷ old) (sym same)
one_more f (x ∷ old) (suc k) end e = ap (λ (l : List Known). f x ∷ l) (one_more f old k end e)

pub done_more : (f : Known → Known) (old ends : List Known) (k : ℕ) (end new : Known) → ends ≡ map f (take k old) ++ drop k old → slice_get ends k ≡ Some end → new ≡ f end
    → set ends k new ≡ map f (take (k + 1) old) ++ drop (k + 1) old
done_more f old ends k end new are got is =
    let n : suc k ≡ k + 1 = omega arith in
    ap (λ (z : Known). set ends k z) is
    ∙ (ap (λ (l : List Known). set l k (f end)) are
    ∙ (one_more f old k end (ap (λ (l : List Known). slice_get l k) (sym are) ∙ got)
    ∙ ap (λ (m : ℕ). map f (take m old) ++ drop m old) n))

-- the publisher after a delivery at each end
pub publisher_more : (ends : List Known) (kept : List Publication) (last : ℕ) (next : Publication) → IsPublisher ends kept last → next.number ≡ last + 1
    → IsPublisher (map (delivered next) ends) (drop (length (kept ++ next ∷ []) - most_kept) (kept ++ next ∷ [])) (last + 1)
publisher_more ends kept last next h number =
    let all : Publications = publications_at_first ends in
    let more = list_more next ends h.some in
    let here : next.number ≡ length all = (let c = h.count in omega arith) in
    let p : Publication = publication (length all) next.lists in
    let same : next ≡ p = ap (λ (n : ℕ). publication n next.lists) here in
    let f : Known → Known = delivered next in
    let P : Known → Type 0 = λ known. known.view ≡ publishing (publications_at_first (map f ends)) in
    record {
      some = (let e = length-map ends f in let s = h.some in omega arith);
      each = all_map P f ends (all_to (λ known. known.view ≡ publishing all) (λ known. P (f known)) ends
          (λ known is. ap (λ (l : Publications). publishing (l ++ next.lists ∷ [])) (ap (λ (v : View). v.list) is) ∙ ap publishing (sym more)) h.each);
      count = (let e = ap length more in let a = length-append all (next.lists ∷ []) in let c = h.count in omega arith);
      kept_is = subst (λ (q : Publication × List Publication). drop (length (q.1 ++ q.0 ∷ []) - most_kept) (q.1 ++ q.0 ∷ []) ≡ kept_end (publications_at_first (map f ends))) (λ i. (sym same i, sym h.kept_is i))
          (kept_more all next.lists ∙ ap kept_end (sym more));
    }

pub few_kept : (ends : List Known) (kept : List Publication) (last : ℕ) (next : Publication) → IsPublisher ends kept last → length (kept ++ next ∷ []) ≤ most_kept + 1
few_kept ends kept last next h = let a = length_kept (publications_at_first ends) in let b = ap length h.kept_is in let e = length-append kept (next ∷ []) in omega arith

pub may_deliver : (ends : List Known) (kept : List Publication) (last : ℕ) (next : Publication) → IsPublisher ends kept last → next.number ≡ last + 1 → All (MayDeliver next) ends
may_deliver ends kept last next h number = all_to (λ known. known.view ≡ publishing (publications_at_first ends)) (MayDeliver next) ends
    (λ known is. (ap (λ (v : View). v.publishes) is, (let e : length known.view.list ≡ length (publications_at_first ends) = ap (λ (v : View). length v.list) is in let c = h.count in omega arith))) h.each

-- ---- letters

pub are_last : (ends : List Known) (kept : List Publication) (last : ℕ) (p : Publication) → IsPublisher ends kept last → p ≡ slice_index_or kept (length kept - 1) p → All (λ known. IsLastOf known.view.list p) ends
are_last ends kept last p h is = all_to (λ known. known.view ≡ publishing (publications_at_first ends)) (λ known. IsLastOf known.view.list p) ends
    (λ known at. subst (λ (l : Publications). IsLastOf l p) (sym (ap (λ (v : View). v.list) at)) (last_kept (publications_at_first ends) kept last p h.count h.kept_is is)) h.each

pub boxes_told : (ends : List Known) → map box_told (map told_at ends) ≡ map box_of ends
boxes_told [] = refl
boxes_told (end ∷ ends) = ap (λ (l : List TableId). end.box ∷ l) (boxes_told ends)

pub list_is_told : (ends : List Known) → list_told (map told_at ends) ≡ publications_at_first ends
list_is_told [] = refl
list_is_told (end ∷ ends) = refl

pub note_is : (ends : List Known) (kept : List Publication) (last : ℕ) → IsPublisher ends kept last → IsNote (map told_at ends)
note_is ends kept last h = record {
  each = all_map (λ (one : Told). one.list ≡ list_told (map told_at ends)) told_at ends (all_to (λ known. known.view ≡ publishing (publications_at_first ends)) (λ known. known.view.list ≡ list_told (map told_at ends)) ends
      (λ known is. ap (λ (v : View). v.list) is ∙ sym (list_is_told ends)) h.each);
}

-- ---- the start

pub more_ends : (count : ℕ) (lists : List Held) (ends : List Known) (seats : List Seated) (end : Known) (seat : Seated) → AreEnds count lists ends seats → end.view ≡ publishing (lists ∷ [])
    → seat ≡ record { place = count; box = end.box; list = lists ∷ []; looked = false; failed = false } → AreEnds (count + 1) lists (ends ++ end ∷ []) (seats ++ seat ∷ [])
more_ends count lists ends seats end seat h known made =
    let boxes : map box_of (ends ++ end ∷ []) ≡ map box_of ends ++ end.box ∷ [] = map-append box_of ends (end ∷ []) in
    let older : (place : ℕ) (s : Seated) → slice_get seats place ≡ Some s → IsFirst (map box_of (ends ++ end ∷ [])) lists place s = λ place s at.
    let first = h.firsts place s at in record {
      one = subst (λ (l : List TableId). slice_get l s.place ≡ Some s.box) (sym boxes) (get_more (map box_of ends) (end.box ∷ []) s.place s.box first.one);
      place_is = first.place_is;
      list = first.list;
      not_looked = first.not_looked;
      whole = first.whole;
    } in
    let newest : IsFirst (map box_of (ends ++ end ∷ [])) lists count seat = record {
      one = subst (λ (l : List TableId). slice_get l seat.place ≡ Some seat.box) (sym boxes)
          (get_end (map box_of ends) end.box seat.place (ap (λ (s : Seated). s.place) made ∙ (sym h.ends_are ∙ sym (length-map ends box_of)))
          ∙ ap (λ (s : Seated). Some s.box) (sym made));
      place_is = ap (λ (s : Seated). s.place) made;
      list = ap (λ (s : Seated). s.list) made;
      not_looked = ap (λ (s : Seated). s.looked) made;
      whole = ap (λ (s : Seated). s.failed) made;
    } in record {
      ends_are = (let e = length-append ends (end ∷ []) in let n = h.ends_are in omega arith);
      seats_are = (let e = length-append seats (seat ∷ []) in let n = h.seats_are in omega arith);
      known = all_end (λ (k : Known). k.view ≡ publishing (lists ∷ [])) ends end h.known known;
      firsts = λ place s at. ⊎_elim
          (λ (t : slice_get seats place ≡ Some s). older place s t)
          (λ (t : (place ≡ length seats) × (seat ≡ s)). subst (λ (q : ℕ × Seated). IsFirst (map box_of (ends ++ end ∷ [])) lists q.0 q.1) (λ i. (sym (t.0 ∙ h.seats_are) i, t.1 i)) newest)
          (get_either seats seat place s at);
    }
