-- The sets of a list at two versions, by what went and what came between them.
use Rattle.std.proofs.Common.{◌≡◌, ◌⊎◌, inl, inr, ℕ, ◌<◌, ◌≤◌, nat_lt, Bool, true, false, List, [], ◌∷◌, ◌++◌, length, take, drop, map, get_or, refl, sym, ap, subst, ◌∙◌, arith, Result, Ok, Err, IfOk}
use Rattle.std.specs.Prelude.{◌==◌, All, Contains}
use Rattle.std.proofs.lemmas.Bool.{eqb-true}
use Rattle.std.proofs.lemmas.Bool.Decides.{nat_tests}
use Rattle.std.proofs.lemmas.List.{map-append, take-append-drop, take_all}
use Rattle.std.proofs.lemmas.List.Elements.{All-contains, Contains-get_or}
use Rattle.sb_model.specs.declared.history.Added.{Added}
use Rattle.sb_model.specs.declared.history.Change.{Change}
use Rattle.sb_model.specs.declared.names.ListName.{ListName}
use Rattle.sb_model.specs.History.{prefix_of, prefixes_at, sizes_at}
use Rattle.sb_model.specs.Prefixes.{set_of}
use Rattle.list_versions.specs.Draft.{history_of}
use Rattle.list_versions.specs.Ends.{Line, adds_of, lasting, never, standing, unended}
use Rattle.list_versions.specs.Folding.{after_changes}
use Rattle.list_versions.specs.Live.{HasPlaced, IsPlaced, IsPublishable, shown}
use Rattle.list_versions.specs.Loaded.{IsStem}
use Rattle.list_versions.specs.Shifting.{AreShifted}
use Rattle.list_versions.specs.declared.draft.Draft.{Draft}
use Rattle.list_versions.specs.declared.live.Live.{Live}
use Rattle.list_versions.proofs.Ended.{unended_append}
use Rattle.list_versions.proofs.Folds.{publishable_at}
use Rattle.list_versions.proofs.Mapped.{SetLaws, set_is}
use Rattle.list_versions.proofs.Membership.{In, contains_in, in_contained, in_left, in_right, in_either, in_map, from_map}
use Rattle.list_versions.proofs.Shown.{all_shown}
use Rattle.list_versions.proofs.Versions.{newest_lines}

-- ---- those that stand are those that have no end and those that end later

split_step : (v : ℕ) (line : Line) (b c : Bool) (x : Added) (lines : List Line) → v < never → nat_lt v line.1 ≡ b → (line.1 == never) ≡ c → In x (standing v (line ∷ lines)) → (In x (standing v lines) → In x (unended lines) ⊎ In x (lasting v false lines))
    → In x (unended (line ∷ lines)) ⊎ In x (lasting v false (line ∷ lines))
split_step v line true true x lines small e f h more = elim (rw e at h) [
  | inl is ↦ inl (rw f (inl is))
  | inr rest ↦ elim (more rest) [ inl i ↦ inl (rw f (inr i)) | inr i ↦ inr (rw (e, f) i) ]
]
split_step v line true false x lines small e f h more = elim (rw e at h) [
  | inl is ↦ inr (rw (e, f) (inl is))
  | inr rest ↦ elim (more rest) [ inl i ↦ inl (rw f i) | inr i ↦ inr (rw (e, f) (inr i)) ]
]
split_step v line false true x lines small e f h more =
    let is : line.1 ≡ never = eqb-true line.1 never f in
    let above : nat_lt v line.1 ≡ true = (let lt : v < line.1 = omega (arith, is, small) in grind (arith, nat_tests)) in
    cc (e, above)
split_step v line false false x lines small e f h more = elim (more (rw e at h)) [ inl i ↦ inl (rw f i) | inr i ↦ inr (rw e i) ]

split : (v : ℕ) (lines : List Line) (x : Added) → v < never → In x (standing v lines) → In x (unended lines) ⊎ In x (lasting v false lines)
split v [] x small h = absurd h
split v (line ∷ lines) x small h = split_step v line (nat_lt v line.1) (line.1 == never) x lines small refl refl h (λ i. split v lines x small i)

join_step : (v : ℕ) (line : Line) (b c : Bool) (x : Added) (lines : List Line) → v < never → nat_lt v line.1 ≡ b → (line.1 == never) ≡ c → In x (unended (line ∷ lines)) ⊎ In x (lasting v false (line ∷ lines))
    → (In x (unended lines) ⊎ In x (lasting v false lines) → In x (standing v lines)) → In x (standing v (line ∷ lines))
join_step v line true true x lines small e f (inl h) more = rw e (elim (rw f at h) [ inl is ↦ inl is | inr i ↦ inr (more (inl i)) ])
join_step v line true true x lines small e f (inr h) more = rw e (inr (more (inr (rw (e, f) at h))))
join_step v line true false x lines small e f (inl h) more = rw e (inr (more (inl (rw f at h))))
join_step v line true false x lines small e f (inr h) more = rw e (elim (rw (e, f) at h) [ inl is ↦ inl is | inr i ↦ inr (more (inr i)) ])
join_step v line false true x lines small e f h more =
    let is : line.1 ≡ never = eqb-true line.1 never f in
    let above : nat_lt v line.1 ≡ true = (let lt : v < line.1 = omega (arith, is, small) in grind (arith, nat_tests)) in
    cc (e, above)
join_step v line false false x lines small e f (inl h) more = rw e (more (inl (rw f at h)))
join_step v line false false x lines small e f (inr h) more = rw e (more (inr (rw e at h)))

join : (v : ℕ) (lines : List Line) (x : Added) → v < never → In x (unended lines) ⊎ In x (lasting v false lines) → In x (standing v lines)
join v [] x small (inl h) = absurd h
join v [] x small (inr h) = absurd h
join v (line ∷ lines) x small h = join_step v line (nat_lt v line.1) (line.1 == never) x lines small refl refl h (λ i. join v lines x small i)

-- the prefixes of a version
earlier_prefixes : SetLaws → (v : ℕ) (lines : List Line) → v < never → set_of (map prefix_of (standing v lines)) ≡ set_of (map prefix_of (unended lines ++ lasting v false lines))
earlier_prefixes laws v lines small =
    set_is laws (set_of (map prefix_of (standing v lines))) (map prefix_of (unended lines ++ lasting v false lines)) (laws.rising (map prefix_of (standing v lines)))
    (λ z. (λ c. there z ((laws.members (map prefix_of (standing v lines)) z).0 c), λ c. (laws.members (map prefix_of (standing v lines)) z).1 (back z c)))
  where
    there : (z : List ℕ) → Contains (map prefix_of (standing v lines)) z → Contains (map prefix_of (unended lines ++ lasting v false lines)) z
    there z c =
        let from = from_map prefix_of z (standing v lines) (in_contained z _ c) in
        contains_in z _ (subst (λ y. In y (map prefix_of (unended lines ++ lasting v false lines))) from.holds
        (in_map prefix_of from.item (unended lines ++ lasting v false lines) (elim (split v lines from.item small from.there) [
          | inl i ↦ in_left from.item (unended lines) (lasting v false lines) i
          | inr i ↦ in_right from.item (unended lines) (lasting v false lines) i
        ])))

    back : (z : List ℕ) → Contains (map prefix_of (unended lines ++ lasting v false lines)) z → Contains (map prefix_of (standing v lines)) z
    back z c =
        let from = from_map prefix_of z (unended lines ++ lasting v false lines) (in_contained z _ c) in
        contains_in z _ (subst (λ y. In y (map prefix_of (standing v lines))) from.holds
        (in_map prefix_of from.item (standing v lines) (join v lines from.item small (in_either from.item (unended lines) (lasting v false lines) from.there))))

-- ---- a list at two versions

pub record IsShifted (draft : Draft) (list : ListName) (version : ℕ) (lines : List Line) (count : ℕ) : Type 0 where
  pub older : prefixes_at (history_of draft) list version ≡ set_of (map prefix_of (unended (take count lines) ++ lasting version false (take count lines)))
  pub newer : prefixes_at (history_of draft) list (length draft.changes.items) ≡ set_of (map prefix_of (unended (take count lines) ++ unended (drop count lines)))
  pub first : All IsPublishable (unended (take count lines))
  pub went : All IsPublishable (lasting version false (take count lines))
  pub came : All IsPublishable (unended (drop count lines))

all_in : (P : Added → Type 0) (whole part : List Added) → All P whole → ((x : Added) → In x part → In x whole) → All P part
all_in P whole part h within k d lt = All-contains P whole (get_or part k d) h (contains_in (get_or part k d) whole (within (get_or part k d) (in_contained (get_or part k d) part (Contains-get_or part k d lt))))

pub shifts : SetLaws → (draft : Draft) (list : ListName) (version count : ℕ) (live : Live) (placed : HasPlaced list draft.changes.items live) → IsStem draft → version ≤ length draft.changes.items
    → count ≡ length (adds_of list (take version draft.changes.items)) → IsShifted draft list version placed.lines count
shifts laws draft list version count live placed h within e =
    let lines = placed.lines in
    let small : length draft.changes.items < never = omega (arith, h.few_changes) in
    let at : sizes_at (history_of draft) list version ≡ standing version (take count lines) =
    placed.are.versions version within ∙ ap (λ n. standing version (take n lines)) (sym e) in
    let now : sizes_at (history_of draft) list (length draft.changes.items) ≡ unended (take count lines) ++ unended (drop count lines) =
    ap (after_changes list) (take_all (length draft.changes.items) draft.changes.items (omega arith)) ∙ newest_lines list draft.changes.items lines placed.are small
    ∙ ap unended (sym (take-append-drop count lines)) ∙ unended_append (take count lines) (drop count lines) in
    let well_at : All IsPublishable (standing version (take count lines)) = subst (All IsPublishable) at (publishable_at draft list version h) in
    let well_now : All IsPublishable (unended (take count lines) ++ unended (drop count lines)) = subst (All IsPublishable) now (publishable_at draft list (length draft.changes.items) h) in
    let below : version < never = omega (arith, within, small) in
    record {
      older = ap (λ es. set_of (map prefix_of es)) at ∙ earlier_prefixes laws version (take count lines) below;
      newer = ap (λ es. set_of (map prefix_of es)) now;
      first = all_in IsPublishable _ (unended (take count lines)) well_now (λ x i. in_left x (unended (take count lines)) (unended (drop count lines)) i);
      went = all_in IsPublishable _ (lasting version false (take count lines)) well_at (λ x i. join version (take count lines) x below (inr i));
      came = all_in IsPublishable _ (unended (drop count lines)) well_now (λ x i. in_right x (unended (take count lines)) (unended (drop count lines)) i);
    }

-- what went and what came, of the lines that are placed
pub record IsFound (list : ListName) (changes : List Change) (live : Live) (placed : HasPlaced list changes live) (version count : ℕ) (gone come : List Added) : Type 0 where
  pub went : gone ≡ lasting version false (take count placed.lines)
  pub came : come ≡ unended (drop count placed.lines)

pub found_of : (list : ListName) (changes : List Change) (live : Live) (placed : HasPlaced list changes live) (version count : ℕ) (went came : List Added) (given : List Change) (ends : List ℕ) → given ≡ changes → ends ≡ live.ends.items
    → ((lines : List Line) → map (λ (l : Line). l.0) lines ≡ adds_of list given → map (λ (l : Line). l.1) lines ≡ ends → went ≡ lasting version false (take count lines))
    → ((lines : List Line) → map (λ (l : Line). l.0) lines ≡ adds_of list given → map (λ (l : Line). l.1) lines ≡ ends → came ≡ unended (drop count lines))
    → IsFound list changes live placed version count went came
found_of list changes live placed version count went came given ends same ends_same gone come =
    let adds = placed.are.adds ∙ ap (adds_of list) (sym same) in
    let last = sym placed.placed.ends ∙ sym ends_same in
    record { went = gone placed.lines adds last; came = come placed.lines adds last }

-- the set that is reached
pub shift_to : {E : Type 0} (result : Result (List (List ℕ)) E) (live : Live) (lines : List Line) (count : ℕ) (from to : List (List ℕ)) (leaving coming gone come : List Added) → IsPlaced live lines → All IsPublishable (unended (take count lines))
    → leaving ≡ gone → coming ≡ come → from ≡ set_of (map prefix_of (unended (take count lines) ++ gone)) → to ≡ set_of (map prefix_of (unended (take count lines) ++ come))
    → IfOk result (λ next. (ls : List Line) → IsPlaced live ls → All IsPublishable (unended (take count ls)) → from ≡ set_of (map prefix_of (unended (take count ls) ++ leaving)) → next ≡ set_of (map prefix_of (unended (take count ls) ++ coming)))
    → IfOk result (λ next. next ≡ to)
shift_to (Err fault) live lines count from to leaving coming gone come placed first g c f t h = tt
shift_to (Ok next) live lines count from to leaving coming gone come placed first g c f t h =
    h lines placed first (f ∙ ap (λ es. set_of (map prefix_of (unended (take count lines) ++ es))) (sym g)) ∙ ap (λ es. set_of (map prefix_of (unended (take count lines) ++ es))) c ∙ sym t

-- the sets of two versions, by what is published of the full hashes that went and came
pub sets_shifted : (first gone come leaving coming : List Added) (from to : List (List ℕ)) → All IsPublishable gone → All IsPublishable come → leaving ≡ gone → coming ≡ come
    → from ≡ set_of (map prefix_of (first ++ gone)) → to ≡ set_of (map prefix_of (first ++ come)) → AreShifted from to (map shown leaving) (map shown coming)
sets_shifted first gone come leaving coming from to well_gone well_come g c f t = record {
  both = map prefix_of first;
  before = f ∙ ap set_of (map-append {B = List ℕ} prefix_of first gone ∙ ap (λ ps. map prefix_of first ++ ps) (sym (ap (map shown) g ∙ all_shown gone well_gone)));
  after = t ∙ ap set_of (map-append {B = List ℕ} prefix_of first come ∙ ap (λ ps. map prefix_of first ++ ps) (sym (ap (map shown) c ∙ all_shown come well_come)));
}
