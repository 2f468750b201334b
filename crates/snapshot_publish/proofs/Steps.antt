-- Each kind of step keeps the rule of a box.
use Rattle.std.proofs.Common.{◌≡◌, ◌≢◌, ℕ, zero, suc, ◌<◌, ⊎_elim, true, false, List, [], ◌∷◌, ◌++◌, length, set, refl, sym, ap, ◌∙◌, subst, arith}
use Rattle.std.specs.Prelude.{All}
use mathlib.Core.Option.{some, some-injective, some-ne-none}
use lib.ListN.{get_elem?}
use Rattle.crossbeam_queue.specs.Fifo.{Pushes, Pops, PopsFrom, PushesAfter, Forks, Merges, Learns}
use Rattle.crossbeam_queue.proofs.Lists.{at_set, at_snoc}
use Rattle.snapshot_publish.specs.declared.view.View.{View}
use Rattle.snapshot_publish.specs.Publications.{Publications, Publication, publication, IsPrefixOf, IsLastOf}
use Rattle.snapshot_publish.specs.Rule.{no_view, publishing, told_of, learnt, Fits, Keeps, Looked, Appended, Replaced, Agrees}
use Rattle.snapshot_publish.proofs.Prefixes.{prefix_same, prefix_none, prefix_more, prefix_longer, last_of_more}

all_none : (P : Publications → Type 0) → All P []
all_none P k d h = absurd (omega arith)

all_one_more : (P : Publications → Type 0) (x : Publications) (xs : List Publications) → P x → All P xs → All P (x ∷ xs)
all_one_more P x xs p h zero d i = p
all_one_more P x xs p h (suc k) d i = h k d (omega arith)

abbrev Each : Publications → ℕ → List View → Type 0
Each all publisher views = (j : ℕ) (u : View) → get_elem? views j ≡ some u → Fits all publisher j u

fits_none : (all : Publications) (publisher pass : ℕ) → Fits all publisher pass no_view
fits_none all publisher pass = record { list = prefix_none all; beside = all_none _; publishes = λ e. absurd cc }

-- a view that fits is put in the place of another
put : (all : Publications) (publisher pass : ℕ) (views : List View) (w : View) → Each all publisher views → Fits all publisher pass w → Each all publisher (set views pass w)
put all publisher pass views w each fit j u e = ⊎_elim
    (λ (t : (j ≡ pass) × (w ≡ u)). subst (λ (z : View). Fits all publisher j z) t.1 (subst (λ (i : ℕ). Fits all publisher i w) (sym t.0) fit))
    (λ (t : (j ≢ pass) × (get_elem? views j ≡ some u)). each j u t.1)
    (at_set views pass j w u e)

-- a view that fits anywhere is put behind the others
push : (all : Publications) (publisher : ℕ) (views : List View) (w : View) → Each all publisher views → ((j : ℕ) → Fits all publisher j w) → Each all publisher (views ++ w ∷ [])
push all publisher views w each fit j u e = ⊎_elim
    (λ (t : get_elem? views j ≡ some u). each j u t)
    (λ (t : w ≡ u). subst (λ (z : View). Fits all publisher j z) t (fit j))
    (at_snoc views w u j e)

first_alone : Each [] 0 (publishing [] ∷ [])
first_alone zero u e = subst (λ (z : View). Fits [] 0 0 z) (some-injective (publishing []) u e) (record { list = prefix_same []; beside = all_none _; publishes = λ _. (refl, refl) })
first_alone (suc j) u e = absurd (some-ne-none u (sym e))

pub begins : Keeps [] (publishing [] ∷ [])
begins = record { all = []; publisher = 0; waits = tt; each = first_alone }

looks_at : (pass : ℕ) (v : View) (x : Publication) (items : List Publication) (views : List View) → Keeps (x ∷ items) views → get_elem? views pass ≡ some v
    → (w : View) × Keeps items (set views pass w) × Looked v x w
looks_at pass v x [] views h at =
    let w : View = record { list = h.all; beside = []; publishes = false } in
    let fit = h.each pass v at in (
      w,
      record {
        all = h.all;
        publisher = h.publisher;
        waits = tt;
        each = put h.all h.publisher pass views w h.each (record { list = prefix_same h.all; beside = all_none _; publishes = λ e. absurd cc });
      },
      record { last_is = h.waits; list = fit.list },
    )
looks_at pass v x (y ∷ items) views h at = absurd h.waits

pub looks : (pass : ℕ) (v : View) → Pops Keeps pass v (Looked v)
looks pass v x items views h at = looks_at pass v x items views h at

publishes_at : (pass : ℕ) (v : View) (x : Publication) (items : List Publication) (views : List View) → v.publishes ≡ true → x.number ≡ length v.list → length items < 1
    → Keeps items views → get_elem? views pass ≡ some v → (w : View) × Keeps (items ++ x ∷ []) (set views pass w) × Appended v x w
publishes_at pass v x [] views may number room h at =
    let lists = x.lists in
    let mine = (h.each pass v at).publishes may in
    let own : v.list ≡ h.all = mine.1 in
    let all : Publications = h.all ++ lists ∷ [] in
    let w : View = publishing (v.list ++ lists ∷ []) in
    let same : v.list ++ lists ∷ [] ≡ all = ap (λ (z : Publications). z ++ lists ∷ []) own in
    let last : IsLastOf all x = subst (λ (n : ℕ). IsLastOf all (publication n lists)) (sym (number ∙ ap length own)) (last_of_more h.all lists) in
    let older : (j : ℕ) (u : View) → get_elem? views j ≡ some u → j ≢ pass → Fits all pass j u = λ j u there other. record {
      list = prefix_more u.list h.all (lists ∷ []) (h.each j u there).list;
      beside = λ k d inside. prefix_more _ h.all (lists ∷ []) ((h.each j u there).beside k d inside);
      publishes = λ does. absurd (other (((h.each j u there).publishes does).0 ∙ sym mine.0));
    } in (
      w,
      record {
        all = all;
        publisher = pass;
        waits = last;
        each = λ j u e. ⊎_elim
            (λ (t : (j ≡ pass) × (w ≡ u)). subst (λ (z : View). Fits all pass j z) t.1
            (record { list = subst (λ (z : Publications). IsPrefixOf z all) (sym same) (prefix_same all); beside = all_none _; publishes = λ _. (t.0, same) }))
            (λ (t : (j ≢ pass) × (get_elem? views j ≡ some u)). older j u t.1 t.0)
            (at_set views pass j w u e);
      },
      refl,
    )
publishes_at pass v x (y ∷ items) views may number room h at = absurd (omega arith)

pub publishes : (pass : ℕ) (v : View) (x : Publication) → v.publishes ≡ true → x.number ≡ length v.list → Pushes Keeps 1 pass v x (Appended v x)
publishes pass v x may number items views room h at = publishes_at pass v x items views may number room h at

pub publishes_after : (pass : ℕ) (v : View) (x : Publication) → v.publishes ≡ true → x.number ≡ length v.list → PushesAfter Keeps 1 pass (Replaced v) x Appended
publishes_after pass v x may number old w is = subst (λ (z : View). Pushes Keeps 1 pass z x (Appended z x)) (sym is) (publishes pass v x may number)

replaces_at : (pass : ℕ) (v : View) (x : Publication) (items : List Publication) (views : List View) → Keeps (x ∷ items) views → get_elem? views pass ≡ some v
    → (w : View) × Keeps items (set views pass w) × Replaced v x w
replaces_at pass v x [] views h at = (v, record { all = h.all; publisher = h.publisher; waits = tt; each = put h.all h.publisher pass views v h.each (h.each pass v at) }, refl)
replaces_at pass v x (y ∷ items) views h at = absurd h.waits

pub replaces : (pass : ℕ) (v : View) → PopsFrom Keeps 1 pass v (Replaced v)
replaces pass v x items views full h at = replaces_at pass v x items views h at

pub tells : (pass : ℕ) (v : View) → Forks Keeps pass v v (told_of v)
tells pass v items views h at = record {
  all = h.all;
  publisher = h.publisher;
  waits = h.waits;
  each = push h.all h.publisher (set views pass v) (told_of v)
      (put h.all h.publisher pass views v h.each (h.each pass v at))
      (λ j. record { list = (h.each pass v at).list; beside = all_none _; publishes = λ e. absurd cc });
}

pub learns : (pass : ℕ) (v : View) (other : ℕ) (w : View) → Merges Keeps pass v other w (learnt v w) no_view
learns pass v other w items views h at apart there =
    let mine = h.each pass v at in
    let theirs : Fits h.all h.publisher other w = ⊎_elim
    (λ (t : (other ≡ pass) × (learnt v w ≡ w)). absurd (apart t.0))
    (λ (t : (other ≢ pass) × (get_elem? views other ≡ some w)). h.each other w t.1)
    (at_set views pass other (learnt v w) w there) in
    let P : Publications → Type 0 = λ earlier. IsPrefixOf earlier h.all in
    let fit : Fits h.all h.publisher pass (learnt v w) = record {
      list = prefix_longer v.list w.list h.all mine.list theirs.list;
      beside = all_one_more P v.list (w.list ∷ v.beside) mine.list (all_one_more P w.list v.beside theirs.list mine.beside);
      publishes = λ e. absurd cc;
    } in record {
      all = h.all;
      publisher = h.publisher;
      waits = h.waits;
      each = put h.all h.publisher other (set views pass (learnt v w)) no_view
          (put h.all h.publisher pass views (learnt v w) h.each fit)
          (fits_none h.all h.publisher other);
    }

pub compares : (pass : ℕ) (v : View) → Learns Keeps pass v (λ _. Agrees v)
compares pass v items views h at = let fit = h.each pass v at in record { all = h.all; list = fit.list; beside = fit.beside }
