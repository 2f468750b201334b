-- The prefixes of lines that publish four bytes each, one line after the other and one change after the other.
use Rattle.std.proofs.Common.{◌≡◌, ℕ, ◌+◌, ◌<◌, ◌≤◌, Bool, true, false, not, cond, List, [], ◌∷◌, ◌++◌, length, take, map, get_or, refl, sym, ap, ◌∙◌, arith, append_assoc, ◌^◌, Option, Some, None, Result, Ok, Err, IfOk}
use Rattle.std.specs.Prelude.{◌==◌, IfSome}
use Rattle.std.specs.Int.{w32, to_be_bytes}
use Rattle.std.specs.List.{filter}
use Rattle.std.proofs.lemmas.List.{length-map, map-append}
use Rattle.std.proofs.lemmas.List.Filters.{length-filter_both}
use Rattle.sb_model.specs.declared.history.Added.{Added}
use Rattle.sb_model.specs.declared.names.ListName.{ListName}
use Rattle.sb_model.specs.History.{prefix_of, sizes_at}
use Rattle.list_versions.specs.Draft.{history_of}
use Rattle.list_versions.specs.Loaded.{IsStem}
use Rattle.list_versions.specs.Quads.{quads_of}
use Rattle.list_versions.specs.declared.draft.Draft.{Draft}
use Rattle.list_versions.specs.Ends.{Line, lasting}
use Rattle.list_versions.specs.Numbers.{quads_in}
use Rattle.list_versions.proofs.Standings.{end_lasts, line_left, line_pushed, lines_whole, part, part_more}

abbrev prefixes : ℕ → List Line → List (List ℕ)
prefixes v lines = map prefix_of (lasting v true lines)

pub head_pushed : (v : ℕ) (lines : List Line) (adds : List Added) (ends : List ℕ) (i : ℕ) (d : Added) (first old new : List (List ℕ)) → map (λ (l : Line). l.0) lines ≡ adds → map (λ (l : Line). l.1) lines ≡ ends
    → i < length adds → end_lasts v true (get_or ends i 0) ≡ true → old ≡ first ++ prefixes v (take i lines) → new ≡ old ++ prefix_of (get_or adds i d) ∷ [] → new ≡ first ++ prefixes v (take (i + 1) lines)
head_pushed v lines adds ends i d first old new a e lt above before is =
    is ∙ ap (λ (qs : List (List ℕ)). qs ++ prefix_of (get_or adds i d) ∷ []) before ∙ append_assoc first (prefixes v (take i lines)) (prefix_of (get_or adds i d) ∷ [])
    ∙ ap (λ (qs : List (List ℕ)). first ++ qs) (sym (map-append {B = List ℕ} prefix_of (lasting v true (take i lines)) (get_or adds i d ∷ []))
    ∙ ap (map prefix_of) (line_pushed v true lines adds [] ends i d a e lt above))

pub head_left : (v : ℕ) (lines : List Line) (adds : List Added) (ends : List ℕ) (i : ℕ) (first old : List (List ℕ)) → map (λ (l : Line). l.0) lines ≡ adds → map (λ (l : Line). l.1) lines ≡ ends
    → i < length adds → end_lasts v true (get_or ends i 0) ≡ false → old ≡ first ++ prefixes v (take i lines) → old ≡ first ++ prefixes v (take (i + 1) lines)
head_left v lines adds ends i first old a e lt below before =
    before ∙ ap (λ (es : List Added). first ++ map prefix_of es) (line_left v true lines adds [] ends i a e lt below)

pub heads_whole : (v : ℕ) (lines : List Line) (adds : List Added) (i : ℕ) (first old : List (List ℕ)) → map (λ (l : Line). l.0) lines ≡ adds → length adds ≤ i
    → old ≡ first ++ prefixes v (take i lines) → old ≡ first ++ prefixes v lines
heads_whole v lines adds i first old a past before = before ∙ ap (λ (es : List Added). first ++ map prefix_of es) (lines_whole v true lines adds [] i a past)

pub part_pushed : (v from count : ℕ) (lines : List Line) (old new : List (List ℕ)) → old ≡ prefixes v (take from lines) → new ≡ old ++ prefixes v (part from count lines) → new ≡ prefixes v (take (from + count) lines)
part_pushed v from count lines old new before is =
    is ∙ ap (λ (qs : List (List ℕ)). qs ++ prefixes v (part from count lines)) before
    ∙ sym (map-append {B = List ℕ} prefix_of (lasting v true (take from lines)) (lasting v true (part from count lines))) ∙ ap (map prefix_of) (sym (part_more v true from count lines))

-- ---- a set of prefixes of four bytes alone

whole_step : (p : List ℕ → Bool) (x : List ℕ) (xs : List (List ℕ)) (b : Bool) → p x ≡ b → length (cond b (x ∷ filter p xs) (filter p xs)) ≡ length (x ∷ xs)
    → (length (filter p xs) ≡ length xs → filter p xs ≡ xs) → cond b (x ∷ filter p xs) (filter p xs) ≡ x ∷ xs
whole_step p x xs true is long more = ap (λ (ys : List (List ℕ)). x ∷ ys) (more (omega (arith, long)))
whole_step p x xs false is long more = absurd (omega (arith, long, length-filter_both p (λ y. not (p y)) (λ _. refl) xs))

filter_whole : (p : List ℕ → Bool) (xs : List (List ℕ)) → length (filter p xs) ≡ length xs → filter p xs ≡ xs
filter_whole p [] long = refl
filter_whole p (x ∷ xs) long = whole_step p x xs (p x) refl long (filter_whole p xs)

pub all_quads : (set : List (List ℕ)) → length (quads_in set) ≡ length set → quads_in set ≡ set
all_quads set long = filter_whole (λ (member : List ℕ). length member == 4) set long

-- ---- what is found

pub when_some : {A E : Type 0} (result : Result (Option A) E) (P Q : A → Type 0) → ((x : A) → P x → Q x) → IfOk result (λ found. IfSome found P) → IfOk result (λ found. IfSome found Q)
when_some (Ok (Some x)) P Q f h = f x h
when_some (Ok None) P Q f h = tt
when_some (Err fault) P Q f h = tt

pub few_found : (draft : Draft) (list : ListName) (version : ℕ) (found : List ℕ) → IsStem draft → version ≤ length draft.changes.items → quads_of found ≡ map prefix_of (sizes_at (history_of draft) list version)
    → length found < 2 ^ 32
few_found draft list version found stem within is =
    omega (
      arith,
      length-map {B = List ℕ} found (to_be_bytes w32),
      ap length is,
      length-map {B = List ℕ} (sizes_at (history_of draft) list version) prefix_of,
      (stem.within list version within).count,
    )
