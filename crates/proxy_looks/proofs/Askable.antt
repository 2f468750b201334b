-- Some of the hits for which one find may ask.
use Rattle.std.proofs.Common.{◌≡◌, ℕ, ◌≤◌, Bool, true, false, cond, List, [], ◌∷◌, length, map, refl, ◌∙◌, arith}
use Rattle.std.specs.Prelude.{filter, ◌↔◌, ◌||◌, Contains, All}
use Rattle.std.specs.Ordering.{eq_by_cmp}
use Rattle.std.specs.Set.{is_member}
use Rattle.std.specs.Str.{bytes_eq}
use Rattle.std.specs.Cmp.Lexicographic.{nat_list_eq_equiv, nat_list_cmp_total, texts_ties}
use Rattle.std.proofs.lemmas.Cmp.{eq_by_cmp_equiv}
use Rattle.std.proofs.lemmas.Bool.{false≢true}
use Rattle.std.proofs.lemmas.List.Elements.{All-cons, All-head, All-nil, All-tail}
use Rattle.std.proofs.lemmas.Map.Keys.{IsDistinct-from_sorted}
use Rattle.std.proofs.lemmas.Map.Made.{length-le_from_is_member}
use Rattle.std.proofs.lemmas.Map.Views.{Contains-from_any, list_any-from_Contains}
use Rattle.std.proofs.lemmas.Slice.Eq.{bytes_eq-Decides}
use Rattle.sb_model.specs.Prefixes.{IsRising, set_of, bytes_cmp}
use Rattle.url_checker.specs.Hits.{AreAskable, BeginsHash}
use Rattle.url_checker.specs.declared.findings.Hit.{Hit}

-- the prefixes of hits as they stand
abbrev pub prefixes_in : List Hit → List (List ℕ)
prefixes_in hits = map (λ (hit : Hit). hit.prefix) hits

-- each member of one list is one of another
Within : List (List ℕ) → List (List ℕ) → Type 0
Within xs ys = (q : List ℕ) → is_member bytes_eq xs q ≡ true → is_member bytes_eq ys q ≡ true

either : (a b c d : Bool) → (a ≡ true → c ≡ true) → (b ≡ true → d ≡ true) → (a || b) ≡ true → (c || d) ≡ true
either true b true d first second h = refl
either true b false d first second h = absurd (false≢true (first refl))
either false b true d first second h = refl
either false b false d first second h = second h

right : (a b : Bool) → b ≡ true → (a || b) ≡ true
right true b e = refl
right false b e = e

same_by_order : (x y : List ℕ) → eq_by_cmp bytes_cmp x y ≡ true → x ≡ y
same_by_order x y h = (bytes_eq-Decides x y).0 (texts_ties x y ∙ h)

same_by_bytes : (x y : List ℕ) → bytes_eq x y ≡ true → x ≡ y
same_by_bytes x y h = (bytes_eq-Decides x y).0 h

-- a set of members of a list is no longer than the list
no_longer : ((xs : List (List ℕ)) → IsRising (set_of xs)) → ((xs : List (List ℕ)) (x : List ℕ) → Contains (set_of xs) x ↔ Contains xs x)
    → (ps ys : List (List ℕ)) → Within ps ys → length (set_of ps) ≤ length ys
unfolding Within
no_longer rising members ps ys within =
    length-le_from_is_member (eq_by_cmp_equiv nat_list_cmp_total) (set_of ps) ys (IsDistinct-from_sorted bytes_cmp (set_of ps) (rising ps))
    (λ q h. list_any-from_Contains (eq_by_cmp_equiv nat_list_cmp_total) q ys
    (Contains-from_any same_by_bytes q ys (within q (list_any-from_Contains nat_list_eq_equiv q ps ((members ps q).0 (Contains-from_any same_by_order q (set_of ps) h))))))

some_more : (p : Hit → Bool) (hit : Hit) (hits : List Hit) (q : List ℕ) (b : Bool) → (is_member bytes_eq (prefixes_in (filter p hits)) q ≡ true → is_member bytes_eq (prefixes_in hits) q ≡ true)
    → is_member bytes_eq (prefixes_in (cond b (hit ∷ filter p hits) (filter p hits))) q ≡ true → (bytes_eq q hit.prefix || is_member bytes_eq (prefixes_in hits) q) ≡ true
some_more p hit hits q true more h =
    either (bytes_eq q hit.prefix) (is_member bytes_eq (prefixes_in (filter p hits)) q) (bytes_eq q hit.prefix) (is_member bytes_eq (prefixes_in hits) q) (λ e. e) more h
some_more p hit hits q false more h = right (bytes_eq q hit.prefix) (is_member bytes_eq (prefixes_in hits) q) (more h)

within_some : (p : Hit → Bool) (hits : List Hit) → Within (prefixes_in (filter p hits)) (prefixes_in hits)
unfolding Within
within_some p [] q h = h
within_some p (hit ∷ hits) q h = some_more p hit hits q (p hit) (within_some p hits q) h

within_set : ((xs : List (List ℕ)) (x : List ℕ) → Contains (set_of xs) x ↔ Contains xs x) → (xs ys : List (List ℕ)) → Within xs ys → Within xs (set_of ys)
unfolding Within
within_set members xs ys within q h = list_any-from_Contains nat_list_eq_equiv q (set_of ys) ((members ys q).1 (Contains-from_any same_by_bytes q ys (within q h)))

begins_step : (p : Hit → Bool) (hit : Hit) (hits : List Hit) (b : Bool) → BeginsHash hit → All BeginsHash (filter p hits) → All BeginsHash (cond b (hit ∷ filter p hits) (filter p hits))
begins_step p hit hits true one all = All-cons BeginsHash hit (filter p hits) one all
begins_step p hit hits false one all = all

begins_some : (p : Hit → Bool) (hits : List Hit) → All BeginsHash hits → All BeginsHash (filter p hits)
begins_some p [] all = All-nil BeginsHash
begins_some p (hit ∷ hits) all = begins_step p hit hits (p hit) (All-head BeginsHash hit hits all) (begins_some p hits (All-tail BeginsHash hit hits all))

-- one find may ask for some of the hits for which one may ask
pub askable_some : ((xs : List (List ℕ)) → IsRising (set_of xs)) → ((xs : List (List ℕ)) (x : List ℕ) → Contains (set_of xs) x ↔ Contains xs x)
    → (p : Hit → Bool) (hits : List Hit) → AreAskable hits → AreAskable (filter p hits)
askable_some rising members p hits are = record {
  begin = begins_some p hits are.begin;
  few =
      let fewer = no_longer rising members (prefixes_in (filter p hits)) (set_of (prefixes_in hits)) (within_set members (prefixes_in (filter p hits)) (prefixes_in hits) (within_some p hits)) in
      omega (arith, fewer, are.few);
}
