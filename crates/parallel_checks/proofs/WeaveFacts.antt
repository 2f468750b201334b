-- Checks in the order of the lines, from the rows of the seats.
use Rattle.std.proofs.Common.{◌≡◌, ◌≢◌, ℕ, ◌+◌, ◌*◌, ◌<◌, ◌≤◌, ◌⊎◌, inl, inr, ⊎_elim, List, [], ◌∷◌, ◌++◌, length, set, sym, ap, ◌∙◌, arith, length-append}
use Rattle.std.specs.Prelude.{Some, slice_get}
use Rattle.std.proofs.lemmas.Option.{slice_get_within}
use Rattle.url_checker.specs.declared.findings.Checked.{Checked}
use Rattle.parallel_checks.specs.Working.{IsWoven, AreLong}
use Rattle.parallel_checks.proofs.ListFacts.{get_either, get_there, set_there, set_other, set_length}
use Rattle.parallel_checks.proofs.LineFacts.{same_line, same_or}

-- So many checks were taken: each stands where it belongs, and the others are still in the rows.
pub record Taken (rows now : List (List Checked)) (woven : List Checked) (index : ℕ) : Type 0 where
  pub count : length now ≡ length rows
  pub long : length woven ≡ index
  pub is_woven : IsWoven rows woven
  pub left : (place turn : ℕ) (row row' : List Checked) → slice_get rows place ≡ Some row → slice_get now place ≡ Some row' → index ≤ place + turn * length rows
      → slice_get row' turn ≡ slice_get row turn

module _ (rows now : List (List Checked)) (woven : List Checked) (index place turn : ℕ) (check : Checked) (row row' : List Checked)
    (h : Taken rows now woven index) (is : index ≡ place + turn * length rows) (within : place < length rows) (at : slice_get now place ≡ Some row)
    (took : slice_get row turn ≡ Some check) (others : (other : ℕ) → other ≢ turn → slice_get row' other ≡ slice_get row other) where
  woven_more : IsWoven rows (woven ++ check ∷ [])
  woven_more p t r c there got = ⊎_elim
      (λ (old : slice_get woven (p + t * length rows) ≡ Some c). h.is_woven p t r c there old)
      (λ (new : (p + t * length rows ≡ length woven) × (check ≡ c)).
      let same = same_line p t place turn (length rows) (slice_get_within rows p r there) within (new.0 ∙ (h.long ∙ is)) in
      let here : slice_get rows place ≡ Some r = ap (slice_get rows) (sym same.0) ∙ there in
      let far : index ≤ place + turn * length rows = omega (arith, is) in
      ap (slice_get r) same.1 ∙ (sym (h.left place turn r row here at far) ∙ (took ∙ ap Some new.1)))
      (get_either woven check (p + t * length rows) c got)

  other_left : (p t : ℕ) (r r' : List Checked) → slice_get rows p ≡ Some r → slice_get (set now place row') p ≡ Some r' → index + 1 ≤ p + t * length rows
      → (p ≡ place) ⊎ (p ≢ place) → slice_get r' t ≡ slice_get r t
  other_left p t r r' there got far (inl e) =
      let now_is : slice_get (set now place row') place ≡ Some r' = ap (slice_get (set now place row')) (sym e) ∙ got in
      let row_is : row' ≡ r' = set_there now place row' r' now_is in
      let away : t ≢ turn = λ same. absurd (omega (arith, is, far, ap (λ (q : ℕ × ℕ). q.0 + q.1 * length rows) (λ i. (e i, same i)))) in
      let here : slice_get rows place ≡ Some r = ap (slice_get rows) (sym e) ∙ there in
      let far' : index ≤ place + t * length rows = omega (arith, far, ap (λ (q : ℕ). q + t * length rows) e) in
      ap (λ (l : List Checked). slice_get l t) (sym row_is) ∙ (others t away ∙ h.left place t r row here at far')
  other_left p t r r' there got far (inr away) =
      h.left p t r r' there (sym (set_other now place p row' away) ∙ got) (omega (arith, far))

  pub one_more_taken : Taken rows (set now place row') (woven ++ check ∷ []) (index + 1)
  one_more_taken = record {
    count = set_length now place row' ∙ h.count;
    long = omega (arith, h.long, length-append woven (check ∷ []));
    is_woven = woven_more;
    left = λ p t r r' there got far. other_left p t r r' there got far (same_or p place);
  }

-- what is to be taken next is still there
pub still_there : (rows now : List (List Checked)) (woven : List Checked) (count index place turn : ℕ) (row : List Checked) → Taken rows now woven index → AreLong rows count → index < count
    → index ≡ place + turn * length rows → place < length rows → slice_get now place ≡ Some row → turn < length row
still_there rows now woven count index place turn row h long i is within at =
    let was = get_there rows place within in
    let check = get_there was.0 turn (long place turn was.0 was.1 (omega (arith, is, i))) in
    slice_get_within row turn check.0 (h.left place turn was.0 row was.1 at (omega (arith, is)) ∙ check.1)
