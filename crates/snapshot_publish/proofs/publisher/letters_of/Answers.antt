use Rattle.std.proofs.Common.{◌≡◌, ℕ, List, [], ◌∷◌, ◌++◌, ◌<◌, length, map, take, set, ap, sym, ◌∙◌, subst, arith}
use Rattle.std.specs.Prelude.{slice_get, Some}
use Rattle.std.proofs.lemmas.List.{map-append}
use Rattle.std.proofs.lemmas.Option.{slice_get_within}
use Rattle.snapshot_publish.specs.Publications.{Publication, IsLastOf}
use Rattle.snapshot_publish.specs.Publishing.{Known, Told, told_at}
use Rattle.snapshot_publish.proofs.Boxes.{set_same, all_at, take_one}
use Rattle.snapshot_publish.proofs.publisher.letters_of.Goals as goal

pub returns-in_err-copy-clause-kept : goal.returns-in_err-copy-clause-kept
returns-in_err-copy-clause-kept c = set_same c.loop-place.ends c.loop-place.place c.at_mut.result.now c.at_mut.ensures.value ∙ c.loop-place.invariant.same

pub tell-letter-requires : goal.tell-letter-requires
tell-letter-requires c =
    let got = ap (λ (l : List Known). slice_get l c.loop-place.place) (sym c.loop-place.invariant.same) ∙ c.at_mut.ensures.value in
    subst (λ (p : Publication). IsLastOf c.at_mut.result.now.view.list p) (sym c.in_ok-copy.ensures)
    (all_at (λ (k : Known). IsLastOf k.view.list c.args.last.now) c.args.ends.now c.loop-place.place c.at_mut.result.now c.requires got)

pub returns-in_err-push-clause-kept : goal.returns-in_err-push-clause-kept
returns-in_err-push-clause-kept c =
    ap (λ (k : Known). set c.loop-place.ends c.loop-place.place k) c.tell-letter.ensures.kept
    ∙ (set_same c.loop-place.ends c.loop-place.place c.at_mut.result.now c.at_mut.ensures.value ∙ c.loop-place.invariant.same)

pub loop-place-preserved : goal.loop-place-preserved
loop-place-preserved c =
    let place : ℕ = c.loop-place.place in let old = c.args.ends.now in let inv = c.loop-place.invariant in
    let got : slice_get old place ≡ Some c.at_mut.result.now = ap (λ (l : List Known). slice_get l place) (sym inv.same) ∙ c.at_mut.ensures.value in
    let within : place < length old = slice_get_within old place c.at_mut.result.now got in record {
      same = ap (λ (k : Known). set c.loop-place.ends place k) c.tell-letter.ensures.kept ∙ (set_same c.loop-place.ends place c.at_mut.result.now c.at_mut.ensures.value ∙ inv.same);
      told = c.in_ok-push.ensures.ok
          ∙ (ap (λ (l : List Told). l ++ c.tell-letter.result ∷ []) inv.told
          ∙ (ap (λ (t : Told). map told_at (take place old) ++ t ∷ []) c.tell-letter.ensures.letter
          ∙ (sym (map-append told_at (take place old) (c.at_mut.result.now ∷ []))
          ∙ ap (map told_at) (sym (take_one old place c.at_mut.result.now got)))));
      within = omega arith;
    }
