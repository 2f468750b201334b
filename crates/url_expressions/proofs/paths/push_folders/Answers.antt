use Rattle.std.proofs.Common.{◌++◌, ◌+◌, ◌≤◌, [], ◌∷◌, All, length, take, refl, sym, ap, subst, ◌∙◌, arith, length-append}
use Rattle.std.specs.Prelude.{map}
use Rattle.std.proofs.lemmas.List.{append-nil}
use Rattle.url_expressions.specs.Expressions.{first_occurrences}
use Rattle.url_expressions.proofs.Pieces.{pushed_within}
use Rattle.url_expressions.proofs.Slashes.{slash_fronts, next_folder, no_folder, folder_pushed, folders_all, folders_four}
use Rattle.url_expressions.proofs.paths.push_folders.Goals as goal

pub loop-init : goal.loop-init
unfolding slash_fronts
loop-init c = record {
  from = omega arith;
  count = refl;
  within = λ most fits h. h;
  value = λ texts rest h so_far. so_far ∙ ap (λ ts. first_occurrences ts) (sym (append-nil texts));
}

pub loop-preserved : goal.loop-preserved
loop-preserved c =
    let path = c.args.path.now in
    let from = c.loop.from in
    let to = from + (c.in-Some.slash + 1) in
    let inv = c.loop.invariant in
    let next = next_folder path from c.in-Some.slash to inv.from c.in-Some.ensures refl in
    record {
      from = next.0;
      count = omega (arith, ap (λ fs. length fs) next.1, length-append (slash_fronts (take from path)) (take to path ∷ []), inv.count);
      within = λ most fits h. subst (All (λ len. len ≤ most)) (sym c.in_ok-push_new.ensures) (pushed_within most c.loop.lens.items to (inv.within most fits h) (omega (arith, next.0)));
      value = λ texts rest h so_far. ap (λ ls. map (λ len. take len (path ++ rest)) ls) c.in_ok-push_new.ensures
          ∙ folder_pushed path rest from to c.loop.lens.items texts next.0 next.1 (inv.within (length (path ++ rest)) (omega (arith, length-append path rest)) h) (inv.value texts rest h so_far);
    }

pub returns-in_default-clause-value : goal.returns-in_default-clause-value
returns-in_default-clause-value c = λ path_components texts rest normal at h so_far.
    let path = c.args.path.now in
    c.loop.invariant.value texts rest h so_far ∙ ap (λ fs. first_occurrences (texts ++ fs)) (folders_all path path_components c.loop.from normal at (no_folder path c.loop.from c.in_default.ensures) (omega (arith, c.loop.invariant.count)))

pub returns-clause-value : goal.returns-clause-value
returns-clause-value c = λ path_components texts rest normal at h so_far.
    let path = c.args.path.now in
    c.loop.invariant.value texts rest h so_far ∙ ap (λ fs. first_occurrences (texts ++ fs)) (folders_four path path_components c.loop.from normal at (omega (arith, c.loop.invariant.count)))
