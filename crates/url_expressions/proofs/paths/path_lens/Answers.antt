use Rattle.std.proofs.Common.{◌≡◌, ◌≤◌, ◌++◌, ◌∷◌, [], All, length, take, sym, ap, subst, ◌∙◌, arith, length-append}
use Rattle.std.specs.Prelude.{map}
use Rattle.std.proofs.lemmas.List.Elements.{All-nil}
use Rattle.url_canon.specs.Path.{path_text}
use Rattle.url_canon.specs.Url.{query_text}
use Rattle.url_expressions.specs.Expressions.{first_occurrences, path_with_query, folders_of}
use Rattle.url_expressions.proofs.Pieces.{pushed, pushed_within}
use Rattle.url_expressions.proofs.Joined.{two_lens, with_folders}
use Rattle.url_expressions.proofs.paths.path_lens.Goals as goal

pub returns : goal.returns
returns c =
    let path = c.args.path.now in
    let whole = c.args.path_and_query.now in
    let two = c.push_new-2.new.places.items in
    let two_is : two ≡ pushed (pushed [] (length whole)) (length path) = c.in_ok-push_new-2.ensures ∙ ap (λ ls. pushed ls (length path)) (c.in_ok-push_new.ensures ∙ ap (λ ls. pushed ls (length whole)) c.in_ok-lens.ensures.items) in
    let within : length path ≤ length whole → All (λ len. len ≤ length whole) two = λ small. subst (All (λ len. len ≤ length whole)) (sym two_is) (pushed_within (length whole) (pushed [] (length whole)) (length path) (pushed_within (length whole) [] (length whole) (All-nil (λ len. len ≤ length whole)) (omega arith)) small) in
    record {
      within = λ small. c.in_ok-push_folders.ensures.within (length whole) small (within small);
      value = λ cs query normal at all.
          let texts = path_with_query (path_text cs) query ++ path_text cs ∷ [] in
          let small : length path ≤ length whole = omega (arith, ap (λ t. length t) all, length-append path (query_text query)) in
          let so_far : map (λ len. take len whole) two ≡ first_occurrences texts = ap (λ ls. map (λ len. take len whole) ls) two_is ∙ two_lens cs query path whole at all in
          let folders = c.in_ok-push_folders.ensures.value cs texts (query_text query) normal at (subst (λ w. All (λ len. len ≤ length w) two) all (within small)) (subst (λ w. map (λ len. take len w) two ≡ first_occurrences texts) all so_far) in
          subst (λ w. map (λ len. take len w) c.push_folders.new.lens.items ≡ first_occurrences (texts ++ folders_of cs)) (sym all) folders ∙ ap (λ ts. first_occurrences ts) (with_folders cs query);
    }
