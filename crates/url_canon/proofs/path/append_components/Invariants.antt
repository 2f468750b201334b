use Rattle.std.proofs.Common.{◌≡◌, ◌++◌, map, drop}
use Rattle.url_canon.specs.Escaping.{escaped}
use Rattle.url_canon.specs.Path.{path_text, without_empty}
use Rattle.url_canon.proofs.path.append_components.Given as goal

abbrev pub invariant-loop-place : goal.invariant-loop-place
invariant-loop-place l =
    l.out ++ path_text (map escaped (without_empty (map (λ c. c.now) (drop l.place l.components)))) ≡ l.fn.out ++ path_text (map escaped (without_empty (map (λ c. c.now) l.components)))
