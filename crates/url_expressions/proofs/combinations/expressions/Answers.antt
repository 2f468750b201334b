use Rattle.std.proofs.Common.{sym, ap, subst, ◌∙◌}
use Rattle.std.specs.Prelude.{map}
use Rattle.std.specs.List.{IsDistinct}
use Rattle.std.specs.Str.{bytes_eq}
use Rattle.url_expressions.specs.Expressions.{combinations, hosts_of, paths_of}
use Rattle.url_expressions.specs.Spans.{piece_of}
use Rattle.url_expressions.proofs.Occurrences.{distinct_occurrences}
use Rattle.url_expressions.proofs.combinations.expressions.Goals as goal

pub returns-clause-distinct : goal.returns-clause-distinct
returns-clause-distinct c =
    let url = c.args.url.now in
    let exact = c.in_ok-all.ensures ∙ (ap (λ spans. map (piece_of c.without_scheme.result.now) spans) c.as_slice.ensures ∙ (ap (λ text. map (piece_of text) c.in_ok-spans.spans) c.without_scheme.ensures ∙ c.in_ok-spans.ensures.exact)) in
    subst (IsDistinct bytes_eq) (sym exact) (distinct_occurrences (combinations (hosts_of url.host url.is_address) (paths_of url.path url.query)))
