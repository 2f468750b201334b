use Rattle.std.proofs.Common.{map, ap, ◌∙◌}
use Rattle.url_expressions.specs.Expressions.{expressions_of}
use Rattle.url_expressions.specs.Spans.{piece_of}
use Rattle.url_expressions.specs.declared.spans.Span.{Span}
use Rattle.url_hashes.specs.Hashes.{full_hash_of}
use Rattle.url_hashes.proofs.Pieces.{hashes_of_pieces, hashes_whole}
use Rattle.url_hashes.proofs.url_hashes.Goals as goal

pub returns-clause-value : goal.returns-clause-value
returns-clause-value c =
    let spans = c.in_ok-spans.spans in
    c.in_ok-hashes.ensures
    ∙ (ap (λ all. map (λ (one : Span). full_hash_of (piece_of c.without_scheme.result.now one)) all) c.as_slice.ensures
    ∙ (ap (λ text. map (λ (one : Span). full_hash_of (piece_of text one)) spans) c.without_scheme.ensures
    ∙ (hashes_of_pieces _ spans ∙ ap (λ all. map full_hash_of all) c.in_ok-spans.ensures.exact)))

pub returns-clause-whole : goal.returns-clause-whole
returns-clause-whole c = hashes_whole c.in_ok-hashes.hashes (expressions_of c.args.url.now) (returns-clause-value c)
