use Rattle.std.proofs.Common.{◌∙◌, rules, ap}
use Rattle.std.specs.Prelude.{List, Option}
use Rattle.std.specs.Option.{unwrap_or}
use Rattle.list_versions.specs.Buckets.{with_line}
use Rattle.list_versions.specs.Live.{found_in, lines_in}
use Rattle.list_versions.specs.declared.bucket.Standing.{Standing}
use Rattle.list_versions.proofs.Finding.{bucket_lent}
use Rattle.list_versions.proofs.Holding.{mapped_ok}
use Rattle.list_versions.proofs.buckets.put_at.Goals as goal

pub returns-clause-puts : goal.returns-clause-puts
returns-clause-puts c =
    let before = c.args.buckets.now.entries in
    let head = c.args.head in
    let lent = c.or_insert-bucket.ensures.value ∙ ap (λ (found : Option (List Standing)). unwrap_or found c.empty.result) c.in_ok-buckets.ensures.value
    ∙ ap (λ (none : List Standing). unwrap_or (found_in before head) none) c.empty.ensures in
    mapped_ok _ _ c.put.result
    (λ items other.
    let next = items ∙ ap (λ (bucket : List Standing). with_line bucket c.args.line) lent in
    bucket_lent _ _ before head other c.put.new.self (with_line (lines_in before head) c.args.line) ((c.in_ok-buckets.ensures.update.0 c.put.new.self).0 other) next (search rules))
    c.put.ensures.items
