use Rattle.std.proofs.Common.{◌∙◌, List, ap}
use Rattle.std.specs.List.{list_any}
use Rattle.std.specs.Str.{bytes_eq}
use Rattle.list_versions.specs.Live.{lines_in}
use Rattle.list_versions.specs.declared.bucket.Standing.{Standing}
use Rattle.list_versions.proofs.HashLookup.{found_in_bucket}
use Rattle.list_versions.proofs.live.Live.has.Goals as goal

pub returns : goal.returns
returns c = λ entries holds.
    c.is_among.ensures
    ∙ ap (list_any (λ (line : Standing). bytes_eq c.args.hash.now line.added.hash)) (c.lines_at.ensures ∙ ap (lines_in c.args.self.now.buckets.entries) c.head_of.ensures.value)
    ∙ found_in_bucket c.args.self.now c.args.hash.now entries holds
