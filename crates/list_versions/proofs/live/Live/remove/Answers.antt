use Rattle.std.proofs.Common.{◌∙◌, ap, arith}
use Rattle.sb_model.specs.declared.history.Added.{Added}
use Rattle.std.specs.Prelude.{List}
use Rattle.sb_model.specs.History.{without_hash}
use Rattle.list_versions.specs.Buckets.{without}
use Rattle.list_versions.specs.Live.{lines_in}
use Rattle.list_versions.proofs.Holding.{holds_replaced, holds_ends, changes_without, added_of-without}
use Rattle.list_versions.proofs.Placing.{places_without, ends_of}
use Rattle.list_versions.proofs.live.Live.remove.Goals as goal

pub returns-clause-held : goal.returns-clause-held
returns-clause-held c = λ entries small holds.
    let head = c.head_of-head.result in
    let hash = c.args.hash.now in
    let mid = holds_ends c.args.self.now c.end.new.self entries c.end.ensures.same holds in
    let before = lines_in c.end.new.self.buckets.entries head in
    let next = added_of-without before hash ∙ ap (λ (bucket : List Added). without_hash bucket hash) (mid.buckets head) in
    holds_replaced c.end.new.self c.remove_from.new.self entries (without_hash entries hash) (without before hash) head (omega arith) mid c.remove_from.ensures
    (changes_without entries _ hash head c.head_of-head.ensures.value small holds.sizes next)

pub returns-clause-placed : goal.returns-clause-placed
returns-clause-placed c = λ lines placed.
    let head = c.head_of-head.result in
    let hash = c.args.hash.now in
    record {
      ends = ap (λ ends. ends.items) c.remove_from.ensures.ends
          ∙ ends_of c.args.self.now lines c.args.version hash head c.end.new.self.ends.items c.head_of-head.ensures.value placed c.end.ensures.ends;
      places = places_without c.end.new.self c.remove_from.new.self lines c.args.version hash head c.head_of-head.ensures.value c.requires
          (λ other. ap (λ live. lines_in live.buckets.entries other) c.end.ensures.same ∙ placed.places other) c.remove_from.ensures;
    }
