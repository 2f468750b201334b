use Rattle.std.proofs.Common.{◌∙◌, ◌∷◌, ◌++◌, [], ℕ, refl, ap, sym, arith, length}
use Rattle.sb_model.specs.declared.history.Added.{Added}
use Rattle.std.specs.Prelude.{List}
use Rattle.std.proofs.lemmas.List.{length-map, map-append, append-nil}
use Rattle.sb_model.specs.History.{with_added}
use Rattle.list_versions.specs.Buckets.{with_line}
use Rattle.list_versions.specs.Ends.{Line, ended, never}
use Rattle.list_versions.specs.Live.{lines_in}
use Rattle.list_versions.specs.declared.live.Live.{Live}
use Rattle.list_versions.proofs.Ended.{length-ended}
use Rattle.list_versions.proofs.Holding.{mapped_ok, holds_replaced, holds_ends, changes_with, publishable, added_of-with}
use Rattle.list_versions.proofs.Placing.{places_with, ends_of, keeps_added}
use Rattle.list_versions.proofs.live.Live.add.Goals as goal

pub returns-clause-held : goal.returns-clause-held
returns-clause-held c =
    let head = c.head_of-head.result in
    let mid : Live = record { ends = c.push.new.self; buckets = c.end.new.self.buckets; count = c.end.new.self.count; bytes = c.end.new.self.bytes; most = c.end.new.self.most } in
    let before = lines_in c.end.new.self.buckets.entries head in
    mapped_ok _ _ c.put_into.result
    (λ replaces entries small holds.
    let first = holds_ends c.args.self.now c.end.new.self entries c.end.ensures.same holds in
    let now = holds_ends c.end.new.self mid entries refl first in
    let next = added_of-with before _ ∙ ap (λ (bucket : List Added). with_added bucket c.args.added) (first.buckets head) in
    holds_replaced mid c.put_into.new.self entries (with_added entries c.args.added) (with_line before _) head (omega arith) now replaces
    (changes_with entries _ c.args.added head c.head_of-head.ensures.value small holds.sizes (publishable c.args.added c.requires.size c.head_of-head.ensures.length) next))
    c.put_into.ensures.ok

pub returns-clause-placed : goal.returns-clause-placed
returns-clause-placed c =
    let head = c.head_of-head.result in
    let mid : Live = record { ends = c.push.new.self; buckets = c.end.new.self.buckets; count = c.end.new.self.count; bytes = c.end.new.self.bytes; most = c.end.new.self.most } in
    mapped_ok _ _ c.put_into.result
    (λ replaces lines few placed.
    let now = ends_of c.args.self.now lines c.args.version c.args.added.hash head c.end.new.self.ends.items c.head_of-head.ensures.value placed c.end.ensures.ends in
    let long = ap length now ∙ length-map {B = ℕ} (ended c.args.version lines c.args.added.hash) (λ (l : Line). l.1) ∙ length-ended c.args.version lines c.args.added.hash in
    record {
      ends = ap (λ ends. ends.items) replaces.ends ∙ c.in_ok-push.ensures.items ∙ ap (λ (es : List ℕ). es ++ never ∷ []) now
          ∙ sym (map-append {B = ℕ} (λ (l : Line). l.1) (ended c.args.version lines c.args.added.hash) ((c.args.added, never) ∷ []));
      places = places_with mid c.put_into.new.self lines c.args.version _ head c.head_of-head.ensures.value c.requires.version (omega (arith, c.len.ensures, c.min-place.ensures, long, few))
          (λ other. ap (λ (live : Live). lines_in live.buckets.entries other) c.end.ensures.same ∙ placed.places other) replaces;
    })
    c.put_into.ensures.ok

pub returns-clause-kept : goal.returns-clause-kept
returns-clause-kept c =
    keeps_added c.args.self.now c.put_into.new.self c.args.version c.args.added.hash c.head_of-head.result c.end.new.self.ends.items c.head_of-head.ensures.value c.requires.version
    c.end.ensures.ends (never ∷ []) (ap (λ ends. ends.items) c.put_into.ensures.ends ∙ c.in_ok-push.ensures.items)

pub returns-in_err-push-clause-kept : goal.returns-in_err-push-clause-kept
returns-in_err-push-clause-kept c lines placed few earlier count lt within =
    let mid : Live = record { ends = c.push.new.self; buckets = c.end.new.self.buckets; count = c.end.new.self.count; bytes = c.end.new.self.bytes; most = c.end.new.self.most } in
    keeps_added c.args.self.now mid c.args.version c.args.added.hash c.head_of-head.result c.end.new.self.ends.items c.head_of-head.ensures.value c.requires.version
    c.end.ensures.ends [] (c.in_err-push.ensures.items ∙ sym (append-nil c.end.new.self.ends.items)) lines placed few earlier count lt within
