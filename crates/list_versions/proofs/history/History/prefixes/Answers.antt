use Rattle.std.proofs.Common.{◌≡◌, ◌∙◌, List, length, map, ap, subst, sym, arith}
use Rattle.std.specs.Prelude.{All}
use Rattle.sb_model.specs.declared.history.Added.{Added}
use Rattle.sb_model.specs.History.{prefix_of, prefixes_at}
use Rattle.sb_model.specs.Prefixes.{set_of}
use Rattle.list_versions.specs.Journal.{Kept}
use Rattle.list_versions.specs.Live.{HasPlaced, IsPublishable}
use Rattle.list_versions.specs.declared.draft.Listed.{Listed}
use Rattle.list_versions.proofs.Folds.{fresh_draft, publishable_at}
use Rattle.list_versions.proofs.history.History.prefixes.Goals as goal

pub published_of-requires : goal.published_of-requires
published_of-requires c =
    subst (λ (es : List Added). All IsPublishable es) (sym (c.as_slice-3.ensures.value ∙ c.in_ok-entries.ensures)) (publishable_at c.self.inside.draft c.args.list c.args.version c.self.invariant.stem)

pub older_set-requires : goal.older_set-requires
older_set-requires c =
    let draft = c.self.inside.draft in
    let is = fresh_draft draft c.self.inside.stale c.if-not-self.true c.self.invariant.fresh in
    record {
      stem = c.self.invariant.stem;
      version = omega (arith, c.if-version-len.false, c.len.ensures, draft.changes.ok);
      placed = c.in-Some-live_of.ensures.placed draft.changes.items (subst (λ (ls : List Listed). All (λ (list : Listed). HasPlaced list.name draft.changes.items list.live) ls) (sym c.as_slice-2.ensures.value) is.placed);
      newest = c.in-Some.ensures.set ∙ ap (λ (k : Kept). prefixes_at k.versions c.args.list (length k.versions.changes)) (sym c.self.view_is);
    }

pub returns-clause-set : goal.returns-clause-set
returns-clause-set c = subst (λ (k : Kept). c.in_ok-set.set ≡ prefixes_at k.versions c.args.list c.args.version) c.self.view_is c.in_ok-set.ensures

pub returns-2-clause-set : goal.returns-2-clause-set
returns-2-clause-set c =
    subst (λ (k : Kept). c.in_ok-published_of.field-0 ≡ prefixes_at k.versions c.args.list c.args.version) c.self.view_is
    (c.in_ok-published_of.ensures ∙ ap (λ (es : List Added). set_of (map prefix_of es)) (c.as_slice-3.ensures.value ∙ c.in_ok-entries.ensures))
