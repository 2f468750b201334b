use Rattle.std.proofs.Common.{refl, subst, sym, arith, List}
use Rattle.std.specs.Prelude.{All}
use Rattle.sb_model.specs.declared.history.Change.{Change}
use Rattle.list_versions.specs.Draft.{IsDraft}
use Rattle.list_versions.proofs.Folds.{IsRefreshed, both_ok, foldable, all_stay_small, draft_refreshed}
use Rattle.list_versions.specs.Live.{HasPlaced, HasRead}
use Rattle.list_versions.specs.declared.draft.Listed.{Listed}
use Rattle.list_versions.proofs.Keeping.{keeps_refreshed, stem_same}
use Rattle.list_versions.proofs.refreshing.refresh.Goals as goal

pub refresh_lists-requires : goal.refresh_lists-requires
refresh_lists-requires c = record {
  changes = rw c.as_slice.ensures.value (foldable c.args.draft.now c.requires);
  small = λ list. rw c.as_slice.ensures.value (all_stay_small c.args.draft.now list c.requires);
  few_changes = rw c.as_slice.ensures.value c.requires.few_changes;
  few_lines = rw c.as_slice.ensures.value (omega (arith, c.requires.hashes, c.requires.few_hashes));
}

pub returns-clause-draft : goal.returns-clause-draft
returns-clause-draft c =
    both_ok c.refresh_lists.result _ _ (IsDraft _) c.refresh_lists.ensures.held c.refresh_lists.ensures.placed
    (λ held placed. draft_refreshed c.args.draft.now _ c.requires c.refresh_lists.ensures.names refl refl refl
    (subst (λ (cs : List Change). All (IsRefreshed cs) c.refresh_lists.new.lists.items) c.as_slice.ensures.value held)
    (subst (λ (cs : List Change). All (λ (list : Listed). HasPlaced list.name cs list.live) c.refresh_lists.new.lists.items) c.as_slice.ensures.value placed))

pub returns-clause-stem : goal.returns-clause-stem
returns-clause-stem c =
    stem_same c.args.draft.now _ c.requires (λ i. record { epoch = c.args.draft.now.epoch; declared = c.refresh_lists.ensures.names i; changes = c.args.draft.now.changes.items }) refl
    (subst (λ (cs : List Change). All (λ (list : Listed). HasRead list.name cs list.live) c.refresh_lists.new.lists.items) c.as_slice.ensures.value
    (c.refresh_lists.ensures.read (subst (λ (cs : List Change). All (λ (list : Listed). HasRead list.name cs list.live) c.args.draft.now.lists.items) (sym c.as_slice.ensures.value) c.requires.read)))

pub returns-clause-front : goal.returns-clause-front
returns-clause-front c = keeps_refreshed c.args.draft.now _ refl refl refl c.refresh_lists.ensures.names (returns-clause-stem c)
