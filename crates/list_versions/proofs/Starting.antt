-- A journal of which only the first line was read.
use Rattle.std.proofs.Common.{◌≡◌, ℕ, zero, suc, true, List, [], length, take, refl, sym, ap, ◌∙◌, subst, arith, fold}
use Rattle.std.specs.Prelude.{All}
use Rattle.std.proofs.lemmas.List.Elements.{All-nil}
use Rattle.sb_model.specs.declared.history.Added.{Added}
use Rattle.sb_model.specs.declared.history.Change.{Change}
use Rattle.sb_model.specs.declared.names.ListName.{ListName}
use Rattle.sb_model.specs.History.{after_change, declares, sizes_at, IsPrefixSize}
use Rattle.list_versions.specs.Limits.{KeepsToLimits, hash_lines}
use Rattle.list_versions.specs.Live.{Holds, HasPlaced}
use Rattle.list_versions.specs.Draft.{declared_of, history_of, IsDraft}
use Rattle.list_versions.specs.declared.draft.Draft.{Draft}
use Rattle.list_versions.specs.declared.draft.Listed.{Listed}

nothing_within : KeepsToLimits []
nothing_within = record { count = omega arith; uncrowded = λ head. omega arith; bytes = omega arith }

take_nothing : (n : ℕ) → take {A = Change} n [] ≡ []
take_nothing zero = refl
take_nothing (suc n) = refl

pub draft_new : (draft : Draft) → draft.lists.items ≡ [] → draft.changes.items ≡ [] → draft.hashes ≡ 0 → IsDraft draft
draft_new draft lists changes hashes = record {
  hashes = hashes ∙ ap hash_lines (sym changes);
  few_lists = omega (arith, ap length lists);
  few_changes = omega (arith, ap length changes);
  few_hashes = omega (arith, hashes);
  live = subst (λ ls. All (λ (list : Listed). Holds list.live (sizes_at (history_of draft) list.name (length draft.changes.items))) ls) (sym lists) (All-nil (λ (list : Listed). Holds list.live (sizes_at (history_of draft) list.name (length draft.changes.items))));
  declared = subst (λ cs. All (λ (c : Change). declares (history_of draft) c.list ≡ true) cs) (sym changes) (All-nil (λ (c : Change). declares (history_of draft) c.list ≡ true));
  within = λ list version h. subst KeepsToLimits (sym (ap (λ cs. fold (after_change list) [] (take version cs)) changes ∙ ap (fold (after_change list) []) (take_nothing version))) nothing_within;
  well_formed = record {
    declared = subst (λ ls. All (λ (list : ListName × ℕ). IsPrefixSize list.1) (declared_of ls)) (sym lists) (All-nil (λ (list : ListName × ℕ). IsPrefixSize list.1));
    adds = subst (λ cs. All (λ (c : Change). All (λ (added : Added). (length added.hash ≡ 32) × IsPrefixSize added.size) c.adds) cs) (sym changes) (All-nil (λ (c : Change). All (λ (added : Added). (length added.hash ≡ 32) × IsPrefixSize added.size) c.adds));
    removes = subst (λ cs. All (λ (c : Change). All (λ (hash : List ℕ). length hash ≡ 32) c.removes) cs) (sym changes) (All-nil (λ (c : Change). All (λ (hash : List ℕ). length hash ≡ 32) c.removes));
  };
  placed = subst (λ ls. All (λ (list : Listed). HasPlaced list.name draft.changes.items list.live) ls) (sym lists) (All-nil (λ (list : Listed). HasPlaced list.name draft.changes.items list.live));
}
