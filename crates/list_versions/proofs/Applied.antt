-- A history to whose lists a change was applied.
use Rattle.std.proofs.Common.{◌≡◌, ℕ, ◌+◌, ◌<◌, ◌≤◌, List, [], ◌∷◌, ◌++◌, length, take, get_or, refl, sym, ap, subst, ◌∙◌, arith}
use Rattle.std.specs.Prelude.{All}
use Rattle.std.proofs.lemmas.List.{take_all, take_at}
use Rattle.sb_model.specs.declared.history.Change.{Change}
use Rattle.sb_model.specs.declared.names.ListName.{ListName}
use Rattle.list_versions.specs.Draft.{declared_of, lines_after, AppliesLines, HasCut, IsDraft, KeepsFront}
use Rattle.list_versions.specs.Ends.{restored}
use Rattle.list_versions.specs.Limits.{hash_lines}
use Rattle.list_versions.specs.Live.{HasPlaced, KeepsEnds}
use Rattle.list_versions.proofs.Ended.{restored_same}
use Rattle.list_versions.specs.declared.draft.Draft.{Draft}
use Rattle.list_versions.specs.declared.draft.Listed.{Listed}
use Rattle.list_versions.proofs.Keeping.{adds_few, cut_draft, declared_one_more, declared_same, length_declared, name_at}
use Rattle.list_versions.proofs.Versions.{ends_after, lines_long}

pub changes_same : (changes : List Change) → take (length changes) changes ≡ changes
changes_same changes = take_all (length changes) changes (omega arith)

pub changes_one_more : (changes after : List Change) (change : Change) → after ≡ changes ++ change ∷ [] → take (length changes) after ≡ changes
changes_one_more changes after change e = ap (take (length changes)) e ∙ take_at changes (change ∷ []) (length changes) refl

-- the lines of a list are few
lines_few : (draft : Draft) (k : ℕ) (d : Listed) → IsDraft draft → k < length draft.lists.items
    → (placed : HasPlaced (get_or draft.lists.items k d).name draft.changes.items (get_or draft.lists.items k d).live) → length placed.lines ≤ 2097152
lines_few draft k d h lt placed =
    let name = (get_or draft.lists.items k d).name in
    omega (arith, lines_long name draft.changes.items placed.lines placed.are, adds_few name draft.changes.items, h.hashes, h.few_hashes)

-- where the change was refused, the ends can be set back to those of the changes before
cut_refused : (old : Draft) (k : ℕ) (d : Listed) (after : Listed) (next few : ℕ) → IsDraft old → few ≤ 1024 → next ≡ length old.changes.items + 1 → k < length old.lists.items
    → KeepsEnds next few (get_or old.lists.items k d).live after.live → HasCut (get_or old.lists.items k d).name old.changes.items after.live
cut_refused old k d after next few h small e lt kept =
    let placed : HasPlaced (get_or old.lists.items k d).name old.changes.items (get_or old.lists.items k d).live = h.placed k d lt in
    record {
      lines = placed.lines;
      are = placed.are;
      ends = kept placed.lines placed.placed (omega (arith, small, lines_few old k d h lt placed)) (length old.changes.items) (length placed.lines) (omega (arith, e)) (omega arith)
          ∙ ap (restored (length old.changes.items) (length placed.lines)) placed.placed.ends
          ∙ restored_same (length old.changes.items) (length placed.lines) placed.lines (omega (arith, h.few_changes)) refl placed.are.within;
    }

pub keeps_refused : (old new : Draft) (next few : ℕ) → IsDraft old → few ≤ 1024 → next ≡ length old.changes.items + 1 → new.sized ≡ old.sized → new.epoch ≡ old.epoch → new.changes.items ≡ old.changes.items
    → declared_of new.lists.items ≡ declared_of old.lists.items
    → ((k : ℕ) (d : Listed) → k < length old.lists.items → KeepsEnds next few (get_or old.lists.items k d).live (get_or new.lists.items k d).live) → KeepsFront old new
keeps_refused old new next few h small e sized epoch changes declared kept = record {
  sized = sized;
  epoch = epoch;
  changes = ap (take (length old.changes.items)) changes ∙ changes_same old.changes.items;
  declared = declared_same old.lists.items new.lists.items declared;
  cut = λ k d lt.
      let lt' : k < length old.lists.items = omega (arith, lt, ap length declared, length_declared new.lists.items, length_declared old.lists.items) in
      subst (λ (cs : List Change). HasCut (get_or new.lists.items k d).name cs (get_or new.lists.items k d).live) (sym changes)
      (subst (λ (n : ListName). HasCut n old.changes.items (get_or new.lists.items k d).live) (sym (name_at old.lists.items new.lists.items k d declared))
      (cut_refused old k d (get_or new.lists.items k d) next few h small e lt' (kept k d lt')));
  few_changes = omega (arith, ap length changes, h.few_changes);
  few_lines = omega (arith, ap hash_lines changes, h.hashes, h.few_hashes);
}

pub keeps_applied : (old new : Draft) (change : Change) → new.sized ≡ old.sized → new.epoch ≡ old.epoch → new.changes.items ≡ old.changes.items ++ change ∷ []
    → declared_of new.lists.items ≡ declared_of old.lists.items → IsDraft new → KeepsFront old new
keeps_applied old new change sized epoch changes declared h = record {
  sized = sized;
  epoch = epoch;
  changes = changes_one_more old.changes.items new.changes.items change changes;
  declared = declared_same old.lists.items new.lists.items declared;
  cut = cut_draft new h;
  few_changes = h.few_changes;
  few_lines = omega (arith, h.hashes, h.few_hashes);
}

pub keeps_declared : (old new : Draft) (listed : Listed) → new.sized ≡ old.sized → new.epoch ≡ old.epoch → new.changes.items ≡ old.changes.items → new.lists.items ≡ old.lists.items ++ listed ∷ []
    → IsDraft new → KeepsFront old new
keeps_declared old new listed sized epoch changes lists h = record {
  sized = sized;
  epoch = epoch;
  changes = ap (take (length old.changes.items)) changes ∙ changes_same old.changes.items;
  declared = declared_one_more old.lists.items new.lists.items listed lists;
  cut = cut_draft new h;
  few_changes = h.few_changes;
  few_lines = omega (arith, h.hashes, h.few_hashes);
}

-- the lines of each list after the change
pub placed_after : (old : Draft) (lists : List Listed) (change : Change) (version : ℕ) → IsDraft old → length old.changes.items < 65536 → length change.adds ≤ 1024 → version ≡ length old.changes.items + 1
    → declared_of lists ≡ declared_of old.lists.items
    → ((k : ℕ) (d : Listed) → k < length old.lists.items → AppliesLines version change (get_or old.lists.items k d) (get_or lists k d))
    → All (λ (list : Listed). HasPlaced list.name (old.changes.items ++ change ∷ []) list.live) lists
placed_after old lists change version h few small e declared applies = λ k d lt.
    let long : length lists ≡ length old.lists.items = omega (arith, ap length declared, length_declared lists, length_declared old.lists.items) in
    let lt' : k < length old.lists.items = omega (arith, lt, long) in
    let name = (get_or old.lists.items k d).name in
    let placed : HasPlaced name old.changes.items (get_or old.lists.items k d).live = h.placed k d lt' in
    let here : HasPlaced name (old.changes.items ++ change ∷ []) (get_or lists k d).live = record {
      lines = lines_after name version placed.lines change;
      are = ends_after name old.changes.items change placed.lines version e (omega (arith, e, few)) placed.are;
      placed = applies k d lt' placed.lines (omega (arith, small, lines_few old k d h lt' placed)) placed.placed;
    } in
    subst (λ (n : ListName). HasPlaced n (old.changes.items ++ change ∷ []) (get_or lists k d).live) (sym (name_at old.lists.items lists k d declared)) here
