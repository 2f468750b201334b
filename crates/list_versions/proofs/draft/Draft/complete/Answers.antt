use Rattle.std.proofs.Common.{◌<◌, ◌^◌, ℕ, List, length, refl, sym, ap, ◌∙◌, arith, inr, Some, None, []}
use Rattle.std.specs.List.{list_any}
use Rattle.sb_model.specs.declared.history.Added.{Added}
use Rattle.sb_model.specs.declared.names.ListName.{ListName}
use Rattle.sb_model.specs.History.{sizes_at}
use Rattle.sb_model.specs.Names.{same_name}
use Rattle.list_versions.specs.Draft.{declared_of, history_of, begun_of, IsDraft}
use Rattle.list_versions.specs.Journal.{change_of, ◌>>=◌, after_bytes}
use Rattle.list_versions.specs.Limits.{IsUncrowded}
use Rattle.list_versions.specs.declared.draft.Draft.{Draft}
use Rattle.list_versions.proofs.Completing.{any_declared, at_the_end, draft_completed, history_is}
use Rattle.list_versions.proofs.Applied.{keeps_applied, keeps_refused, placed_after}
use Rattle.list_versions.proofs.draft.Draft.complete.Goals as goal

small_sizes : (draft : Draft) → IsDraft draft → (name : ListName) → length (sizes_at (history_of draft) name (length draft.changes.items)) < 2 ^ 32
small_sizes draft h name = let w = (h.within name (length draft.changes.items) (omega arith)).count in omega arith

few_sizes : (draft : Draft) → IsDraft draft → (name : ListName) → IsUncrowded (sizes_at (history_of draft) name (length draft.changes.items))
few_sizes draft h name = (h.within name (length draft.changes.items) (omega arith)).uncrowded

pub limit_of-requires : goal.limit_of-requires
limit_of-requires c =
    rw c.deref.ensures.value (any_declared c.args.begin.now.list c.apply_each.new.lists.items
    ∙ ap (λ ds. list_any (λ (list : ListName × ℕ). same_name list.0 c.args.begin.now.list) ds) c.apply_each.ensures.names ∙ c.requires.declared)

pub returns-in-Some-clause-fault : goal.returns-in-Some-clause-fault
returns-in-Some-clause-fault c =
    let old = c.args.self.now in
    let change = change_of (begun_of c.args.begin.now c.args.adds c.args.removes) in
    let sizes : ListName → List Added = λ name. sizes_at (history_of old) name (length old.changes.items) in
    let applied = c.in-Ok.ensures.held sizes (small_sizes old c.requires.draft) (omega (arith, c.requires.added, c.requires.some)) c.requires.draft.live in
    let limit = c.limit_of.ensures sizes (few_sizes old c.requires.draft) (rw c.deref.ensures.value applied) in
    inr (λ seen bytes. ap (λ r. r >>= λ reading. after_bytes reading bytes)
    (at_the_end old c.args.begin.now c.args.adds c.args.removes change _ (Some c.in-Some.fault) c.requires.added c.requires.removed refl
    (omega (arith, c.next_line.ensures.value, c.len.ensures, c.len-2.ensures)) (sym c.in-Some.is ∙ limit) seen))

pub returns-clause-draft : goal.returns-clause-draft
returns-clause-draft c =
    let old = c.args.self.now in
    let change = change_of (begun_of c.args.begin.now c.args.adds c.args.removes) in
    let sizes : ListName → List Added = λ name. sizes_at (history_of old) name (length old.changes.items) in
    let applied = c.in-Ok.ensures.held sizes (small_sizes old c.requires.draft) (omega (arith, c.requires.added, c.requires.some)) c.requires.draft.live in
    let limit = c.limit_of.ensures sizes (few_sizes old c.requires.draft) (rw c.deref.ensures.value applied) in
    let names = c.apply_each.ensures.names in
    draft_completed old _ change _ c.requires.draft refl names c.in-Ok-push.ensures.items (omega (arith, c.len.ensures, c.len-2.ensures)) applied (sym limit ∙ c.in_default-limit_of.is)
    c.requires.few (omega (arith, c.requires.count)) c.requires.declared c.requires.adds_well c.requires.removes_well
    (placed_after old c.apply_each.new.lists.items change _ c.requires.draft c.requires.few (omega (arith, c.requires.added, c.requires.some)) (omega (arith, c.len-3.ensures)) names c.in-Ok.ensures.placed)

pub returns-clause-ok : goal.returns-clause-ok
returns-clause-ok c seen bytes =
    let old = c.args.self.now in
    let change = change_of (begun_of c.args.begin.now c.args.adds c.args.removes) in
    let sizes : ListName → List Added = λ name. sizes_at (history_of old) name (length old.changes.items) in
    let applied = c.in-Ok.ensures.held sizes (small_sizes old c.requires.draft) (omega (arith, c.requires.added, c.requires.some)) c.requires.draft.live in
    let limit = c.limit_of.ensures sizes (few_sizes old c.requires.draft) (rw c.deref.ensures.value applied) in
    let names = c.apply_each.ensures.names in
    ap (λ r. r >>= λ reading. after_bytes reading bytes)
    (at_the_end old c.args.begin.now c.args.adds c.args.removes change _ None c.requires.added c.requires.removed refl
    (omega (arith, c.next_line.ensures.value, c.len.ensures, c.len-2.ensures)) (sym c.in_default-limit_of.is ∙ limit) seen)
    ∙ ap (λ versions. after_bytes (record { kept = record { sized = old.sized; versions = versions; rest = [] }; begun = None }) bytes) (sym (history_is old.epoch (declared_of old.lists.items) (declared_of c.apply_each.new.lists.items) old.changes.items c.push.new.self.items change names c.in-Ok-push.ensures.items))

pub returns-in_default-clause-front : goal.returns-in_default-clause-front
returns-in_default-clause-front c =
    keeps_refused c.args.self.now _ _ _ c.requires.draft (omega (arith, c.requires.added, c.requires.some)) (omega (arith, c.len-3.ensures)) refl refl refl c.apply_each.ensures.names c.apply_each.ensures.kept

pub returns-in-Some-clause-front : goal.returns-in-Some-clause-front
returns-in-Some-clause-front c =
    keeps_refused c.args.self.now _ _ _ c.requires.draft (omega (arith, c.requires.added, c.requires.some)) (omega (arith, c.len-3.ensures)) refl refl refl c.apply_each.ensures.names c.apply_each.ensures.kept

pub returns-in_default-push-clause-front : goal.returns-in_default-push-clause-front
returns-in_default-push-clause-front c =
    keeps_refused c.args.self.now _ _ _ c.requires.draft (omega (arith, c.requires.added, c.requires.some)) (omega (arith, c.len-3.ensures)) refl refl c.in_default-push.ensures.items c.apply_each.ensures.names c.apply_each.ensures.kept

pub returns-clause-front : goal.returns-clause-front
returns-clause-front c = keeps_applied c.args.self.now _ _ refl refl c.in-Ok-push.ensures.items c.apply_each.ensures.names (returns-clause-draft c)
