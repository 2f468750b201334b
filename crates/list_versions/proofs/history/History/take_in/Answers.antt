use Rattle.std.proofs.Common.{◌≡◌, ◌∙◌, ◌||◌, not, false, [], ap, inr, subst, List, length, arith}
use Rattle.std.specs.Prelude.{◌==◌, ◌↔◌}
use Rattle.sb_model.specs.declared.history.Change.{Change}
use Rattle.list_versions.specs.Draft.{history_of, IsDraft}
use Rattle.list_versions.specs.Journal.{Kept}
use Rattle.list_versions.specs.declared.renewing.Before.{Before}
use Rattle.list_versions.proofs.Folds.{draft_stem}
use Rattle.list_versions.proofs.Keeping.{cut_back, fresh_or_stale, grows_if_longer, loaded_cut, longer, same_kept}
use Rattle.list_versions.proofs.Renewed.{IsTaken, first_of, newest_longer, are_newest}
use Rattle.list_versions.proofs.history.History.take_in.Goals as goal

pub take_kept-requires-clause-more : goal.take_kept-requires-clause-more
take_kept-requires-clause-more g c =
    newest_longer c.self.inside.draft c.read_more.new.draft c.in-Ok.more.newest.items c.self.inside.newest.items c.read_more.ensures.front c.self.invariant.names c.in-Ok.ensures.names

pub invariant_of-self : goal.invariant_of-self
invariant_of-self g c =
    let lists_are : c.len-lists.result ≡ length c.self.inside.draft.lists.items = omega (arith, c.len-lists.ensures, c.self.inside.draft.lists.ok) in
    let changes_are : c.len-changes.result ≡ length c.self.inside.draft.changes.items = omega (arith, c.len-changes.ensures, c.self.inside.draft.changes.ok) in
    let new = c.read_more.new.draft in
    let before : Before = record { lists = c.len-lists.result; changes = c.len-changes.result } in
    let same : before ≡ first_of c.self.inside.draft = λ i. record { lists = lists_are i; changes = changes_are i } in
    let taken : IsTaken c.as_slice-in-Ok.result.now before c.in-Ok.more.newest.items c.self.inside.newest.items c.take_kept.new.newest.items =
    record { long = c.take_kept.ensures.long; others = c.take_kept.ensures.others; kept = c.take_kept.ensures.kept; renewed = c.take_kept.ensures.renewed } in
    let taken_at = subst (λ (at : Before). IsTaken c.as_slice-in-Ok.result.now at c.in-Ok.more.newest.items c.self.inside.newest.items c.take_kept.new.newest.items) same taken in
    let taken_of = subst (λ (cs : List Change). IsTaken cs (first_of c.self.inside.draft) c.in-Ok.more.newest.items c.self.inside.newest.items c.take_kept.new.newest.items) c.as_slice-in-Ok.ensures.value taken_at in
    let newest = are_newest c.self.inside.draft new c.in-Ok.more.newest.items c.self.inside.newest.items c.take_kept.new.newest.items c.read_more.ensures.front c.self.invariant.names c.in-Ok.ensures.names
    c.self.invariant.each c.in-Ok.ensures.newest taken_of in
    record {
      stem = draft_stem new c.in-Ok.ensures.draft;
      fresh = inr c.in-Ok.ensures.draft;
      names = newest.names;
      each = newest.each;
      waits = c.in-Ok.ensures.waits;
      short = c.in-Ok.ensures.few;
    }

pub refresh-requires : goal.refresh-requires
refresh-requires g c =
    (cut_back c.self.inside.draft c.read_more.new.draft c.cut.new.self c.len-lists.result c.len-changes.result c.self.invariant.stem c.read_more.ensures.front
    (omega (arith, c.len-lists.ensures, c.self.inside.draft.lists.ok)) (omega (arith, c.len-changes.ensures, c.self.inside.draft.changes.ok)) c.cut.ensures.epoch c.cut.ensures.lists c.cut.ensures.changes c.cut.ensures.hashes).stem

pub invariant_of-self-in-Err : goal.invariant_of-self-in-Err
invariant_of-self-in-Err g c =
    let cut = cut_back c.self.inside.draft c.read_more.new.draft c.cut.new.self c.len-lists.result c.len-changes.result c.self.invariant.stem c.read_more.ensures.front
    (omega (arith, c.len-lists.ensures, c.self.inside.draft.lists.ok)) (omega (arith, c.len-changes.ensures, c.self.inside.draft.changes.ok)) c.cut.ensures.epoch c.cut.ensures.lists c.cut.ensures.changes c.cut.ensures.hashes in
    loaded_cut c.self.inside.draft c.refresh.new.draft c.self.inside.newest.items c.self.inside.rest c.self.inside.stale c.is_err-self-inside.result c.self.invariant
    (ap (λ (k : Kept). k.sized) (c.refresh.ensures.same []) ∙ c.cut.ensures.sized ∙ c.read_more.ensures.front.sized) (ap (λ (k : Kept). k.versions) (c.refresh.ensures.same []) ∙ cut.history)
    c.refresh.ensures.stem (fresh_or_stale c.refresh.result (IsDraft c.refresh.new.draft) c.is_err-self-inside.result c.is_err-self-inside.ensures.value c.refresh.ensures.draft)

pub returns-in-Err-clause-same : goal.returns-in-Err-clause-same
returns-in-Err-clause-same g c =
    let cut = cut_back c.self.inside.draft c.read_more.new.draft c.cut.new.self c.len-lists.result c.len-changes.result c.self.invariant.stem c.read_more.ensures.front
    (omega (arith, c.len-lists.ensures, c.self.inside.draft.lists.ok)) (omega (arith, c.len-changes.ensures, c.self.inside.draft.changes.ok)) c.cut.ensures.epoch c.cut.ensures.lists c.cut.ensures.changes c.cut.ensures.hashes in
    c.refresh.ensures.same c.self.inside.rest
    ∙ same_kept c.self.inside.draft c.cut.new.self (c.cut.ensures.sized ∙ c.read_more.ensures.front.sized) cut.history c.self.inside.rest ∙ c.self.view_is

pub returns-in-Ok-clause-versions : goal.returns-in-Ok-clause-versions
returns-in-Ok-clause-versions g c =
    let old = c.self.inside.draft in
    let new = c.read_more.new.draft in
    let lists_are : c.len-lists.result ≡ length old.lists.items = omega (arith, c.len-lists.ensures, old.lists.ok) in
    let changes_are : c.len-changes.result ≡ length old.changes.items = omega (arith, c.len-changes.ensures, old.changes.ok) in
    let is : c.is_longer.result ≡ longer old new =
    c.is_longer.ensures ∙ (λ i. not (lists_are i == length new.lists.items) || not (changes_are i == length new.changes.items)) in
    subst (λ (kept : Kept). (c.is_longer.result ≡ false) ↔ (history_of new ≡ kept.versions)) c.self.view_is
    (grows_if_longer old new c.is_longer.result c.read_more.ensures.front is)
