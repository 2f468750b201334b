use Rattle.std.proofs.Common.{◌≡◌, ◌∙◌, length, List, sym, subst, arith}
use Rattle.sb_model.specs.declared.history.Added.{Added}
use Rattle.sb_model.specs.declared.names.ListName.{ListName}
use Rattle.sb_model.specs.History.{sizes_at}
use Rattle.std.specs.Prelude.{All}
use Rattle.list_versions.specs.Draft.{history_of}
use Rattle.list_versions.specs.Journal.{Kept}
use Rattle.list_versions.specs.Live.{Holds}
use Rattle.list_versions.specs.declared.draft.Listed.{Listed}
use Rattle.list_versions.proofs.Begun.{FoundIn, found_in_list}
use Rattle.list_versions.proofs.Folds.{fresh_draft}
use Rattle.list_versions.proofs.history.History.full_hashes.Goals as goal

pub returns : goal.returns
returns c =
    let draft = c.self.inside.draft in
    let is = fresh_draft draft c.self.inside.stale c.if-not-self.true c.self.invariant.fresh in
    let sizes : ListName → List Added = λ name. sizes_at (history_of draft) name (length draft.changes.items) in
    let holds = c.in-Some.ensures.found sizes (subst (λ (ls : List Listed). All (λ (list : Listed). Holds list.live (sizes list.name)) ls) (sym c.as_slice.ensures.value) is.live) in
    let version : length draft.changes.items ≡ c.args.version = omega (arith, c.if-version-len.true, c.len.ensures, draft.changes.ok) in
    subst (λ (k : Kept). FoundIn c.hashes_with.result c.args.prefix.now (sizes_at k.versions c.args.list c.args.version)) c.self.view_is
    (subst (λ n. FoundIn c.hashes_with.result c.args.prefix.now (sizes_at (history_of draft) c.args.list n)) version
    (found_in_list c.hashes_with.result c.in-Some.live.now c.args.prefix.now (sizes c.args.list) holds c.hashes_with.ensures))

pub returns-2 : goal.returns-2
returns-2 c =
    subst (λ (k : Kept). FoundIn c.hashes_begun.result c.args.prefix.now (sizes_at k.versions c.args.list c.args.version)) c.self.view_is
    (subst (λ (es : List Added). FoundIn c.hashes_begun.result c.args.prefix.now es) (c.as_slice-2.ensures.value ∙ c.in_ok-entries.ensures) c.hashes_begun.ensures)
