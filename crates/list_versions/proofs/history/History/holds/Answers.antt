use Rattle.std.proofs.Common.{◌≡◌, ◌∙◌, ℕ, Bool, false, length, List, map, sym, ap, subst, arith}
use Rattle.std.specs.List.{list_any}
use Rattle.std.specs.Prelude.{All}
use Rattle.std.specs.Str.{bytes_eq}
use Rattle.sb_model.specs.declared.history.Added.{Added}
use Rattle.sb_model.specs.declared.names.ListName.{ListName}
use Rattle.sb_model.specs.History.{full_hashes_at, sizes_at, version_count}
use Rattle.sb_model.specs.Names.{same_name}
use Rattle.list_versions.specs.Draft.{history_of}
use Rattle.list_versions.specs.Ends.{adds_of, has_standing}
use Rattle.list_versions.specs.Journal.{Kept}
use Rattle.list_versions.specs.Live.{HasRead, Holds}
use Rattle.list_versions.specs.declared.draft.Listed.{Listed}
use Rattle.list_versions.proofs.Folds.{fresh_draft}
use Rattle.list_versions.proofs.ReadBack.{ends_long, newest_stand, none_there}
use Rattle.list_versions.proofs.history.History.holds.Goals as goal

abbrev IsNow : Bool → List ℕ → ListName → Kept → Type 0
IsNow result hash list kept = result ≡ list_any (bytes_eq hash) (full_hashes_at kept.versions list (version_count kept.versions))

pub returns-in_default : goal.returns-in_default
returns-in_default c =
    let draft = c.self.inside.draft in
    let none = none_there draft c.args.list (length draft.changes.items) c.self.invariant.stem
    (ap (λ (ls : List Listed). list_any (λ (listed : Listed). same_name listed.name c.args.list) ls) (sym c.as_slice.ensures.value) ∙ c.in_default.ensures.none) in
    subst (IsNow false c.args.hash.now.bytes c.args.list) c.self.view_is
    (sym (ap (λ (es : List Added). list_any (bytes_eq c.args.hash.now.bytes) (map (λ (entry : Added). entry.hash) es)) none))

pub stands-requires : goal.stands-requires
stands-requires c =
    let draft = c.self.inside.draft in
    let read = c.in-Some.ensures.read draft.changes.items (subst (λ (ls : List Listed). All (λ (list : Listed). HasRead list.name draft.changes.items list.live) ls) (sym c.as_slice.ensures.value) c.self.invariant.stem.read) in
    ap length c.as_slice-ends.ensures.value ∙ ends_long c.args.list draft.changes.items c.in-Some.live.now read ∙ ap (λ cs. length (adds_of c.args.list cs)) (sym c.as_slice-changes.ensures.value)

pub returns-then-self : goal.returns-then-self
returns-then-self c =
    let draft = c.self.inside.draft in
    let hash = c.args.hash.now.bytes in
    let read = c.in-Some.ensures.read draft.changes.items (subst (λ (ls : List Listed). All (λ (list : Listed). HasRead list.name draft.changes.items list.live) ls) (sym c.as_slice.ensures.value) c.self.invariant.stem.read) in
    subst (IsNow c.stands.result hash c.args.list) c.self.view_is
    (c.stands.ensures read.lines (read.are.adds ∙ ap (adds_of c.args.list) (sym c.as_slice-changes.ensures.value)) (sym read.ends ∙ sym c.as_slice-ends.ensures.value)
    ∙ ap (λ n. has_standing n hash read.lines) (ap length c.as_slice-changes.ensures.value)
    ∙ ap (λ (es : List Added). list_any (bytes_eq hash) (map (λ (entry : Added). entry.hash) es)) (newest_stand draft c.args.list read.lines read.are))

pub returns : goal.returns
returns c =
    let draft = c.self.inside.draft in
    let is = fresh_draft draft c.self.inside.stale c.if-self.false c.self.invariant.fresh in
    let sizes : ListName → List Added = λ name. sizes_at (history_of draft) name (length draft.changes.items) in
    let holds = c.in-Some.ensures.found sizes (subst (λ (ls : List Listed). All (λ (list : Listed). Holds list.live (sizes list.name)) ls) (sym c.as_slice.ensures.value) is.live) in
    subst (IsNow c.has.result c.args.hash.now.bytes c.args.list) c.self.view_is (c.has.ensures (sizes c.args.list) holds)
