use Rattle.std.proofs.Common.{◌∙◌, List, min, length, take, sym, ap, subst, arith}
use Rattle.std.specs.List.{list_any}
use Rattle.std.specs.Prelude.{All}
use Rattle.std.proofs.lemmas.List.{length-take}
use Rattle.sb_model.specs.declared.history.Change.{Change}
use Rattle.sb_model.specs.Names.{same_name}
use Rattle.list_versions.specs.Ends.{adds_of, most_lines}
use Rattle.list_versions.specs.Live.{HasRead}
use Rattle.list_versions.specs.declared.draft.Listed.{Listed}
use Rattle.list_versions.proofs.ReadBack.{counted, ends_are, ends_fit, none_there, read_found}
use Rattle.list_versions.proofs.standing.entries_at.Goals as goal

pub returns-in_default : goal.returns-in_default
returns-in_default c =
    c.new.ensures.items ∙ sym (none_there c.args.draft.now c.args.list c.args.version c.requires.stem
    (ap (λ (ls : List Listed). list_any (λ (listed : Listed). same_name listed.name c.args.list) ls) (sym c.as_slice.ensures.value) ∙ c.in_default.ensures.none))

pub slice_bounds-lasting_in-end : goal.slice_bounds-lasting_in-end
slice_bounds-lasting_in-end c =
    let read = c.in-Some.ensures.read c.args.draft.now.changes.items (subst (λ (ls : List Listed). All (λ (list : Listed). HasRead list.name c.args.draft.now.changes.items list.live) ls) (sym c.as_slice.ensures.value) c.requires.stem.read) in
    let count = c.adds_count-count.ensures ∙ ap (λ (cs : List Change). min (length (adds_of c.args.list (take c.args.version cs))) most_lines) c.as_slice-2.ensures.value in
    omega (
      arith,
      length-take c.adds_count-count.result c.deref.result.now,
      ends_fit c.args.draft.now c.args.list c.args.version c.adds_count-count.result c.in-Some.live.now c.deref.result.now c.requires.stem read c.deref.ensures.value count,
    )

pub lasting_in-requires : goal.lasting_in-requires
lasting_in-requires c =
    let read = c.in-Some.ensures.read c.args.draft.now.changes.items (subst (λ (ls : List Listed). All (λ (list : Listed). HasRead list.name c.args.draft.now.changes.items list.live) ls) (sym c.as_slice.ensures.value) c.requires.stem.read) in
    let count = c.adds_count-count.ensures ∙ ap (λ (cs : List Change). min (length (adds_of c.args.list (take c.args.version cs))) most_lines) c.as_slice-2.ensures.value in
    ends_are c.args.draft.now c.args.list c.args.version c.adds_count-count.result c.in-Some.live.now c.deref.result.now c.requires.stem read c.deref.ensures.value count
    ∙ ap (λ (cs : List Change). length (adds_of c.args.list (take c.args.version cs))) (sym c.as_slice-2.ensures.value)

pub returns : goal.returns
returns c =
    let read = c.in-Some.ensures.read c.args.draft.now.changes.items (subst (λ (ls : List Listed). All (λ (list : Listed). HasRead list.name c.args.draft.now.changes.items list.live) ls) (sym c.as_slice.ensures.value) c.requires.stem.read) in
    let count = c.adds_count-count.ensures ∙ ap (λ (cs : List Change). min (length (adds_of c.args.list (take c.args.version cs))) most_lines) c.as_slice-2.ensures.value in
    read_found c.args.draft.now c.args.list c.args.version c.adds_count-count.result c.in-Some.live.now (take c.args.version c.as_slice-2.result.now) (take c.adds_count-count.result c.deref.result.now)
    c.in_ok-found.found.items c.requires.version read (ap (take c.args.version) c.as_slice-2.ensures.value) (counted c.args.draft.now c.args.list c.args.version c.adds_count-count.result c.requires.stem count)
    (ap (take c.adds_count-count.result) c.deref.ensures.value) c.in_ok-found.ensures
