use Rattle.std.proofs.Common.{◌≡◌, ◌∙◌, ℕ, List, min, length, map, take, true, sym, ap, arith}
use Rattle.std.proofs.lemmas.List.{length-take}
use Rattle.sb_model.specs.declared.history.Change.{Change}
use Rattle.list_versions.specs.Ends.{Line, adds_of, lasting, most_lines}
use Rattle.list_versions.specs.Quads.{quads_of}
use Rattle.list_versions.specs.Draft.{history_of}
use Rattle.sb_model.specs.declared.names.ListName.{ListName}
use Rattle.sb_model.specs.History.{prefix_of, sizes_at}
use Rattle.list_versions.proofs.QuadLines.{few_found, when_some}
use Rattle.list_versions.proofs.ReadBack.{counted, ends_are, ends_fit, read_prefixes}
use Rattle.list_versions.proofs.quads.heads_at.Goals as goal

abbrev FoundBy : ListName → List Change → List ℕ → ℕ → List ℕ → Type 0
FoundBy list changes ends version found = (lines : List Line) → map (λ (line : Line). line.0) lines ≡ adds_of list changes → map (λ (line : Line). line.1) lines ≡ ends
    → quads_of found ≡ map prefix_of (lasting version true lines)

pub slice_bounds-heads_in-end : goal.slice_bounds-heads_in-end
slice_bounds-heads_in-end c =
    let count = c.adds_count-count.ensures ∙ ap (λ (cs : List Change). min (length (adds_of c.args.list (take c.args.version cs))) most_lines) c.as_slice.ensures.value in
    omega (
      arith,
      length-take c.adds_count-count.result c.deref.result.now,
      ends_fit c.args.draft.now c.args.list c.args.version c.adds_count-count.result c.args.live.now c.deref.result.now c.requires.stem c.requires.read c.deref.ensures.value count,
    )

pub heads_in-requires : goal.heads_in-requires
heads_in-requires c =
    let count = c.adds_count-count.ensures ∙ ap (λ (cs : List Change). min (length (adds_of c.args.list (take c.args.version cs))) most_lines) c.as_slice.ensures.value in
    ends_are c.args.draft.now c.args.list c.args.version c.adds_count-count.result c.args.live.now c.deref.result.now c.requires.stem c.requires.read c.deref.ensures.value count
    ∙ ap (λ (cs : List Change). length (adds_of c.args.list (take c.args.version cs))) (sym c.as_slice.ensures.value)

heads_are : (c : goal.After-heads_in) (found : List ℕ) → FoundBy c.args.list (take c.args.version c.as_slice.result.now) (take c.adds_count-count.result c.deref.result.now) c.args.version found
    → quads_of found ≡ map prefix_of (sizes_at (history_of c.args.draft.now) c.args.list c.args.version)
heads_are c found h =
    let count = c.adds_count-count.ensures ∙ ap (λ (cs : List Change). min (length (adds_of c.args.list (take c.args.version cs))) most_lines) c.as_slice.ensures.value in
    read_prefixes c.args.draft.now c.args.list c.args.version c.adds_count-count.result c.args.live.now (take c.args.version c.as_slice.result.now) (take c.adds_count-count.result c.deref.result.now)
    (quads_of found) c.requires.version c.requires.read (ap (take c.args.version) c.as_slice.ensures.value) (counted c.args.draft.now c.args.list c.args.version c.adds_count-count.result c.requires.stem count)
    (ap (take c.adds_count-count.result) c.deref.ensures.value) h

pub returns-clause-prefixes : goal.returns-clause-prefixes
returns-clause-prefixes c = when_some c.heads_in.result _ _ (λ found h. heads_are c found.items h) c.heads_in.ensures

pub returns-clause-few : goal.returns-clause-few
returns-clause-few c =
    when_some c.heads_in.result _ _ (λ found h. few_found c.args.draft.now c.args.list c.args.version found.items c.requires.stem c.requires.version (heads_are c found.items h)) c.heads_in.ensures
