-- The full hashes of a version, as the ends of the lines tell them.
use Rattle.std.proofs.Common.{◌≡◌, ◌∙◌, ℕ, ◌≤◌, List, [], min, length, map, take, refl, sym, ap, arith, true, false}
use Rattle.std.specs.List.{list_any}
use Rattle.std.specs.Prelude.{All}
use Rattle.std.proofs.lemmas.List.{length-map, length-take, take-map, take_all}
use Rattle.std.proofs.lemmas.List.Elements.{All-take, All-weaker}
use Rattle.sb_model.specs.declared.history.Added.{Added}
use Rattle.sb_model.specs.declared.history.Change.{Change}
use Rattle.sb_model.specs.declared.names.ListName.{ListName}
use Rattle.sb_model.specs.History.{declares, prefix_of, sizes_at}
use Rattle.sb_model.specs.Names.{same_name}
use Rattle.list_versions.specs.Draft.{history_of}
use Rattle.list_versions.specs.Ends.{Line, HasEnds, adds_of, lasting, most_lines, standing}
use Rattle.list_versions.specs.Live.{HasRead}
use Rattle.list_versions.specs.Loaded.{IsStem}
use Rattle.list_versions.specs.declared.draft.Draft.{Draft}
use Rattle.list_versions.specs.declared.draft.Listed.{Listed}
use Rattle.list_versions.specs.declared.live.Live.{Live}
use Rattle.list_versions.proofs.Completing.{any_declared, no_changes, other_name}
use Rattle.list_versions.proofs.Keeping.{adds_few, front_adds}
use Rattle.list_versions.proofs.Standings.{standing_lasts}
use Rattle.list_versions.proofs.Versions.{adds_front, lines_long}

pub ends_long : (list : ListName) (changes : List Change) (live : Live) → HasRead list changes live → length live.ends.items ≡ length (adds_of list changes)
ends_long list changes live h = ap length h.ends ∙ length-map {B = ℕ} h.lines (λ (l : Line). l.1) ∙ lines_long list changes h.lines h.are

take_ends : (n : ℕ) (lines : List Line) (ends : List ℕ) → ends ≡ map (λ (l : Line). l.1) lines → map (λ (l : Line). l.1) (take n lines) ≡ take n ends
take_ends n lines ends e = sym (take-map {Y = ℕ} (λ (l : Line). l.1) n lines) ∙ ap (take n) (sym e)

take_adds : (list : ListName) (changes : List Change) (version : ℕ) (lines : List Line) → HasEnds list changes lines
    → map (λ (l : Line). l.0) (take (length (adds_of list (take version changes))) lines) ≡ adds_of list (take version changes)
take_adds list changes version lines h =
    sym (take-map {Y = Added} (λ (l : Line). l.0) (length (adds_of list (take version changes))) lines)
    ∙ ap (take (length (adds_of list (take version changes)))) h.adds ∙ front_adds list changes version

-- how many lines there are is counted
pub counted : (draft : Draft) (list : ListName) (version count : ℕ) → IsStem draft → count ≡ min (length (adds_of list (take version draft.changes.items))) most_lines
    → count ≡ length (adds_of list (take version draft.changes.items))
counted draft list version count h e =
    omega (arith, e, adds_front list draft.changes.items version, adds_few list draft.changes.items, h.hashes, h.few_hashes)

pub ends_fit : (draft : Draft) (list : ListName) (version count : ℕ) (live : Live) (ends : List ℕ) → IsStem draft → HasRead list draft.changes.items live → ends ≡ live.ends.items
    → count ≡ min (length (adds_of list (take version draft.changes.items))) most_lines → count ≤ length ends
ends_fit draft list version count live ends h read e is =
    omega (arith, ap length e, ends_long list draft.changes.items live read, counted draft list version count h is, adds_front list draft.changes.items version)

pub ends_are : (draft : Draft) (list : ListName) (version count : ℕ) (live : Live) (ends : List ℕ) → IsStem draft → HasRead list draft.changes.items live → ends ≡ live.ends.items
    → count ≡ min (length (adds_of list (take version draft.changes.items))) most_lines → length (take count ends) ≡ length (adds_of list (take version draft.changes.items))
ends_are draft list version count live ends h read e is =
    omega (arith, length-take count ends, ends_fit draft list version count live ends h read e is, counted draft list version count h is)

pub read_found : (draft : Draft) (list : ListName) (version count : ℕ) (live : Live) (changes : List Change) (ends : List ℕ) (found : List Added) → version ≤ length draft.changes.items
    → HasRead list draft.changes.items live → changes ≡ take version draft.changes.items → count ≡ length (adds_of list (take version draft.changes.items)) → ends ≡ take count live.ends.items
    → ((lines : List Line) → map (λ (l : Line). l.0) lines ≡ adds_of list changes → map (λ (l : Line). l.1) lines ≡ ends → found ≡ lasting version true lines)
    → found ≡ sizes_at (history_of draft) list version
read_found draft list version count live changes ends entries within h same counted_as ends_same found =
    let n = length (adds_of list (take version draft.changes.items)) in
    found (take n h.lines) (take_adds list draft.changes.items version h.lines h.are ∙ ap (adds_of list) (sym same))
    (take_ends n h.lines live.ends.items h.ends ∙ ap (λ k. take k live.ends.items) (sym counted_as) ∙ sym ends_same)
    ∙ sym (standing_lasts version (take n h.lines)) ∙ sym (h.are.versions version within)

-- the same of what is published of each
pub read_prefixes : (draft : Draft) (list : ListName) (version count : ℕ) (live : Live) (changes : List Change) (ends : List ℕ) (prefixes : List (List ℕ)) → version ≤ length draft.changes.items
    → HasRead list draft.changes.items live → changes ≡ take version draft.changes.items → count ≡ length (adds_of list (take version draft.changes.items)) → ends ≡ take count live.ends.items
    → ((lines : List Line) → map (λ (l : Line). l.0) lines ≡ adds_of list changes → map (λ (l : Line). l.1) lines ≡ ends → prefixes ≡ map prefix_of (lasting version true lines))
    → prefixes ≡ map prefix_of (sizes_at (history_of draft) list version)
read_prefixes draft list version count live changes ends prefixes within h same counted_as ends_same found =
    let n = length (adds_of list (take version draft.changes.items)) in
    found (take n h.lines) (take_adds list draft.changes.items version h.lines h.are ∙ ap (adds_of list) (sym same))
    (take_ends n h.lines live.ends.items h.ends ∙ ap (λ k. take k live.ends.items) (sym counted_as) ∙ sym ends_same)
    ∙ ap (map prefix_of) (sym (standing_lasts version (take n h.lines)) ∙ sym (h.are.versions version within))

pub none_there : (draft : Draft) (list : ListName) (version : ℕ) → IsStem draft → list_any (λ (listed : Listed). same_name listed.name list) draft.lists.items ≡ false → sizes_at (history_of draft) list version ≡ []
none_there draft list version h none =
    let absent : declares (history_of draft) list ≡ false = sym (any_declared list draft.lists.items) ∙ none in
    let others : All (λ (c : Change). same_name c.list list ≡ false) draft.changes.items =
    All-weaker (λ (c : Change). declares (history_of draft) c.list ≡ true) (λ (c : Change). same_name c.list list ≡ false) (λ c k. other_name (history_of draft) list c.list _ refl absent k) draft.changes.items h.declared in
    no_changes list (take version draft.changes.items) (All-take (λ (c : Change). same_name c.list list ≡ false) version draft.changes.items others)

-- the newest full hashes, as the ends of the lines tell them
pub newest_stand : (draft : Draft) (list : ListName) (lines : List Line) → HasEnds list draft.changes.items lines
    → lasting (length draft.changes.items) true lines ≡ sizes_at (history_of draft) list (length draft.changes.items)
newest_stand draft list lines h =
    let changes = draft.changes.items in
    let n = length changes in
    let whole : take n changes ≡ changes = take_all n changes (omega arith) in
    let all : take (length (adds_of list (take n changes))) lines ≡ lines =
    ap (λ (cs : List Change). take (length (adds_of list cs)) lines) whole ∙ take_all (length (adds_of list changes)) lines (omega (arith, lines_long list changes lines h)) in
    sym (standing_lasts n lines) ∙ ap (standing n) (sym all) ∙ sym (h.versions n (omega arith))
