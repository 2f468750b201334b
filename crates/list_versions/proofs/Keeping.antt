-- What stays where a record is refused.
use Rattle.std.proofs.Common.{◌≡◌, ◌⊎◌, ℕ, ◌+◌, ◌<◌, ◌≤◌, min, nat_lt, cond, not, ◌||◌, Bool, true, false, inl, inr, List, [], ◌∷◌, ◌++◌, length, take, drop, map, get_or, refl, sym, ap, subst, ◌∙◌, eq-eqb, append_assoc, length-append, arith, Ok, Err, None, Result}
use Rattle.std.specs.Prelude.{◌==◌, ◌↔◌, All, OnOk, is_err, ⊤}
use Rattle.std.proofs.Math.ListN.{get_or-map}
use Rattle.std.proofs.lemmas.Bool.{eqb-true, ltb-true}
use Rattle.std.proofs.lemmas.Bool.Decides.{nat_tests}
use Rattle.std.proofs.lemmas.List.{take-append-drop, take_at, take_all, take-take, get_or-take, length-map, length-take, take-map}
use Rattle.std.proofs.lemmas.List.Elements.{All-nil, All-cons}
use Rattle.std.proofs.lemmas.List.Sums.{sum_by-append}
use Rattle.sb_model.specs.declared.history.Added.{Added}
use Rattle.sb_model.specs.declared.history.Change.{Change}
use Rattle.sb_model.specs.History.{History, declares, IsWellFormed}
use Rattle.sb_model.specs.Names.{same_name}
use Rattle.list_versions.specs.Ends.{Line, HasEnds, adds_if, adds_of, most_lines, never, restored, restored_end, standing}
use Rattle.list_versions.specs.Folding.{after_changes}
use Rattle.list_versions.specs.Live.{HasPlaced, HasRead}
use Rattle.list_versions.specs.declared.live.Live.{Live}
use Rattle.list_versions.specs.Journal.{after_bytes}
use Rattle.list_versions.specs.Limits.{hash_lines, most_changes, most_hash_lines, WithinLimits}
use Rattle.list_versions.specs.Loaded.{IsStem, IsNewest, IsLoadedDraft}
use Rattle.list_versions.specs.declared.newest.Newest.{Newest}
use Rattle.sb_model.specs.declared.names.ListName.{ListName}
use Rattle.list_versions.specs.Draft.{declared_of, history_of, kept_of_draft, AreRestored, HasCut, IsDraft, KeepsFront}
use Rattle.list_versions.specs.declared.draft.Draft.{Draft}
use Rattle.list_versions.specs.declared.draft.Listed.{Listed}
use Rattle.list_versions.proofs.Completing.{declared_more}
use Rattle.list_versions.proofs.Ended.{IsEndBy, restored_same}
use Rattle.list_versions.proofs.Versions.{adds_both, adds_front, lines_long}

front_then : {A : Type 0} (n : ℕ) (xs ys zs : List A) → length xs ≡ n → take n ys ≡ xs → take (length ys) zs ≡ ys → take n zs ≡ xs
front_then n xs ys zs long first second =
    let split : (take n ys ++ drop n ys) ++ drop (length ys) zs ≡ zs =
    ap (λ f. f ++ drop (length ys) zs) (take-append-drop n ys ∙ sym second) ∙ take-append-drop (length ys) zs in
    let whole : xs ++ (drop n ys ++ drop (length ys) zs) ≡ zs =
    sym (append_assoc xs (drop n ys) (drop (length ys) zs)) ∙ ap (λ f. (f ++ drop n ys) ++ drop (length ys) zs) (sym first) ∙ split in
    ap (take n) (sym whole) ∙ take_at xs (drop n ys ++ drop (length ys) zs) n long

front_more : {A : Type 0} (n : ℕ) (xs ys more : List A) → length xs ≡ n → ys ≡ xs ++ more → take n ys ≡ xs
front_more n xs ys more long e = ap (take n) e ∙ take_at xs more n long

pub length_declared : (lists : List Listed) → length (declared_of lists) ≡ length lists
length_declared lists = length-map {B = ListName × ℕ} lists (λ (l : Listed). (l.name, l.size))

pub keeps_longer : (before after : Draft) → KeepsFront before after → length before.lists.items ≤ length after.lists.items
keeps_longer before after h =
    omega (arith, ap length h.declared, length-take (length before.lists.items) (declared_of after.lists.items), length_declared before.lists.items, length_declared after.lists.items)

pub keeps_changes : (before after : Draft) → KeepsFront before after → length before.changes.items ≤ length after.changes.items
keeps_changes before after h = omega (arith, ap length h.changes, length-take (length before.changes.items) after.changes.items)

-- ---- ends that can be set back

-- right ends stay where they are set back
pub cut_read : (name : ListName) (changes : List Change) (live : Live) → length changes < never → HasRead name changes live → HasCut name changes live
cut_read name changes live small h = record {
  lines = h.lines;
  are = h.are;
  ends = ap (restored (length changes) (length h.lines)) h.ends ∙ restored_same (length changes) (length h.lines) h.lines small refl h.are.within;
}

pub cut_placed : (name : ListName) (changes : List Change) (live : Live) → length changes < never → HasPlaced name changes live → HasCut name changes live
cut_placed name changes live small h = cut_read name changes live small (record { lines = h.lines; are = h.are; ends = h.placed.ends })

pub cut_draft : (draft : Draft) → IsDraft draft → All (λ (list : Listed). HasCut list.name draft.changes.items list.live) draft.lists.items
cut_draft draft h = λ k d lt. cut_placed (get_or draft.lists.items k d).name draft.changes.items (get_or draft.lists.items k d).live (omega (arith, h.few_changes)) (h.placed k d lt)

pub cut_stem : (draft : Draft) → IsStem draft → All (λ (list : Listed). HasCut list.name draft.changes.items list.live) draft.lists.items
cut_stem draft h = λ k d lt. cut_read (get_or draft.lists.items k d).name draft.changes.items (get_or draft.lists.items k d).live (omega (arith, h.few_changes)) (h.read k d lt)

keeps_all : (draft : Draft) → length draft.changes.items ≤ most_changes → hash_lines draft.changes.items ≤ most_hash_lines → All (λ (list : Listed). HasCut list.name draft.changes.items list.live) draft.lists.items → KeepsFront draft draft
keeps_all draft few lines h = record {
  sized = refl;
  epoch = refl;
  changes = take_all (length draft.changes.items) draft.changes.items (omega arith);
  declared = take_all (length draft.lists.items) (declared_of draft.lists.items) (omega (arith, length_declared draft.lists.items));
  cut = h;
  few_changes = few;
  few_lines = lines;
}

pub keeps_same : (draft : Draft) → IsDraft draft → KeepsFront draft draft
keeps_same draft h = keeps_all draft h.few_changes (omega (arith, h.hashes, h.few_hashes)) (cut_draft draft h)

pub keeps_stem : (draft : Draft) → IsStem draft → KeepsFront draft draft
keeps_stem draft h = keeps_all draft h.few_changes (omega (arith, h.hashes, h.few_hashes)) (cut_stem draft h)

pub keeps_then : (first second third : Draft) → KeepsFront first second → KeepsFront second third → KeepsFront first third
keeps_then first second third h k = record {
  sized = k.sized ∙ h.sized;
  epoch = k.epoch ∙ h.epoch;
  changes = front_then (length first.changes.items) first.changes.items second.changes.items third.changes.items refl h.changes k.changes;
  declared = front_then (length first.lists.items) (declared_of first.lists.items) (declared_of second.lists.items) (declared_of third.lists.items) (length_declared first.lists.items) h.declared
      (ap (λ n. take n (declared_of third.lists.items)) (length_declared second.lists.items) ∙ k.declared);
  cut = k.cut;
  few_changes = k.few_changes;
  few_lines = k.few_lines;
}

-- the declared lists are the same, and there is one more
pub declared_same : (before after : List Listed) → declared_of after ≡ declared_of before → take (length before) (declared_of after) ≡ declared_of before
declared_same before after e = ap (take (length before)) e ∙ take_all (length before) (declared_of before) (omega (arith, length_declared before))

pub declared_one_more : (before after : List Listed) (listed : Listed) → after ≡ before ++ listed ∷ [] → take (length before) (declared_of after) ≡ declared_of before
declared_one_more before after listed e =
    front_more (length before) (declared_of before) (declared_of after) ((listed.name, listed.size) ∷ []) (length_declared before) (ap declared_of e ∙ declared_more before listed)

-- ---- what was cut back

pub cut_history : (old new cut : Draft) → KeepsFront old new → cut.epoch ≡ new.epoch → declared_of cut.lists.items ≡ declared_of (take (length old.lists.items) new.lists.items)
    → cut.changes.items ≡ take (length old.changes.items) new.changes.items → history_of cut ≡ history_of old
cut_history old new cut h epoch lists changes =
    let e = epoch ∙ h.epoch in
    let d : declared_of cut.lists.items ≡ declared_of old.lists.items =
    lists ∙ sym (take-map {Y = ListName × ℕ} (λ (l : Listed). (l.name, l.size)) (length old.lists.items) new.lists.items) ∙ h.declared in
    let c = changes ∙ h.changes in
    λ i. record { epoch = e i; declared = d i; changes = c i }

pub same_kept : (old new : Draft) → new.sized ≡ old.sized → history_of new ≡ history_of old → (rest : List ℕ) → kept_of_draft new rest ≡ kept_of_draft old rest
same_kept old new sized history rest = λ i. record { sized = sized i; versions = history i; rest = rest }

names_declared : (lists : List Listed) → map (λ (l : Listed). l.name) lists ≡ map (λ (d : ListName × ℕ). d.0) (declared_of lists)
names_declared [] = refl
names_declared (l ∷ lists) = ap (λ ns. l.name ∷ ns) (names_declared lists)

pub names_same_lists : (old new : Draft) → history_of new ≡ history_of old → map (λ (l : Listed). l.name) new.lists.items ≡ map (λ (l : Listed). l.name) old.lists.items
names_same_lists old new history =
    names_declared new.lists.items ∙ ap (λ (v : History). map (λ (d : ListName × ℕ). d.0) v.declared) history ∙ sym (names_declared old.lists.items)

pub names_front : (old new : Draft) → KeepsFront old new → take (length old.lists.items) (map (λ (l : Listed). l.name) new.lists.items) ≡ map (λ (l : Listed). l.name) old.lists.items
names_front old new h =
    ap (take (length old.lists.items)) (names_declared new.lists.items) ∙ take-map (λ (d : ListName × ℕ). d.0) (length old.lists.items) (declared_of new.lists.items)
    ∙ ap (map (λ (d : ListName × ℕ). d.0)) h.declared ∙ sym (names_declared old.lists.items)

-- ---- the ends of lists that were cut back

pub name_at : (before after : List Listed) (k : ℕ) (d : Listed) → declared_of after ≡ declared_of before → (get_or after k d).name ≡ (get_or before k d).name
name_at before after k d same =
    ap (λ (l : ListName × ℕ). l.0) (sym (get_or-map {B = ListName × ℕ} (λ (l : Listed). (l.name, l.size)) after k d)
    ∙ ap (λ ls. get_or ls k (d.name, d.size)) same ∙ get_or-map {B = ListName × ℕ} (λ (l : Listed). (l.name, l.size)) before k d)

pub adds_few : (list : ListName) (changes : List Change) → length (adds_of list changes) ≤ hash_lines changes
adds_few list [] = omega arith
adds_few list (change ∷ changes) =
    let sum : hash_lines (change ∷ changes) ≡ (0 + (length change.adds + length change.removes)) + hash_lines changes = sum_by-append (λ (c : Change). length c.adds + length c.removes) (change ∷ []) changes in
    omega (arith, sum, adds_few list changes, length-append (adds_if (same_name change.list list) change.adds) (adds_of list changes), one (same_name change.list list) change.adds)
  where
    one : (b : Bool) (adds : List Added) → length (adds_if b adds) ≤ length adds
    one true adds = omega arith
    one false adds = omega arith

-- the lines up to a version
abbrev cut_line : ℕ → Line → Line
cut_line version line = (line.0, restored_end version line.1)

abbrev cut_lines : ℕ → List Line → List Line
cut_lines version lines = map (cut_line version) lines

cut_adds : (version : ℕ) (lines : List Line) → map (λ (l : Line). l.0) (cut_lines version lines) ≡ map (λ (l : Line). l.0) lines
cut_adds version [] = refl
cut_adds version (line ∷ lines) = ap (λ es. line.0 ∷ es) (cut_adds version lines)

cut_ends_are : (version : ℕ) (lines : List Line) → map (λ (l : Line). l.1) (cut_lines version lines) ≡ map (restored_end version) (map (λ (l : Line). l.1) lines)
cut_ends_are version [] = refl
cut_ends_are version (line ∷ lines) = ap (λ es. restored_end version line.1 ∷ es) (cut_ends_are version lines)

end_kept : (v version end : ℕ) (b : Bool) → v ≤ version → version < never → nat_lt version end ≡ b → nat_lt v (cond b never end) ≡ nat_lt v end
end_kept v version end true le small e =
    let above : version < end = ltb-true version end e in
    let one : nat_lt v never ≡ true = grind (arith, nat_tests) in
    let two : nat_lt v end ≡ true = grind (arith, nat_tests) in
    one ∙ sym two
end_kept v version end false le small e = refl

stand_step : (v : ℕ) (x y : Line) (xs ys : List Line) (b : Bool) → nat_lt v x.1 ≡ b → nat_lt v y.1 ≡ b → x.0 ≡ y.0 → standing v xs ≡ standing v ys → standing v (x ∷ xs) ≡ standing v (y ∷ ys)
stand_step v x y xs ys true e f h more = rw (e, f) (ap (λ (a : Added). a ∷ standing v xs) h ∙ ap (λ (es : List Added). y.0 ∷ es) more)
stand_step v x y xs ys false e f h more = rw (e, f) more

cut_stand : (v version : ℕ) (lines : List Line) → v ≤ version → version < never → standing v (cut_lines version lines) ≡ standing v lines
cut_stand v version [] le small = refl
cut_stand v version (line ∷ lines) le small =
    stand_step v (cut_line version line) line (cut_lines version lines) lines (nat_lt v line.1) (end_kept v version line.1 (nat_lt version line.1) le small refl) refl refl (cut_stand v version lines le small)

end_by : (version end : ℕ) (b : Bool) → nat_lt version end ≡ b → (cond b never end ≤ version) ⊎ (cond b never end ≡ never)
end_by version end true e = inr refl
end_by version end false e = inl (let below : end ≤ version = grind (arith, nat_tests) in below)

cut_within : (version : ℕ) (lines : List Line) → All (IsEndBy version) (cut_lines version lines)
cut_within version [] = All-nil (IsEndBy version)
cut_within version (line ∷ lines) = All-cons (IsEndBy version) (cut_line version line) (cut_lines version lines) (end_by version line.1 (nat_lt version line.1) refl) (cut_within version lines)

pub front_adds : (list : ListName) (changes : List Change) (version : ℕ) → take (length (adds_of list (take version changes))) (adds_of list changes) ≡ adds_of list (take version changes)
front_adds list changes version =
    ap (λ (cs : List Change). take (length (adds_of list (take version changes))) (adds_of list cs)) (sym (take-append-drop version changes))
    ∙ ap (take (length (adds_of list (take version changes)))) (adds_both list (take version changes) (drop version changes))
    ∙ take_at (adds_of list (take version changes)) (adds_of list (drop version changes)) (length (adds_of list (take version changes))) refl

-- the lines of the changes up to a version, of which none ends above it, tell the versions up to it
cut_are : (list : ListName) (changes : List Change) (lines : List Line) (version : ℕ) → version ≤ length changes → version < never → HasEnds list changes lines
    → HasEnds list (take version changes) (cut_lines version (take (length (adds_of list (take version changes))) lines))
cut_are list changes lines version le small h =
    let count = length (adds_of list (take version changes)) in
    let long : length (take version changes) ≡ version = length-take version changes ∙ omega (arith, le) in
    record {
      adds = cut_adds version (take count lines) ∙ sym (take-map {Y = Added} (λ (l : Line). l.0) count lines) ∙ ap (take count) h.adds ∙ front_adds list changes version;
      versions = λ v below.
          let same : take v (take version changes) ≡ take v changes = take-take v version changes (omega (arith, below, long)) in
          let few : length (adds_of list (take v (take version changes))) ≤ count = adds_front list (take version changes) v in
          ap (after_changes list) same ∙ h.versions v (omega (arith, below, long, le))
          ∙ ap (λ (cs : List Change). standing v (take (length (adds_of list cs)) lines)) (sym same)
          ∙ ap (standing v) (sym (take-take (length (adds_of list (take v (take version changes)))) count lines few))
          ∙ sym (cut_stand v version (take (length (adds_of list (take v (take version changes)))) (take count lines)) (omega (arith, below, long)) small)
          ∙ ap (standing v) (sym (take-map {Y = Line} (cut_line version) (length (adds_of list (take v (take version changes)))) (take count lines)));
      within = subst (λ (v : ℕ). All (IsEndBy v) (cut_lines version (take count lines))) (sym long) (cut_within version (take count lines));
    }

twice : (version most end : ℕ) (b : Bool) → version ≤ most → most < never → nat_lt most end ≡ b → restored_end version (cond b never end) ≡ restored_end version end
twice version most end true le small e =
    let above : most < end = ltb-true most end e in
    let one : nat_lt version never ≡ true = grind (arith, nat_tests) in
    let two : nat_lt version end ≡ true = grind (arith, nat_tests) in
    ap (λ t. cond t never never) one ∙ sym (ap (λ t. cond t never end) two)
twice version most end false le small e = refl

twice_all : (version most : ℕ) (ends : List ℕ) → version ≤ most → most < never → map (restored_end version) (map (restored_end most) ends) ≡ map (restored_end version) ends
twice_all version most [] le small = refl
twice_all version most (end ∷ ends) le small =
    ap (λ e. e ∷ map (restored_end version) (map (restored_end most) ends)) (twice version most end (nat_lt most end) le small refl) ∙ ap (λ es. restored_end version end ∷ es) (twice_all version most ends le small)

restored_twice : (version count most whole : ℕ) (ends : List ℕ) → count ≤ whole → version ≤ most → most < never → restored version count (restored most whole ends) ≡ restored version count ends
restored_twice version count most whole ends few le small =
    ap (map (restored_end version)) (take-map {Y = ℕ} (restored_end most) count (take whole ends) ∙ ap (map (restored_end most)) (take-take count whole ends few)) ∙ twice_all version most (take count ends) le small

-- a list that was cut back
read_cut : (list : ListName) (changes : List Change) (live cut : Live) (version : ℕ) → version ≤ length changes → length changes < never → hash_lines changes ≤ most_hash_lines → HasCut list changes live
    → cut.ends.items ≡ restored version (min (length (adds_of list (take version changes))) most_lines) live.ends.items → HasRead list (take version changes) cut
read_cut list changes live cut version le small few h e =
    let count = length (adds_of list (take version changes)) in
    let long = lines_long list changes h.lines h.are in
    let front = adds_front list changes version in
    let most : min count most_lines ≡ count = omega (arith, front, adds_few list changes, few) in
    record {
      lines = cut_lines version (take count h.lines);
      are = cut_are list changes h.lines version le (omega (arith, le, small)) h.are;
      ends = e ∙ ap (λ n. restored version n live.ends.items) most
          ∙ sym (restored_twice version count (length changes) (length h.lines) live.ends.items (omega (arith, front, long)) le small)
          ∙ ap (restored version count) h.ends ∙ ap (map (restored_end version)) (take-map {Y = ℕ} (λ (l : Line). l.1) count h.lines)
          ∙ sym (cut_ends_are version (take count h.lines));
    }

pub cut_lists : (old mid : Draft) (changes : List Change) (lists : List Listed) → IsStem old → KeepsFront old mid → changes ≡ take (length old.changes.items) mid.changes.items
    → AreRestored changes (take (length old.lists.items) mid.lists.items) lists → All (λ (list : Listed). HasRead list.name old.changes.items list.live) lists
cut_lists old mid changes lists h keeps e back = λ k d lt.
    let n = length old.changes.items in
    let front = take (length old.lists.items) mid.lists.items in
    let long : length lists ≡ length front = omega (arith, ap length back.declared, length_declared lists, length_declared front) in
    let lt' : k < length front = omega (arith, lt, long) in
    let item : get_or front k d ≡ get_or mid.lists.items k d = get_or-take (length old.lists.items) mid.lists.items k d (omega (arith, lt', length-take (length old.lists.items) mid.lists.items)) in
    let name : (get_or lists k d).name ≡ (get_or front k d).name = name_at front lists k d back.declared in
    let whole : HasCut (get_or front k d).name mid.changes.items (get_or front k d).live =
    subst (λ (l : Listed). HasCut l.name mid.changes.items l.live) (sym item) (keeps.cut k d (omega (arith, lt', length-take (length old.lists.items) mid.lists.items))) in
    let changes_long : length changes ≡ n = ap length e ∙ length-take n mid.changes.items ∙ omega (arith, keeps_changes old mid keeps) in
    let ends = back.ends k d lt'
    ∙ ap (λ (m : ℕ). restored m (min (length (adds_of (get_or front k d).name changes)) most_lines) (get_or front k d).live.ends.items) changes_long
    ∙ ap (λ (cs : List Change). restored n (min (length (adds_of (get_or front k d).name cs)) most_lines) (get_or front k d).live.ends.items) e in
    let read : HasRead (get_or front k d).name (take n mid.changes.items) (get_or lists k d).live =
    read_cut (get_or front k d).name mid.changes.items (get_or front k d).live (get_or lists k d).live n (keeps_changes old mid keeps) (omega (arith, keeps.few_changes)) keeps.few_lines whole ends in
    subst (λ (cs : List Change). HasRead (get_or lists k d).name cs (get_or lists k d).live) keeps.changes
    (subst (λ (nm : ListName). HasRead nm (take n mid.changes.items) (get_or lists k d).live) (sym name) read)

pub stem_same : (old new : Draft) → IsStem old → history_of new ≡ history_of old → new.hashes ≡ old.hashes
    → All (λ (list : Listed). HasRead list.name old.changes.items list.live) new.lists.items → IsStem new
stem_same old new h history hashes read = record {
  hashes = hashes ∙ h.hashes ∙ ap (λ (v : History). hash_lines v.changes) (sym history);
  few_lists = omega (arith, ap (λ (v : History). length v.declared) history, h.few_lists, length_declared new.lists.items, length_declared old.lists.items);
  few_changes = omega (arith, ap (λ (v : History). length v.changes) history, h.few_changes);
  few_hashes = omega (arith, hashes, h.few_hashes);
  declared = subst (λ (v : History). All (λ (c : Change). declares v c.list ≡ true) v.changes) (sym history) h.declared;
  within = subst (λ (v : History). WithinLimits v) (sym history) h.within;
  well_formed = subst (λ (v : History). IsWellFormed v) (sym history) h.well_formed;
  read = subst (λ (v : History). All (λ (list : Listed). HasRead list.name v.changes list.live) new.lists.items) (sym history) read;
}

-- what a refused growth is cut back to
pub record IsCutBack (old cut : Draft) : Type 0 where
  pub history : history_of cut ≡ history_of old
  pub stem : IsStem cut

pub cut_back : (old mid cut : Draft) (lists changes : ℕ) → IsStem old → KeepsFront old mid → lists ≡ length old.lists.items → changes ≡ length old.changes.items → cut.epoch ≡ mid.epoch
    → AreRestored (take changes mid.changes.items) (take lists mid.lists.items) cut.lists.items → cut.changes.items ≡ take changes mid.changes.items → cut.hashes ≡ old.hashes → IsCutBack old cut
cut_back old mid cut lists changes h keeps l c epoch back cut_changes hashes =
    let first : take lists mid.lists.items ≡ take (length old.lists.items) mid.lists.items = ap (λ n. take n mid.lists.items) l in
    let front : take changes mid.changes.items ≡ take (length old.changes.items) mid.changes.items = ap (λ n. take n mid.changes.items) c in
    let history = cut_history old mid cut keeps epoch (back.declared ∙ ap declared_of first) (cut_changes ∙ front) in
    let there : AreRestored (take changes mid.changes.items) (take (length old.lists.items) mid.lists.items) cut.lists.items =
    subst (λ ls. AreRestored (take changes mid.changes.items) ls cut.lists.items) first back in
    record { history = history; stem = stem_same old cut h history hashes (cut_lists old mid (take changes mid.changes.items) cut.lists.items h keeps front there) }

pub loaded_cut : (old new : Draft) (newest : List Newest) (rest : List ℕ) (was stale : Bool) → IsLoadedDraft old newest rest was → new.sized ≡ old.sized → history_of new ≡ history_of old → IsStem new
    → (stale ≡ true) ⊎ IsDraft new → IsLoadedDraft new newest rest stale
loaded_cut old new newest rest was stale h sized history stem fresh = record {
  stem = stem;
  fresh = fresh;
  names = h.names ∙ sym (names_same_lists old new history);
  each = subst (λ (v : History). All (IsNewest v) newest) (sym history) h.each;
  waits = (λ i. after_bytes (record { kept = same_kept old new sized history [] i; begun = None }) rest) ∙ h.waits ∙ ap Ok (sym (same_kept old new sized history rest));
  short = h.short;
}

-- tables that could not be made anew are stale
pub fresh_or_stale : {E : Type 0} (result : Result ⊤ E) (P : Type 0) (stale : Bool) → stale ≡ is_err result → OnOk result P → (stale ≡ true) ⊎ P
fresh_or_stale (Ok done) P stale e h = inr h
fresh_or_stale (Err fault) P stale e h = inl e

pub keeps_refreshed : (old new : Draft) → new.sized ≡ old.sized → new.epoch ≡ old.epoch → new.changes ≡ old.changes → declared_of new.lists.items ≡ declared_of old.lists.items → IsStem new → KeepsFront old new
keeps_refreshed old new sized epoch changes declared h = record {
  sized = sized;
  epoch = epoch;
  changes = ap (λ cs. take (length old.changes.items) cs.items) changes ∙ take_all (length old.changes.items) old.changes.items (omega arith);
  declared = declared_same old.lists.items new.lists.items declared;
  cut = cut_stem new h;
  few_changes = h.few_changes;
  few_lines = omega (arith, h.hashes, h.few_hashes);
}

-- ---- whether there is more

abbrev pub longer : Draft → Draft → Bool
longer old new = not (length old.lists.items == length new.lists.items) || not (length old.changes.items == length new.changes.items)

neither : (x y : Bool) → (not x || not y) ≡ false → (x ≡ true) × (y ≡ true)
neither true true h = (refl, refl)
neither true false h = absurd (cc)
neither false y h = absurd (cc)

whole_then : {A : Type 0} (m n : ℕ) (xs ys : List A) → (m == n) ≡ true → length ys ≡ n → take m ys ≡ xs → ys ≡ xs
whole_then m n xs ys same long front =
    let is : m ≡ n = eqb-true m n same in
    sym (take_all m ys (omega (arith, is, long))) ∙ front

not_longer : (old new : Draft) → KeepsFront old new → longer old new ≡ false → history_of new ≡ history_of old
not_longer old new h none =
    let same = neither (length old.lists.items == length new.lists.items) (length old.changes.items == length new.changes.items) none in
    let e = h.epoch in
    let d = whole_then (length old.lists.items) (length new.lists.items) (declared_of old.lists.items) (declared_of new.lists.items) same.0 (length_declared new.lists.items) h.declared in
    let c = whole_then (length old.changes.items) (length new.changes.items) old.changes.items new.changes.items same.1 refl h.changes in
    λ i. record { epoch = e i; declared = d i; changes = c i }

no_more : (m n i j : ℕ) → m ≡ n → i ≡ j → (not (m == n) || not (i == j)) ≡ false
no_more m n i j h k = rw (eq-eqb m n h, eq-eqb i j k) refl

same_length : (old new : Draft) → history_of new ≡ history_of old → longer old new ≡ false
same_length old new e =
    let lists : length old.lists.items ≡ length new.lists.items = sym (length_declared old.lists.items) ∙ ap (λ (v : History). length v.declared) (sym e) ∙ length_declared new.lists.items in
    no_more (length old.lists.items) (length new.lists.items) (length old.changes.items) (length new.changes.items) lists (ap (λ (v : History). length v.changes) (sym e))

-- A history that grew is another one exactly where there are more lists or changes.
pub grows_if_longer : (old new : Draft) (more : Bool) → KeepsFront old new → more ≡ longer old new → (more ≡ false) ↔ (history_of new ≡ history_of old)
grows_if_longer old new more h is = (λ none. not_longer old new h (sym is ∙ none), λ e. is ∙ same_length old new e)
