-- What the last lines of hashes leave of a list.
use Rattle.std.proofs.Common.{◌≡◌, ◌∙◌, ℕ, List, [], ◌∷◌, Bool, true, false, not, ◌&&◌, ◌||◌, fold, if◌then◌else◌, refl, sym, ap}
use Rattle.std.specs.List.{list_any}
use Rattle.std.specs.Str.{bytes_eq}
use Rattle.sb_model.specs.declared.history.Added.{Added}
use Rattle.sb_model.specs.declared.names.ListName.{ListName}
use Rattle.sb_model.specs.Difference.{has_member}
use Rattle.sb_model.specs.History.{History, after_change, sizes_at, version_count}
use Rattle.sb_model.specs.Prefixes.{set_of}
use Rattle.sb_journal.specs.declared.hash_line.HashLine.{HashLine}
use Rattle.sb_journal.specs.declared.hash_line.HashLine.TheVariants.{Add, Remove}
use Rattle.sb_journal.specs.Records.{hash_in, hashes_put_in, last_lines, newest_hashes, records_of, removes_in, history_with_changes}
use Rattle.sb_journal.proofs.Following.{IsOf, all_adds, all_removes, changes_has, has, has_hashes, hashes_of, newest_then, records_adds, records_are, records_removes, same_bytes, same_self, set_member}
use Rattle.sb_journal.proofs.LastLines.{is_of}
use Rattle.sb_journal.proofs.RisingSets.{SetLaws}

-- ---- which lines have a hash

or_middle : (r e p a : Bool) → (r || p) ≡ a → (r || (e || p)) ≡ (e || a)
or_middle true true p a h = refl
or_middle true false p a h = h
or_middle false true p a h = refl
or_middle false false p a h = h

or_front : (e r p a : Bool) → (r || p) ≡ a → ((e || r) || p) ≡ (e || a)
or_front true r p a h = refl
or_front false r p a h = h

-- A line of a hash takes it out or puts it in.
of_hash : (lines : List HashLine) (x : List ℕ) → (has_member (removes_in lines) x || has_member (hashes_put_in lines) x) ≡ list_any (is_of x) lines
of_hash [] x = refl
of_hash (Add added ∷ lines) x =
    or_middle (has_member (removes_in lines) x) (bytes_eq added.hash x) (has_member (hashes_put_in lines) x) (list_any (is_of x) lines) (of_hash lines x)
of_hash (Remove hash ∷ lines) x =
    or_front (bytes_eq hash x) (has_member (removes_in lines) x) (has_member (hashes_put_in lines) x) (list_any (is_of x) lines) (of_hash lines x)

or_known : (e a b : Bool) → a ≡ b → (e ≡ true → b ≡ true) → a ≡ (e || b)
or_known true a b h k = h ∙ k refl
or_known false a b h k = h

-- The last lines have the hashes of the lines.
last_any : (lines : List HashLine) (x : List ℕ) → list_any (is_of x) (last_lines lines) ≡ list_any (is_of x) lines
unfolding last_lines
last_any [] x = refl
last_any (line ∷ lines) x = one_more (list_any (is_of (hash_in line)) lines) refl (last_any lines x)
  where
    one_more : (b : Bool) → list_any (is_of (hash_in line)) lines ≡ b → list_any (is_of x) (last_lines lines) ≡ list_any (is_of x) lines
        → list_any (is_of x) (if b then last_lines lines else line ∷ last_lines lines) ≡ (bytes_eq (hash_in line) x || list_any (is_of x) lines)
    one_more true e h =
        or_known (bytes_eq (hash_in line) x) (list_any (is_of x) (last_lines lines)) (list_any (is_of x) lines) h
        (λ same. ap (λ hash. list_any (is_of hash) lines) (sym (same_bytes (hash_in line) x same)) ∙ e)
    one_more false e h = ap (λ b. bytes_eq (hash_in line) x || b) h

-- ---- no hash of the last lines is both taken out and put in

abbrev Both : List HashLine → List ℕ → Bool
Both lines x = has_member (removes_in lines) x && has_member (hashes_put_in lines) x

first_none : (r p : Bool) → (r || p) ≡ false → r ≡ false
first_none true p e = e
first_none false p e = refl

second_none : (r p : Bool) → (r || p) ≡ false → p ≡ false
second_none true p e = absurd (cc)
second_none false p e = e

added_apart : (e r p : Bool) → (r && p) ≡ false → (e ≡ true → (r || p) ≡ false) → (r && (e || p)) ≡ false
added_apart true r p h k = ap (λ b. b && true) (first_none r p (k refl))
added_apart false r p h k = h

removed_apart : (e r p : Bool) → (r && p) ≡ false → (e ≡ true → (r || p) ≡ false) → ((e || r) && p) ≡ false
removed_apart true r p h k = second_none r p (k refl)
removed_apart false r p h k = h

with_line : (line : HashLine) (lines : List HashLine) (x : List ℕ) → list_any (is_of (hash_in line)) lines ≡ false → Both lines x ≡ false → Both (line ∷ lines) x ≡ false
with_line (Add added) lines x none h =
    added_apart (bytes_eq added.hash x) (has_member (removes_in lines) x) (has_member (hashes_put_in lines) x) h
    (λ same. of_hash lines x ∙ ap (λ hash. list_any (is_of hash) lines) (sym (same_bytes added.hash x same)) ∙ none)
with_line (Remove hash) lines x none h =
    removed_apart (bytes_eq hash x) (has_member (removes_in lines) x) (has_member (hashes_put_in lines) x) h
    (λ same. of_hash lines x ∙ ap (λ other. list_any (is_of other) lines) (sym (same_bytes hash x same)) ∙ none)

last_apart : (lines : List HashLine) (x : List ℕ) → Both (last_lines lines) x ≡ false
unfolding last_lines
last_apart [] x = refl
last_apart (line ∷ lines) x = one_more (list_any (is_of (hash_in line)) lines) refl (last_apart lines x)
  where
    one_more : (b : Bool) → list_any (is_of (hash_in line)) lines ≡ b → Both (last_lines lines) x ≡ false → Both (if b then last_lines lines else line ∷ last_lines lines) x ≡ false
    one_more true e h = h
    one_more false e h = with_line line (last_lines lines) x (last_any lines (hash_in line) ∙ e) h

-- ---- the newest hashes

-- After the records of last lines a list has what these put in, and what it had and they do not take out.
pub last_lines_leave : SetLaws → (history : History) (list : ListName) (lines : List HashLine) (x : List ℕ)
    → has_member (newest_hashes (history_with_changes history (records_of list (last_lines lines))) list) x
    ≡ ((has_member (newest_hashes history list) x && not (has_member (removes_in (last_lines lines)) x)) || has_member (hashes_put_in (last_lines lines)) x)
last_lines_leave laws history list lines x =
    let changes = records_of list (last_lines lines) in
    let entries = sizes_at history list (version_count history) in
    let after = fold (after_change list) entries changes in
    let removes : all_removes changes ≡ removes_in (last_lines lines) = records_removes list (last_lines lines) in
    let adds : all_adds changes ≡ hashes_put_in (last_lines lines) = records_adds list (last_lines lines) in
    let apart : (has_member (all_removes changes) x && has_member (all_adds changes) x) ≡ false =
    ap (λ hs. has_member hs x && has_member (all_adds changes) x) removes ∙ ap (λ hs. has_member (removes_in (last_lines lines)) x && has_member hs x) adds ∙ last_apart lines x in
    ap (λ (es : List Added). has_member (set_of (hashes_of es)) x) (newest_then history changes list)
    ∙ set_member laws (hashes_of after) x ∙ sym (has_hashes after x)
    ∙ changes_has list changes entries x (records_are (IsOf list) list (last_lines lines) (λ some. same_self list)) apart
    ∙ ap (λ hs. (has entries x && not (has_member hs x)) || has_member (all_adds changes) x) removes
    ∙ ap (λ hs. (has entries x && not (has_member (removes_in (last_lines lines)) x)) || has_member hs x) adds
    ∙ ap (λ b. (b && not (has_member (removes_in (last_lines lines)) x)) || has_member (hashes_put_in (last_lines lines)) x) (has_hashes entries x ∙ sym (set_member laws (hashes_of entries) x))
