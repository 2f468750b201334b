-- The records of what lists have now, list by list.
use Rattle.std.proofs.Common.{◌≡◌, ◌∙◌, ℕ, ◌+◌, ◌<◌, ◌≤◌, true, List, [], ◌∷◌, ◌++◌, length, drop, get_or, refl, sym, ap, append_assoc, append-nil}
use Rattle.std.specs.List.{flat_map}
use Rattle.std.proofs.lemmas.Grind.{flat_map-append}
use Rattle.std.proofs.lemmas.List.{drop_all, drop_more}
use Rattle.sb_model.specs.declared.names.ListName.{ListName}
use Rattle.sb_model.specs.History.{History}
use Rattle.list_versions.specs.Written.{change_text}
use Rattle.sb_journal.specs.Compacted.{all_puts, newest_entries, puts_of}
use Rattle.sb_journal.specs.Texts.{records_text}

abbrev pub list_text : History → ListName × ℕ → List ℕ
list_text history list = records_text true (puts_of list.0 (newest_entries history list.0))

pub all_text : (history : History) (lists : List (ListName × ℕ)) → flat_map (list_text history) lists ≡ records_text true (all_puts history lists)
all_text history [] = refl
all_text history (list ∷ lists) =
    ap (λ (text : List ℕ). list_text history list ++ text) (all_text history lists)
    ∙ sym (flat_map-append (change_text true) (puts_of list.0 (newest_entries history list.0)) (all_puts history lists))

-- the records of one list more
pub next_text : (history : History) (lists : List (ListName × ℕ)) (i : ℕ) (d : ListName × ℕ) (page after whole : List ℕ) → i < length lists
    → page ++ flat_map (list_text history) (drop i lists) ≡ whole → after ≡ page ++ list_text history (get_or lists i d)
    → after ++ flat_map (list_text history) (drop (i + 1) lists) ≡ whole
next_text history lists i d page after whole lt h e =
    ap (λ (text : List ℕ). text ++ flat_map (list_text history) (drop (i + 1) lists)) e
    ∙ append_assoc page (list_text history (get_or lists i d)) (flat_map (list_text history) (drop (i + 1) lists))
    ∙ ap (λ (ds : List (ListName × ℕ)). page ++ flat_map (list_text history) ds) (sym (drop_more lists i d lt)) ∙ h

-- all lists
pub whole_text : (history : History) (lists : List (ListName × ℕ)) (i : ℕ) (page before : List ℕ) → length lists ≤ i
    → page ++ flat_map (list_text history) (drop i lists) ≡ before ++ flat_map (list_text history) lists → page ≡ before ++ records_text true (all_puts history lists)
whole_text history lists i page before le h =
    sym (append-nil page) ∙ ap (λ (ds : List (ListName × ℕ)). page ++ flat_map (list_text history) ds) (sym (drop_all i lists le)) ∙ h
    ∙ ap (λ (text : List ℕ). before ++ text) (all_text history lists)
