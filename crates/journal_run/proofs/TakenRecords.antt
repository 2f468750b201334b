-- Records that a journal takes are the changes that they were written of.
use Rattle.std.proofs.Common.{◌≡◌, ◌≢◌, ◌∙◌, ℕ, Bool, true, false, List, [], ◌∷◌, refl, sym, ap, append-nil, Ok}
use Rattle.std.specs.Prelude.{All, Result}
use Rattle.std.specs.List.{flat_map}
use Rattle.sb_model.specs.declared.history.Change.{Change}
use Rattle.list_versions.specs.Journal.{Kept, read_on}
use Rattle.list_versions.specs.Written.{HaveDeclaredSizes, MayFollow, change_text, with_changes}
use Rattle.list_versions.specs.declared.fault.JournalFault.{JournalFault}
use Rattle.sb_journal.specs.Texts.{records_text}

abbrev pub ReadSized : Type 0
ReadSized = (kept after : Kept) (changes : List Change) → kept.rest ≡ [] → kept.sized ≡ true → All (MayFollow kept.versions) changes
    → read_on kept (flat_map (change_text true) changes) ≡ Ok after → after ≡ with_changes changes kept

abbrev pub ReadPlain : Type 0
ReadPlain = (kept after : Kept) (changes : List Change) → kept.rest ≡ [] → All (MayFollow kept.versions) changes → HaveDeclaredSizes kept.versions changes
    → read_on kept (flat_map (change_text false) changes) ≡ Ok after → after ≡ with_changes changes kept

of_form : ReadSized → ReadPlain → (kept after : Kept) (changes : List Change) (b : Bool) → kept.sized ≡ b → kept.rest ≡ [] → All (MayFollow kept.versions) changes → HaveDeclaredSizes kept.versions changes
    → read_on kept (records_text b changes) ≡ Ok after → after ≡ with_changes changes kept
of_form sized plain kept after changes true is none follow sizes read = sized kept after changes none is follow read
of_form sized plain kept after changes false is none follow sizes read = plain kept after changes none follow sizes read

exactly_these : ReadSized → ReadPlain → (kept after : Kept) (changes : List Change) → kept.rest ≡ [] → All (MayFollow kept.versions) changes → HaveDeclaredSizes kept.versions changes
    → read_on kept (records_text kept.sized changes) ≡ Ok after → after ≡ with_changes changes kept
exactly_these sized plain kept after changes none follow sizes read = of_form sized plain kept after changes kept.sized refl none follow sizes read

abbrev pub Waits : Type 0
Waits = (kept after : Kept) (sized : Bool) (change : Change) (changes : List Change) → read_on kept [] ≡ Ok kept → kept.rest ≢ [] → read_on kept (records_text sized (change ∷ changes)) ≢ Ok after

same_ok : (a b : Kept) → (let ok : Result Kept JournalFault = Ok a in ok ≡ Ok b) → a ≡ b
same_ok a b e = cc

is_empty : (xs : List ℕ) → (xs ≢ [] → ⊥) → xs ≡ []
is_empty [] h = refl
is_empty (x ∷ xs) h = absurd (h (λ e. cc (e)))

-- Records that are taken are these changes, whatever stands behind the last record of the journal: if something does, there are none.
pub these_alone : ReadSized → ReadPlain → Waits → (kept after : Kept) (changes : List Change) → read_on kept [] ≡ Ok kept → All (MayFollow kept.versions) changes
    → HaveDeclaredSizes kept.versions changes → read_on kept (records_text kept.sized changes) ≡ Ok after → after ≡ with_changes changes kept
these_alone sized plain waits kept after [] front follow sizes read = same_ok after kept (sym read ∙ front) ∙ sym (unchanged kept)
  where
    unchanged : (kept : Kept) → with_changes [] kept ≡ kept
    unchanged kept = ap (λ (changes : List Change). record kept { versions = record kept.versions { changes = changes } }) (append-nil kept.versions.changes)
these_alone sized plain waits kept after (change ∷ changes) front follow sizes read =
    exactly_these sized plain kept after (change ∷ changes) (is_empty kept.rest (λ some. waits kept after kept.sized change changes front some read)) follow sizes read
