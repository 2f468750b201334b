-- What a journal comes to, where the source tells it.
use Rattle.std.proofs.Common.{◌≡◌, ◌⊎◌, inl, inr, ℕ, List, [], ◌∷◌, ◌++◌, Bool, true, false, refl, sym, ap, ◌∙◌, Option, Some, None}
use Rattle.std.specs.Prelude.{Result, Ok, Err}
use Rattle.std.proofs.lemmas.List.{append-nil}
use Rattle.std.proofs.lemmas.List.Splits.{slice_split_none}
use Rattle.sb_outside.specs.Outside.{next_piece, prepended, bytes_left}
use Rattle.list_versions.specs.Lines.{is_newline}
use Rattle.list_versions.specs.Split.{IsFront}
use Rattle.list_versions.specs.Journal.{Kept, kept_of, after_first}
use Rattle.list_versions.specs.Loaded.{Gives, IsBadJournal, JournalOutcome}
use Rattle.list_versions.specs.declared.fault.JournalFault.{JournalFault}
use Rattle.list_versions.specs.declared.fault.JournalFault.TheVariants.{ReadFault, Header, Line, UnknownList, ListTwice, TooMany, TooLarge, OutOfMemory}

-- the given bytes are the front of those that the source told, and all of them where it answered its end
by_rest : (bytes piece : List ℕ) (after : Option (List (List ℕ))) → Some piece ≡ prepended bytes (bytes_left after) → (more : List ℕ) × (piece ≡ bytes ++ more)
by_rest bytes piece None e = absurd (cc)
by_rest bytes piece (Some left) e = (next_piece left, cc)

pub told_front : (bytes : List ℕ) (ended : Bool) (pieces : List (List ℕ)) (after : Option (List (List ℕ))) → Gives bytes ended (Some pieces) after
    → (more : List ℕ) × (next_piece pieces ≡ bytes ++ more)
told_front bytes true pieces after h = ([], h.whole ∙ sym (append-nil bytes))
told_front bytes false pieces after h = by_rest bytes (next_piece pieces) after h.front

told_whole : (bytes : List ℕ) (ended : Bool) (pieces : List (List ℕ)) (after : Option (List (List ℕ))) → Gives bytes ended (Some pieces) after
    → ended ≡ true → next_piece pieces ≡ bytes
told_whole bytes true pieces after h e = h.whole
told_whole bytes false pieces after h e = absurd (cc)

-- a journal with a bad line tells no history
bad_tells_none : (bytes : List ℕ) (fault : JournalFault) (journal more : List ℕ) (kept : Kept) → IsBadJournal bytes fault → journal ≡ bytes ++ more → kept_of journal ≡ Ok kept → ⊥
bad_tells_none bytes fault journal more kept bad e h = let told : kept_of journal ≡ Err fault = ap kept_of e ∙ bad more in cc

-- nor does one whose first line has not ended
front_tells_none : (bytes : List ℕ) (kept : Kept) → IsFront bytes → kept_of bytes ≡ Ok kept → ⊥
unfolding kept_of
front_tells_none bytes kept front h =
    let none : after_first (bytes ∷ []) ≡ Ok kept = ap after_first (sym (slice_split_none is_newline bytes front.within)) ∙ h in
    cc

-- what is loaded of a journal that the source tells and that has no fault
abbrev pub IsLoadedAs : Kept → Result Kept JournalFault → Type 0
IsLoadedAs kept loaded = (loaded ≡ Ok kept) ⊎ (loaded ≡ Err ReadFault) ⊎ (loaded ≡ Err OutOfMemory)

pub loaded_as : (bytes : List ℕ) (ended : Bool) (pieces : List (List ℕ)) (after : Option (List (List ℕ))) (kept : Kept) (loaded : Result Kept JournalFault)
    → Gives bytes ended (Some pieces) after → kept_of (next_piece pieces) ≡ Ok kept → JournalOutcome bytes ended loaded → IsLoadedAs kept loaded
loaded_as bytes ended pieces after kept (Ok found) gives told outcome =
    let whole : next_piece pieces ≡ bytes = told_whole bytes ended pieces after gives outcome.0 in
    let same : Ok found ≡ Ok kept = sym outcome.1 ∙ ap kept_of (sym whole) ∙ told in
    inl same
loaded_as bytes ended pieces after kept (Err ReadFault) gives told outcome = inr (inl refl)
loaded_as bytes ended pieces after kept (Err OutOfMemory) gives told outcome = inr (inr refl)
loaded_as bytes ended pieces after kept (Err Header) gives told (inl bad) =
    let front = told_front bytes ended pieces after gives in absurd (bad_tells_none bytes Header (next_piece pieces) front.0 kept bad front.1 told)
loaded_as bytes ended pieces after kept (Err Header) gives told (inr front) =
    let whole : next_piece pieces ≡ bytes = told_whole bytes ended pieces after gives front.0 in
    absurd (front_tells_none bytes kept front.1 (ap kept_of (sym whole) ∙ told))
loaded_as bytes ended pieces after kept (Err (Line n)) gives told bad =
    let front = told_front bytes ended pieces after gives in absurd (bad_tells_none bytes (Line n) (next_piece pieces) front.0 kept bad front.1 told)
loaded_as bytes ended pieces after kept (Err (UnknownList n)) gives told bad =
    let front = told_front bytes ended pieces after gives in absurd (bad_tells_none bytes (UnknownList n) (next_piece pieces) front.0 kept bad front.1 told)
loaded_as bytes ended pieces after kept (Err (ListTwice n)) gives told bad =
    let front = told_front bytes ended pieces after gives in absurd (bad_tells_none bytes (ListTwice n) (next_piece pieces) front.0 kept bad front.1 told)
loaded_as bytes ended pieces after kept (Err (TooMany n)) gives told bad =
    let front = told_front bytes ended pieces after gives in absurd (bad_tells_none bytes (TooMany n) (next_piece pieces) front.0 kept bad front.1 told)
loaded_as bytes ended pieces after kept (Err (TooLarge n)) gives told bad =
    let front = told_front bytes ended pieces after gives in absurd (bad_tells_none bytes (TooLarge n) (next_piece pieces) front.0 kept bad front.1 told)
