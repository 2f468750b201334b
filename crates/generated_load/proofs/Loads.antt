-- What the journal of a seed is loaded as.
use Rattle.std.proofs.Common.{◌≡◌, ℕ, List, [], ◌∷◌, ◌++◌, sym, ap, ◌∙◌, inl, inr, append-nil, Bool, true, false, Option, Some, None}
use Rattle.std.specs.Prelude.{Ok, Err, IsTrue}
use Rattle.std.proofs.lemmas.List.Splits.{slice_split_none}
use Rattle.sb_model.specs.History.{History}
use Rattle.sb_outside.specs.Outside.{bytes_left, next_piece, prepended}
use Rattle.list_versions.specs.declared.fault.JournalFault.{JournalFault}
use Rattle.list_versions.specs.declared.fault.JournalFault.TheVariants as journal
use Rattle.list_versions.specs.Journal.{Kept, after_first, kept_of}
use Rattle.list_versions.specs.Lines.{is_newline}
use Rattle.list_versions.specs.Loaded.{Gives, IsBadJournal, JournalOutcome}
use Rattle.list_versions.specs.Split.{IsFront}
use Rattle.list_versions.specs.Written.{wholly}
use Rattle.generated_load.specs.declared.fault.ExerciseFault.TheVariants as exercise
use Rattle.generated_load.specs.Exercise.{exercise_fault_of}

-- a source of one text that came to its end gave the text
gives_all : (text bytes : List ℕ) (ended : Bool) (pieces : List (List ℕ)) (after : Option (List (List ℕ))) → pieces ≡ text ∷ [] → IsTrue ended
    → Gives bytes ended (Some pieces) after → text ≡ bytes
gives_all text bytes true pieces after is end gives = ap next_piece (sym is) ∙ gives.whole
gives_all text bytes false pieces after is end gives = cc

-- and what it gave in any case is a front of the text
front_left : (text bytes : List ℕ) (after : Option (List (List ℕ))) → Some text ≡ prepended bytes (bytes_left after) → (more : List ℕ) × (text ≡ bytes ++ more)
front_left text bytes None e = absurd (cc)
front_left text bytes (Some pieces) e = (next_piece pieces, cc)

gives_front : (text bytes : List ℕ) (ended : Bool) (pieces : List (List ℕ)) (after : Option (List (List ℕ))) → pieces ≡ text ∷ []
    → Gives bytes ended (Some pieces) after → (more : List ℕ) × (text ≡ bytes ++ more)
gives_front text bytes true pieces after is gives = ([], ap next_piece (sym is) ∙ gives.whole ∙ sym (append-nil bytes))
gives_front text bytes false pieces after is gives = front_left text bytes after (ap (λ (ps : List (List ℕ)). Some (next_piece ps)) (sym is) ∙ gives.front)

-- ---- a journal that is loaded

pub loaded : (text bytes : List ℕ) (ended : Bool) (pieces : List (List ℕ)) (after : Option (List (List ℕ))) (kept : Kept) (history : History) → pieces ≡ text ∷ []
    → kept_of text ≡ Ok (wholly false history) → Gives bytes ended (Some pieces) after → JournalOutcome bytes ended (Ok kept) → kept.versions ≡ history
loaded text bytes ended pieces after kept history is reads gives outcome =
    let whole : text ≡ bytes = gives_all text bytes ended pieces after is outcome.0 gives in
    let both : Ok kept ≡ Ok (wholly false history) = sym outcome.1 ∙ ap kept_of (sym whole) ∙ reads in
    let same : kept ≡ wholly false history = cc in
    ap (λ (k : Kept). k.versions) same

-- ---- a journal that is not

no_line : (text : List ℕ) → IsFront text → kept_of text ≡ Err journal.Header
unfolding kept_of
no_line text front = ap after_first (slice_split_none is_newline text front.within)

not_bad : (text bytes : List ℕ) (ended : Bool) (pieces : List (List ℕ)) (after : Option (List (List ℕ))) (kept : Kept) (fault : JournalFault) → pieces ≡ text ∷ []
    → kept_of text ≡ Ok kept → Gives bytes ended (Some pieces) after → IsBadJournal bytes fault → ⊥
not_bad text bytes ended pieces after kept fault is reads gives bad =
    let more = gives_front text bytes ended pieces after is gives in
    let fails : kept_of text ≡ Err fault = ap kept_of more.1 ∙ bad more.0 in
    cc

not_front : (text bytes : List ℕ) (ended : Bool) (pieces : List (List ℕ)) (after : Option (List (List ℕ))) (kept : Kept) → pieces ≡ text ∷ []
    → kept_of text ≡ Ok kept → Gives bytes ended (Some pieces) after → IsTrue ended → IsFront bytes → ⊥
not_front text bytes ended pieces after kept is reads gives end front =
    let fails : kept_of text ≡ Err journal.Header = ap kept_of (gives_all text bytes ended pieces after is end gives) ∙ no_line bytes front in
    cc

pub past : (fault : JournalFault) (text bytes : List ℕ) (ended : Bool) (pieces : List (List ℕ)) (after : Option (List (List ℕ))) (kept : Kept) → pieces ≡ text ∷ []
    → kept_of text ≡ Ok kept → Gives bytes ended (Some pieces) after → JournalOutcome bytes ended (Err fault) → exercise_fault_of fault ≡ exercise.PastLimits → ⊥
past journal.ReadFault text bytes ended pieces after kept is reads gives outcome e = cc
past journal.OutOfMemory text bytes ended pieces after kept is reads gives outcome e = cc
past journal.Header text bytes ended pieces after kept is reads gives (inl bad) e = not_bad text bytes ended pieces after kept journal.Header is reads gives bad
past journal.Header text bytes ended pieces after kept is reads gives (inr front) e = not_front text bytes ended pieces after kept is reads gives front.0 front.1
past (journal.Line n) text bytes ended pieces after kept is reads gives bad e = not_bad text bytes ended pieces after kept (journal.Line n) is reads gives bad
past (journal.UnknownList n) text bytes ended pieces after kept is reads gives bad e = not_bad text bytes ended pieces after kept (journal.UnknownList n) is reads gives bad
past (journal.ListTwice n) text bytes ended pieces after kept is reads gives bad e = not_bad text bytes ended pieces after kept (journal.ListTwice n) is reads gives bad
past (journal.TooMany n) text bytes ended pieces after kept is reads gives bad e = not_bad text bytes ended pieces after kept (journal.TooMany n) is reads gives bad
past (journal.TooLarge n) text bytes ended pieces after kept is reads gives bad e = not_bad text bytes ended pieces after kept (journal.TooLarge n) is reads gives bad
