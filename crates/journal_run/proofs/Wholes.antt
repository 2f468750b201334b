-- Why a text that is lent whole is no journal.
use Rattle.std.proofs.Common.{◌≡◌, ◌≢◌, ◌∙◌, inl, inr, ℕ, Bool, true, false, List, ◌++◌, refl, sym, ap, subst, Option}
use Rattle.std.specs.Prelude.{Err}
use Rattle.std.proofs.lemmas.List.Splits.{slice_split_none}
use Rattle.list_versions.specs.Journal.{after_first, kept_of}
use Rattle.list_versions.specs.Lines.{is_newline}
use Rattle.list_versions.specs.Loaded.{Gives, IsBadJournal, JournalOutcome}
use Rattle.list_versions.specs.Split.{IsFront}
use Rattle.list_versions.specs.declared.fault.JournalFault.{JournalFault}
use Rattle.list_versions.specs.declared.fault.JournalFault.TheVariants.{ReadFault, Header, Line, UnknownList, ListTwice, TooMany, TooLarge, OutOfMemory}
use Rattle.journal_run.proofs.Taking.{lent}

bad_text : (text given : List ℕ) (fault : JournalFault) → (rest : List ℕ) × (given ++ rest ≡ text) → IsBadJournal given fault → kept_of text ≡ Err fault
bad_text text given fault rest bad = ap kept_of (sym rest.1) ∙ bad rest.0

-- a first line that is not whole is none
no_header : (text : List ℕ) → IsFront text → kept_of text ≡ Err Header
unfolding kept_of
no_header text front = ap after_first (slice_split_none is_newline text front.within)

-- what was given with its end is the text
all_given : (text given : List ℕ) (ended : Bool) (after : Option (List (List ℕ))) → ended ≡ true → Gives given ended (lent text) after → given ≡ text
all_given text given true after is gives = sym gives.whole
all_given text given false after is gives = absurd (cc (is))

pub whole_fault : (text given : List ℕ) (ended : Bool) (before after : Option (List (List ℕ))) (fault : JournalFault) → before ≡ lent text → Gives given ended before after
    → (rest : List ℕ) × (given ++ rest ≡ text) → JournalOutcome given ended (Err fault) → fault ≢ ReadFault → fault ≢ OutOfMemory → kept_of text ≡ Err fault
whole_fault text given ended before after ReadFault is gives rest bad read memory = absurd (read refl)
whole_fault text given ended before after Header is gives rest (inl bad) read memory = bad_text text given Header rest bad
whole_fault text given ended before after Header is gives rest (inr cut) read memory =
    no_header text (subst IsFront (all_given text given ended after cut.0 (subst (λ (from : Option (List (List ℕ))). Gives given ended from after) is gives)) cut.1)
whole_fault text given ended before after (Line n) is gives rest bad read memory = bad_text text given (Line n) rest bad
whole_fault text given ended before after (UnknownList n) is gives rest bad read memory = bad_text text given (UnknownList n) rest bad
whole_fault text given ended before after (ListTwice n) is gives rest bad read memory = bad_text text given (ListTwice n) rest bad
whole_fault text given ended before after (TooMany n) is gives rest bad read memory = bad_text text given (TooMany n) rest bad
whole_fault text given ended before after (TooLarge n) is gives rest bad read memory = bad_text text given (TooLarge n) rest bad
whole_fault text given ended before after OutOfMemory is gives rest bad read memory = absurd (memory refl)
