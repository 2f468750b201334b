-- What a text that is lent whole comes to as a journal, or behind one.
use Rattle.std.proofs.Common.{◌≡◌, ◌≢◌, ℕ, Bool, true, false, List, [], ◌∷◌, ◌++◌, refl, sym, ap, ◌∙◌, subst, Option, Some, None, arith, append-nil}
use Rattle.std.specs.Prelude.{Err}
use Rattle.sb_outside.specs.Outside.{Rose, bytes_left, next_piece, prepended}
use Rattle.list_versions.specs.Journal.{Kept, read_on}
use Rattle.list_versions.specs.Loaded.{Gives, FurtherFault, IsBadRest}
use Rattle.list_versions.specs.declared.fault.JournalFault.{JournalFault}
use Rattle.list_versions.specs.declared.fault.JournalFault.TheVariants.{ReadFault, Header, Line, UnknownList, ListTwice, TooMany, TooLarge, OutOfMemory}

-- a source that gives this text and then its end
abbrev pub lent : List ℕ → Option (List (List ℕ))
lent text = Some (text ∷ [])

some_text : (text given : List ℕ) (after : Option (List (List ℕ))) → (let whole : Option (List ℕ) = Some text in whole ≡ prepended given (bytes_left after))
    → (rest : List ℕ) × (given ++ rest ≡ text)
some_text text given None e = absurd (cc)
some_text text given (Some pieces) e = (next_piece pieces, cc)

-- what was given of it is a front
pub given_front : (text given : List ℕ) (ended : Bool) (before after : Option (List (List ℕ))) → before ≡ lent text → Gives given ended before after → (rest : List ℕ) × (given ++ rest ≡ text)
given_front text given ended before after is gives = front text given ended after (subst (λ (from : Option (List (List ℕ))). Gives given ended from after) is gives)
  where
    front : (text given : List ℕ) (ended : Bool) (after : Option (List (List ℕ))) → Gives given ended (lent text) after → (rest : List ℕ) × (given ++ rest ≡ text)
    front text given true after gives = ([], append-nil given ∙ sym gives.whole)
    front text given false after gives = some_text text given after gives.front

-- a source that counts no fault did not fail
pub none_rose : Rose 0 0 → ⊥
none_rose h = absurd (omega (arith, h))

bad_rest : (kept : Kept) (text given : List ℕ) (fault : JournalFault) → (rest : List ℕ) × (given ++ rest ≡ text) → IsBadRest kept given fault → read_on kept text ≡ Err fault
bad_rest kept text given fault rest bad = ap (read_on kept) (sym rest.1) ∙ bad rest.0

-- why a text is not read on behind a journal
pub further_fault : (kept : Kept) (text given : List ℕ) (fault : JournalFault) → (rest : List ℕ) × (given ++ rest ≡ text) → FurtherFault kept given fault
    → fault ≢ ReadFault → fault ≢ OutOfMemory → read_on kept text ≡ Err fault
further_fault kept text given ReadFault rest bad read memory = absurd (read refl)
further_fault kept text given Header rest bad read memory = absurd bad
further_fault kept text given (Line n) rest bad read memory = bad_rest kept text given (Line n) rest bad
further_fault kept text given (UnknownList n) rest bad read memory = bad_rest kept text given (UnknownList n) rest bad
further_fault kept text given (ListTwice n) rest bad read memory = bad_rest kept text given (ListTwice n) rest bad
further_fault kept text given (TooMany n) rest bad read memory = bad_rest kept text given (TooMany n) rest bad
further_fault kept text given (TooLarge n) rest bad read memory = bad_rest kept text given (TooLarge n) rest bad
further_fault kept text given OutOfMemory rest bad read memory = absurd (memory refl)
