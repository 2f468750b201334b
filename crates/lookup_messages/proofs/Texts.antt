-- Texts that read as a message.
use Rattle.std.proofs.Common.{◌≡◌, ℕ, List, ◌⊎◌, inl, inr, Option, Some, None, Result, Ok, Err, IfOk, IfErr, MatchResult, subst}
use Rattle.serde_json.specs.Data.{Data}
use Rattle.sb_json.specs.Values.{value_of}
use Rattle.sb_json.specs.declared.faults.MessageFault.{MessageFault}
use Rattle.sb_json.specs.declared.faults.MessageFault.TheVariants.{OutOfMemory}
use Rattle.update_messages.specs.Reading.{IsTextOf}
use Rattle.update_messages.specs.Faults.{fault_of_text}

no_fault : (fault : Data → Option MessageFault) (r : Result Data MessageFault) (v : Data) (f : MessageFault) → r ≡ Ok v → fault v ≡ None → fault_of_text fault r ≡ Some f → ⊥
no_fault fault r v f e clean told =
    let at : fault v ≡ Some f = rw e at told in
    cc (at, clean)

-- what has a reading is read as it
pub only_reading : {A : Type 0} (Reads : Data → A → Type 0) (fault : Data → Option MessageFault)
    → ((d : Data) (a b : A) → Reads d a → Reads d b → a ≡ b) → ((d : Data) (a : A) → Reads d a → fault d ≡ None)
    → (text : List ℕ) (r : Result A MessageFault) → IfOk r (λ m. IsTextOf Reads text m)
    → IfErr r (λ f. (f ≡ OutOfMemory) ⊎ (fault_of_text fault (value_of text) ≡ Some f))
    → (message : A) → IsTextOf Reads text message → MatchResult r (λ found. found ≡ message) (λ f. f ≡ OutOfMemory)
only_reading Reads fault one clean text (Ok m) ok err message h =
    let value : ok.0 ≡ h.0 = cc (ok.1, h.1) in
    one h.0 m message (subst (λ (d : Data). Reads d m) value ok.2) h.2
only_reading Reads fault one clean text (Err f) ok (inl memory) message h = memory
only_reading Reads fault one clean text (Err f) ok (inr told) message h = absurd (no_fault fault (value_of text) h.0 f h.1 (clean h.0 message h.2) told)
