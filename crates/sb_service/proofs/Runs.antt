-- How a run of `answer` ends, where the journal and the input are told.
use Rattle.std.proofs.Common.{◌≡◌, ◌≢◌, ◌⊎◌, inl, inr, ℕ, ◌<◌, ◌≤◌, List, ◌++◌, length, sym, ap, ◌∙◌, subst, Option, Some, None, arith, length-append}
use Rattle.std.specs.Prelude.{◌↔◌, Result, Ok, Err}
use Rattle.serde_json.specs.Data.{Data}
use Rattle.sb_json.specs.Values.{value_of}
use Rattle.sb_json.specs.declared.faults.MessageFault.{MessageFault}
use Rattle.sb_outside.specs.Outside.{next_piece, appended, prepended, bytes_left, Rose}
use Rattle.sb_outside.specs.Reading.{GivesMoreThan}
use Rattle.sb_outside.specs.declared.reading.InputFault.{InputFault}
use Rattle.sb_outside.specs.declared.reading.InputFault.TheVariants as input
use Rattle.sb_model.specs.History.{History}
use Rattle.list_versions.specs.Journal.{Kept, kept_of}
use Rattle.list_versions.specs.declared.fault.JournalFault.{JournalFault}
use Rattle.update_messages.specs.Messages.{Request}
use Rattle.update_messages.specs.Reading.{ReadsRequest, IsTextOf}
use Rattle.update_messages.specs.Faults.{fault_of_request, fault_of_text}
use Rattle.hash_messages.specs.Faults.{fault_of_find_request}
use Rattle.hash_messages.specs.Messages.{AskedHashes}
use Rattle.hash_messages.specs.Reading.{ReadsFindRequest}
use Rattle.sb_service.specs.declared.command.MessageKind.{MessageKind}
use Rattle.lookup_messages.specs.Faults.{fault_of_lookup}
use Rattle.lookup_messages.specs.Messages.{AskedUrls}
use Rattle.lookup_messages.specs.Reading.{ReadsLookup}
use Rattle.sb_service.specs.declared.command.MessageKind.TheVariants.{Fetch, Find, Lookup}
use Rattle.delta_server.specs.declared.answering.Settings.{Settings}
use Rattle.sb_service.specs.Printed.{Reply, answer_line, reply_to_fetch, reply_to_find, reply_to_lookup, reply_with}
use Rattle.sb_service.specs.Answer.{IsMessageAnswerOf, AfterBody, AfterJournalOfAnswer, BodyOutcome, IsAnswerRun, IsFetchOf, IsFindOf, IsLookupOf, IsBodyRun, IsReplied, IsReplyTo, IsWritten, HasNoFault, IsServerStatus, most_body}
use Rattle.sb_service.proofs.ConnectionFacts.{ReadsOneWay, one_message}
use Rattle.sb_service.proofs.Loads.{IsLoadedAs, loaded_as}

-- a value reads as one message of each kind, and exactly where it has no first fault
pub record ReadsOrFails : Type 0 where
  pub once : ReadsOneWay
  pub fetch : (value : Data) → ((message : Request) × ReadsRequest value message) ↔ (fault_of_request value ≡ None)
  pub find : (value : Data) → ((message : AskedHashes) × ReadsFindRequest value message) ↔ (fault_of_find_request value ≡ None)
  pub lookup : (value : Data) → ((message : AskedUrls) × ReadsLookup value message) ↔ (fault_of_lookup value ≡ None)

-- ---- the reading of a body

no_fault : {M : Type 0} (Reads : Data → M → Type 0) (fault_of : Data → Option MessageFault) → ((value : Data) → ((message : M) × Reads value message) ↔ (fault_of value ≡ None))
    → (body : List ℕ) (message : M) (fault : MessageFault) → IsTextOf Reads body message → fault_of_text fault_of (value_of body) ≡ Some fault → ⊥
no_fault Reads fault_of law body message fault reads h =
    let none : fault_of reads.0 ≡ None = (law reads.0).0 (message, reads.2) in
    let some : fault_of reads.0 ≡ Some fault = sym (ap (fault_of_text fault_of) reads.1) ∙ h in
    cc

one_fetch : ReadsOrFails → (body : List ℕ) (request : Request) (reading : Result Request MessageFault) → IsTextOf ReadsRequest body request → IsFetchOf body reading → reading ≡ Ok request
one_fetch law body request (Ok other) reads h = ap Ok (one_message ReadsRequest law.once.updates body other request h reads)
one_fetch law body request (Err fault) reads h = absurd (no_fault ReadsRequest fault_of_request law.fetch body request fault reads h)

one_find : ReadsOrFails → (body : List ℕ) (request : AskedHashes) (reading : Result AskedHashes MessageFault) → IsTextOf ReadsFindRequest body request → IsFindOf body reading → reading ≡ Ok request
one_find law body request (Ok other) reads h = ap Ok (one_message ReadsFindRequest law.once.hashes body other request h reads)
one_find law body request (Err fault) reads h = absurd (no_fault ReadsFindRequest fault_of_find_request law.find body request fault reads h)

one_lookup : ReadsOrFails → (body : List ℕ) (request : AskedUrls) (reading : Result AskedUrls MessageFault) → IsTextOf ReadsLookup body request → IsLookupOf body reading → reading ≡ Ok request
one_lookup law body request (Ok other) reads h = ap Ok (one_message ReadsLookup law.once.lookups body other request h reads)
one_lookup law body request (Err fault) reads h = absurd (no_fault ReadsLookup fault_of_lookup law.lookup body request fault reads h)

-- the reply to a body that has an answer
reply_is : ReadsOrFails → (versions : History) (times : Settings) (asked : MessageKind) (body text : List ℕ) (reply : Reply) → IsMessageAnswerOf versions times asked body text → IsReplyTo versions times asked body reply
    → reply ≡ reply_with text
reply_is law versions times Fetch body text reply (message, reads, is) (reading, read, same) =
    same ∙ ap (reply_to_fetch versions times) (one_fetch law body message reading reads read) ∙ ap reply_with (sym is)
reply_is law versions times Find body text reply (message, reads, is) (reading, read, same) =
    same ∙ ap (reply_to_find versions times) (one_find law body message reading reads read) ∙ ap reply_with (sym is)
reply_is law versions times Lookup body text reply (message, reads, is) (reading, read, same) =
    same ∙ ap (reply_to_lookup versions times) (one_lookup law body message reading reads read) ∙ ap reply_with (sym is)

-- ---- what is written with status 0

text_served : (text : List ℕ) (status : ℕ) (held held' : Option (List ℕ)) → IsWritten (reply_with text) status held held' → status ≡ 0 → held' ≡ appended held (answer_line text)
text_served text status held held' (inl whole) e = whole.whole
text_served text status held held' (inr cut) e = absurd (omega (arith, cut.ends, e))

replied : ReadsOrFails → (versions : History) (times : Settings) (asked : MessageKind) (status : ℕ) (body text : List ℕ) (held held' : Option (List ℕ)) → IsMessageAnswerOf versions times asked body text
    → IsReplied versions times asked body status held held' → IsWritten (reply_with text) status held held'
replied law versions times asked status body text held held' answer after =
    subst (λ (reply : Reply). IsWritten reply status held held') (reply_is law versions times asked body text after.reply answer after.right) after.written

-- a body that the input tells
told_body : ReadsOrFails → (versions : History) (times : Settings) (asked : MessageKind) (status : ℕ) (bodies : List (List ℕ)) (left' : Option (List (List ℕ))) (held held' : Option (List ℕ)) (text : List ℕ)
    → IsMessageAnswerOf versions times asked (next_piece bodies) text → (given : Result (List ℕ) InputFault) → BodyOutcome given (Some bodies) left'
    → AfterBody versions times asked given status held held' → status ≡ 0 → held' ≡ appended held (answer_line text)
told_body law versions times asked status bodies left' held held' text answer (Ok body) outcome after e =
    let whole : next_piece bodies ≡ body = outcome.0.whole in
    text_served text status held held' (replied law versions times asked status body text held held' (subst (λ (b : List ℕ). IsMessageAnswerOf versions times asked b text) whole answer) after) e
told_body law versions times asked status bodies left' held held' text answer (Err input.Failed) outcome after e = absurd (omega (arith, after.ends, e))
told_body law versions times asked status bodies left' held held' text answer (Err input.PastLimit) outcome after e = absurd (omega (arith, after.ends, e))
told_body law versions times asked status bodies left' held held' text answer (Err input.OutOfMemory) outcome after e = absurd after

by_loaded : ReadsOrFails → (times : Settings) (asked : MessageKind) (status : ℕ) (bodies : List (List ℕ)) (left' : Option (List (List ℕ))) (held held' : Option (List ℕ)) (kept : Kept) (text : List ℕ)
    → IsMessageAnswerOf kept.versions times asked (next_piece bodies) text → (loaded : Result Kept JournalFault) → IsLoadedAs kept loaded
    → AfterJournalOfAnswer times asked loaded status (Some bodies) left' held held' → status ≡ 0 → held' ≡ appended held (answer_line text)
by_loaded law times asked status bodies left' held held' kept text answer loaded (inl is) after e =
    let run : IsBodyRun kept.versions times asked status (Some bodies) left' held held' = subst (λ (l : Result Kept JournalFault). AfterJournalOfAnswer times asked l status (Some bodies) left' held held') is after in
    told_body law kept.versions times asked status bodies left' held held' text answer run.given run.outcome run.after e
by_loaded law times asked status bodies left' held held' kept text answer loaded (inr (inl is)) after e =
    let run = subst (λ (l : Result Kept JournalFault). AfterJournalOfAnswer times asked l status (Some bodies) left' held held') is after in
    absurd (omega (arith, run.after.ends, e))
by_loaded law times asked status bodies left' held held' kept text answer loaded (inr (inr is)) after e =
    let run = subst (λ (l : Result Kept JournalFault). AfterJournalOfAnswer times asked l status (Some bodies) left' held held') is after in
    absurd run.after

pub served : ReadsOrFails → (times : Settings) (asked : MessageKind) (status : ℕ) (pieces bodies : List (List ℕ)) (journal journal' left left' : Option (List (List ℕ))) (held held' : Option (List ℕ)) (kept : Kept) (text : List ℕ)
    → journal ≡ Some pieces → kept_of (next_piece pieces) ≡ Ok kept → left ≡ Some bodies → IsMessageAnswerOf kept.versions times asked (next_piece bodies) text
    → IsAnswerRun times asked status journal journal' left left' held held' → status ≡ 0 → held' ≡ appended held (answer_line text)
served law times asked status pieces bodies journal journal' left left' held held' kept text told is given answer run e =
    let run : IsAnswerRun times asked status (Some pieces) journal' (Some bodies) left' held held' =
    subst (λ (l : Option (List (List ℕ))). IsAnswerRun times asked status (Some pieces) journal' l left' held held') given
    (subst (λ (j : Option (List (List ℕ))). IsAnswerRun times asked status j journal' left left' held held') told run) in
    by_loaded law times asked status bodies left' held held' kept text answer run.loaded
    (loaded_as run.bytes run.ended pieces journal' kept run.loaded run.gives is run.outcome) run.after e

-- ---- a run that nothing hindered

text_whole : (text : List ℕ) (status : ℕ) (held held' : Option (List ℕ)) → IsWritten (reply_with text) status held held' → status ≢ 3 → status ≡ 0
text_whole text status held held' (inl whole) other = whole.ends
text_whole text status held held' (inr cut) other = absurd (other cut.ends)

-- an input that is short enough is not too long
by_left : (given piece : List ℕ) (after : Option (List (List ℕ))) → Some piece ≡ prepended given (bytes_left after) → length piece ≤ most_body → most_body < length given → ⊥
by_left given piece None e short long = absurd (cc)
by_left given piece (Some left) e short long =
    let whole : piece ≡ given ++ next_piece left = cc in
    absurd (omega (arith, short, long, ap length whole, length-append given (next_piece left)))

short_input : (bodies : List (List ℕ)) (after : Option (List (List ℕ))) → length (next_piece bodies) ≤ most_body → GivesMoreThan most_body (Some bodies) after → ⊥
short_input bodies after short more = by_left more.given (next_piece bodies) after more.gives.front short more.past

whole_body : ReadsOrFails → (versions : History) (times : Settings) (asked : MessageKind) (status : ℕ) (bodies : List (List ℕ)) (left' : Option (List (List ℕ))) (held held' : Option (List ℕ)) (text : List ℕ)
    → IsMessageAnswerOf versions times asked (next_piece bodies) text → length (next_piece bodies) ≤ most_body
    → (given : Result (List ℕ) InputFault) → BodyOutcome given (Some bodies) left' → AfterBody versions times asked given status held held'
    → status ≢ 2 → status ≢ 3 → status ≡ 0
whole_body law versions times asked status bodies left' held held' text answer short (Ok body) outcome after two three =
    let whole : next_piece bodies ≡ body = outcome.0.whole in
    text_whole text status held held' (replied law versions times asked status body text held held' (subst (λ (b : List ℕ). IsMessageAnswerOf versions times asked b text) whole answer) after) three
whole_body law versions times asked status bodies left' held held' text answer short (Err input.Failed) outcome after two three = absurd (two after.ends)
whole_body law versions times asked status bodies left' held held' text answer short (Err input.PastLimit) outcome after two three = absurd (short_input bodies left' short outcome)
whole_body law versions times asked status bodies left' held held' text answer short (Err input.OutOfMemory) outcome after two three = absurd after

whole_loaded : ReadsOrFails → (times : Settings) (asked : MessageKind) (status : ℕ) (bodies : List (List ℕ)) (left' : Option (List (List ℕ))) (held held' : Option (List ℕ)) (kept : Kept) (text : List ℕ)
    → IsMessageAnswerOf kept.versions times asked (next_piece bodies) text → length (next_piece bodies) ≤ most_body
    → (loaded : Result Kept JournalFault) → IsLoadedAs kept loaded → AfterJournalOfAnswer times asked loaded status (Some bodies) left' held held'
    → status ≢ 2 → status ≢ 3 → status ≡ 0
whole_loaded law times asked status bodies left' held held' kept text answer short loaded (inl is) after two three =
    let run : IsBodyRun kept.versions times asked status (Some bodies) left' held held' = subst (λ (l : Result Kept JournalFault). AfterJournalOfAnswer times asked l status (Some bodies) left' held held') is after in
    whole_body law kept.versions times asked status bodies left' held held' text answer short run.given run.outcome run.after two three
whole_loaded law times asked status bodies left' held held' kept text answer short loaded (inr (inl is)) after two three =
    let run = subst (λ (l : Result Kept JournalFault). AfterJournalOfAnswer times asked l status (Some bodies) left' held held') is after in
    absurd (two run.after.ends)
whole_loaded law times asked status bodies left' held held' kept text answer short loaded (inr (inr is)) after two three =
    let run = subst (λ (l : Result Kept JournalFault). AfterJournalOfAnswer times asked l status (Some bodies) left' held held') is after in
    absurd run.after

pub answered : ReadsOrFails → (times : Settings) (asked : MessageKind) (status : ℕ) (pieces bodies : List (List ℕ)) (journal journal' left left' : Option (List (List ℕ))) (held held' : Option (List ℕ)) (kept : Kept) (text : List ℕ)
    → journal ≡ Some pieces → kept_of (next_piece pieces) ≡ Ok kept → left ≡ Some bodies → length (next_piece bodies) ≤ most_body
    → IsMessageAnswerOf kept.versions times asked (next_piece bodies) text
    → IsAnswerRun times asked status journal journal' left left' held held' → status ≢ 2 → status ≢ 3 → status ≡ 0
answered law times asked status pieces bodies journal journal' left left' held held' kept text told is given short answer run two three =
    let run : IsAnswerRun times asked status (Some pieces) journal' (Some bodies) left' held held' =
    subst (λ (l : Option (List (List ℕ))). IsAnswerRun times asked status (Some pieces) journal' l left' held held') given
    (subst (λ (j : Option (List (List ℕ))). IsAnswerRun times asked status j journal' left left' held held') told run) in
    whole_loaded law times asked status bodies left' held held' kept text answer short run.loaded
    (loaded_as run.bytes run.ended pieces journal' kept run.loaded run.gives is run.outcome) run.after two three

-- ---- all in all

pub not_risen : (faults faults' : ℕ) → HasNoFault faults faults' → Rose faults faults' → ⊥
not_risen faults faults' h rose = omega (arith, h.kept, h.low, rose)

-- where some status but one is ruled out, it is this one or want of memory
pub zero_or_memory : (status : ℕ) → IsServerStatus status → (status ≢ 8 → status ≡ 0) → (status ≡ 0) ⊎ (status ≡ 8)
zero_or_memory status (inl h) only = inl h
zero_or_memory status (inr (inl h)) only = inl (only (λ e. omega (arith, e, h)))
zero_or_memory status (inr (inr (inl h))) only = inl (only (λ e. omega (arith, e, h)))
zero_or_memory status (inr (inr (inr (inl h)))) only = inl (only (λ e. omega (arith, e, h)))
zero_or_memory status (inr (inr (inr (inr (inl h))))) only = inl (only (λ e. omega (arith, e, h)))
zero_or_memory status (inr (inr (inr (inr (inr (inl h)))))) only = inl (only (λ e. omega (arith, e, h)))
zero_or_memory status (inr (inr (inr (inr (inr (inr (inl h))))))) only = inl (only (λ e. omega (arith, e, h)))
zero_or_memory status (inr (inr (inr (inr (inr (inr (inr (inl h)))))))) only = inr h
zero_or_memory status (inr (inr (inr (inr (inr (inr (inr (inr h)))))))) only = inl (only (λ e. omega (arith, e, h)))

pub not_8 : (status : ℕ) → status ≡ 0 → status ≢ 8
not_8 status e = λ h. omega (arith, e, h)

pub none_risen : (journal journal' input input' : ℕ) → HasNoFault journal journal' → HasNoFault input input' → (Rose journal journal' × (input' ≡ input)) ⊎ (Rose input input' × (journal' ≡ journal)) → ⊥
none_risen journal journal' input input' h k (inl rose) = not_risen journal journal' h rose.0
none_risen journal journal' input input' h k (inr rose) = not_risen input input' k rose.0
