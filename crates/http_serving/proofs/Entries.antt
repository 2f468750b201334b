-- What the door's log says of a connection that was served, and of one that went back as it came.
use Rattle.std.proofs.Common.{◌≡◌, ◌≢◌, ℕ, ◌<◌, Bool, true, false, List, [], ◌∷◌, ◌++◌, length, refl, sym, ap, ◌∙◌, subst, Option, Some, None, Result, Ok, Err, append_assoc, arith, inl, inr}
use Rattle.std.specs.Prelude.{◌↔◌, IfSome, IsTrue, slice_set, option_map}
use Rattle.std.specs.List.{concat}
use Rattle.std.proofs.lemmas.List.{append_cancel_right, length-drop}
use Rattle.sb_outside.specs.Outside.{IfTold, Rose, appended, next_piece, later_pieces, left_after_end}
use Rattle.sb_outside.specs.Connections.{HasEnded, IsEntryOf, Returns}
use Rattle.sb_outside.specs.declared.doors.Connection.{Connection}
use Rattle.http_edge.specs.Requests.{Gives}
use Rattle.http_edge.specs.declared.faults.RequestFault.{RequestFault}
use Rattle.http_edge.specs.declared.faults.RequestFault.TheVariants as fault
use Rattle.http_edge.specs.declared.messages.ResponseFields.{ResponseFields}
use Rattle.http_edge.specs.declared.messages.HttpRequest.{HttpRequest}
use Rattle.http_edge.specs.declared.messages.Status.{Status}
use Rattle.http_serving.specs.Hearing.{Hears, IsHeard}
use Rattle.http_serving.specs.Returning.{IsFresh, IsReturned}
use Rattle.http_serving.specs.Serving.{unavailable_text, HasWritten, IsComplete, IsServed, IsConnectionUntouched, IsUnavailable, IsWholeOrFault, Serves}
use Rattle.http_serving.specs.declared.ends.ConnectionEnd.{ConnectionEnd}
use Rattle.http_serving.specs.declared.ends.ConnectionEnd.TheVariants as end

-- ---- what is told

some_of : {A : Type 0} (a b : A) → Some a ≡ Some b → a ≡ b
some_of a b e = cc

-- what is told is the one value that it may be
pub told_is : {A : Type 0} (known : Option A) (a b : A) → known ≡ Some a → IfTold known (Some b) → a ≡ b
told_is None a b is told = absurd (cc)
told_is (Some c) a b is told = cc

-- where something is left after a reading, something was left before it
left_before : (bytes : List ℕ) (ended : Bool) (left left' : Option (List (List ℕ))) (rest : List (List ℕ)) → Gives bytes ended left left' → left' ≡ Some rest → left ≢ None
left_before bytes true left left' rest gives is none = let e : left' ≡ left_after_end left = gives.end in absurd (cc)
left_before bytes false left left' rest gives is none = let e : left_after_end left' ≡ left_after_end left = gives.later in absurd (cc)

told_left : (left : Option (List (List ℕ))) (pieces : List (List ℕ)) → left ≢ None → IfTold left (Some pieces) → left ≡ Some pieces
told_left None pieces some told = absurd (some refl)
told_left (Some other) pieces some told = sym told

-- what was heard, of a wire that tells what it has left
hears_rest : (received : Result HttpRequest RequestFault) (pieces : List (List ℕ)) (left left' : Option (List (List ℕ))) → IfTold left (Some pieces) → Hears received left left'
    → IfSome left' (λ rest. Hears received (Some pieces) (Some rest))
hears_rest received pieces left None told hears = tt
hears_rest received pieces left (Some rest) told hears =
    subst (λ (l : Option (List (List ℕ))). Hears received l (Some rest)) (told_left left pieces (left_before hears.bytes hears.ended left (Some rest) rest hears.gives refl) told) hears

-- ---- what was given

parts : (pieces : List (List ℕ)) → concat pieces ≡ next_piece pieces ++ concat (later_pieces pieces)
parts [] = refl
parts (piece ∷ pieces) = refl

-- the given bytes, and those that are left
given_and_left : (bytes : List ℕ) (ended : Bool) (pieces rest : List (List ℕ)) → Gives bytes ended (Some pieces) (Some rest) → concat pieces ≡ bytes ++ concat rest
given_and_left bytes true pieces rest gives =
    let later : rest ≡ later_pieces pieces = some_of _ _ gives.end in
    parts pieces ∙ ap (λ (l : List ℕ). l ++ concat (later_pieces pieces)) gives.whole ∙ ap (λ (r : List (List ℕ)). bytes ++ concat r) (sym later)
given_and_left bytes false pieces rest gives =
    let front : next_piece pieces ≡ bytes ++ next_piece rest = some_of _ _ gives.front in
    let later : later_pieces rest ≡ later_pieces pieces = some_of _ _ gives.later in
    parts pieces ∙ ap (λ (l : List ℕ). l ++ concat (later_pieces pieces)) front
    ∙ append_assoc bytes (next_piece rest) (concat (later_pieces pieces))
    ∙ ap (λ (r : List (List ℕ)). bytes ++ (next_piece rest ++ concat r)) (sym later)
    ∙ ap (λ (l : List ℕ). bytes ++ l) (sym (parts rest))

same_given : (bytes given : List ℕ) (ended : Bool) (pieces rest : List (List ℕ)) → Gives bytes ended (Some pieces) (Some rest) → concat pieces ≡ given ++ concat rest → bytes ≡ given
same_given bytes given ended pieces rest gives is = append_cancel_right bytes given (concat rest) (sym (given_and_left bytes ended pieces rest gives) ∙ is)

-- an end came that the entry tells
has_ended : (bytes : List ℕ) (ended : Bool) (pieces rest : List (List ℕ)) → 0 < length pieces → Gives bytes ended (Some pieces) (Some rest) → IsTrue ended → HasEnded pieces rest
has_ended bytes true [] rest some gives is = absurd (omega (arith, some))
has_ended bytes true (piece ∷ pieces) rest some gives is = (1, omega arith, omega arith, some_of _ _ gives.end)
has_ended bytes false pieces rest some gives is = absurd (cc)

-- ---- what was written

before_told : (Right : HttpRequest → Status → ResponseFields → (body cause : List ℕ) → Type 0) (received : Result HttpRequest RequestFault) (how : ConnectionEnd) (before : Option (List ℕ)) (text : List ℕ)
    → HasWritten Right received how before (Some text) → before ≢ None
before_told Right received (end.Answered status cause) before text written none = let e = written.written in absurd (cc)
before_told Right received end.WriteFault before text written none = let e = written.written.has in absurd (cc)
before_told Right received end.ReadFault before text written none = let e = written.1 in absurd (cc)
before_told Right received end.OutOfMemory before text written none = let e = written.written in absurd (cc)

told_contents : (before : Option (List ℕ)) (text : List ℕ) → before ≢ None → IfTold before (Some text) → before ≡ Some text
told_contents None text some told = absurd (some refl)
told_contents (Some other) text some told = sym told

-- ---- faults

counted_read : (how : ConnectionEnd) (faults faults' : ℕ) → faults ≡ 0 → (how ≡ end.ReadFault → Rose faults faults') → (how ≢ end.ReadFault → faults' ≡ faults) → (0 < faults') ↔ (how ≡ end.ReadFault)
counted_read (end.Answered status cause) faults faults' none rose kept = (λ some. absurd (let k : faults' ≡ faults = kept (λ e. cc) in omega (arith, none, k, some)), λ e. absurd (cc))
counted_read end.ReadFault faults faults' none rose kept = (λ some. refl, λ e. let r : Rose faults faults' = rose refl in omega (arith, none, r))
counted_read end.WriteFault faults faults' none rose kept = (λ some. absurd (let k : faults' ≡ faults = kept (λ e. cc) in omega (arith, none, k, some)), λ e. absurd (cc))
counted_read end.OutOfMemory faults faults' none rose kept = (λ some. absurd (let k : faults' ≡ faults = kept (λ e. cc) in omega (arith, none, k, some)), λ e. absurd (cc))

none_counted : (received : Result HttpRequest RequestFault) (faults faults' : ℕ) → faults ≡ 0 → received ≢ Err fault.ReadFault
    → (received ≢ Err fault.ReadFault → faults' ≡ faults) → (0 < faults') ↔ (received ≡ Err fault.ReadFault)
none_counted received faults faults' none other kept =
    (λ some. absurd (let k : faults' ≡ faults = kept other in omega (arith, none, k, some)), λ e. absurd (other e))

counted_hearing : (received : Result HttpRequest RequestFault) (faults faults' : ℕ) → faults ≡ 0 → (received ≡ Err fault.ReadFault → Rose faults faults')
    → (received ≢ Err fault.ReadFault → faults' ≡ faults) → (0 < faults') ↔ (received ≡ Err fault.ReadFault)
counted_hearing (Ok request) faults faults' none rose kept = none_counted (Ok request) faults faults' none (λ e. cc) kept
counted_hearing (Err fault.ReadFault) faults faults' none rose kept = (λ some. refl, λ e. let r : Rose faults faults' = rose refl in omega (arith, none, r))
counted_hearing (Err fault.Head) faults faults' none rose kept = none_counted (Err fault.Head) faults faults' none (λ e. cc) kept
counted_hearing (Err fault.HeadLimit) faults faults' none rose kept = none_counted (Err fault.HeadLimit) faults faults' none (λ e. cc) kept
counted_hearing (Err fault.NoLength) faults faults' none rose kept = none_counted (Err fault.NoLength) faults faults' none (λ e. cc) kept
counted_hearing (Err (fault.BodyLimit length)) faults faults' none rose kept = none_counted (Err (fault.BodyLimit length)) faults faults' none (λ e. cc) kept
counted_hearing (Err fault.Cut) faults faults' none rose kept = none_counted (Err fault.Cut) faults faults' none (λ e. cc) kept
counted_hearing (Err fault.OutOfMemory) faults faults' none rose kept = none_counted (Err fault.OutOfMemory) faults faults' none (λ e. cc) kept

counted_write : (how : ConnectionEnd) (faults faults' : ℕ) → faults ≡ 0 → (how ≡ end.WriteFault → Rose faults faults') → (how ≢ end.WriteFault → how ≢ end.OutOfMemory → faults' ≡ faults)
    → how ≢ end.OutOfMemory → (0 < faults') ↔ (how ≡ end.WriteFault)
counted_write (end.Answered status cause) faults faults' none rose kept other = (λ some. absurd (let k : faults' ≡ faults = kept (λ e. cc) other in omega (arith, none, k, some)), λ e. absurd (cc))
counted_write end.ReadFault faults faults' none rose kept other = (λ some. absurd (let k : faults' ≡ faults = kept (λ e. cc) other in omega (arith, none, k, some)), λ e. absurd (cc))
counted_write end.WriteFault faults faults' none rose kept other = (λ some. refl, λ e. let r : Rose faults faults' = rose refl in omega (arith, none, r))
counted_write end.OutOfMemory faults faults' none rose kept other = absurd (other refl)

-- where no fault was counted, the whole text was written
whole_text : (text written : List ℕ) (contents contents' : Option (List ℕ)) (faults faults' : ℕ) → faults ≡ 0 → contents ≡ Some [] → contents' ≡ Some written
    → IsWholeOrFault text contents contents' faults faults' → ¬ (0 < faults') → written ≡ text
whole_text text written contents contents' faults faults' none held is (inl (whole, same)) no_fault =
    some_of written text (sym is ∙ whole ∙ ap (λ (before : Option (List ℕ)). appended before text) held)
whole_text text written contents contents' faults faults' none held is (inr rose) no_fault =
    absurd (no_fault (let r : Rose faults faults' = rose in omega (arith, none, r)))

-- ---- an entry

-- what the entry says of a connection whose pieces and contents before are known
entry_of : (Right : HttpRequest → Status → ResponseFields → (body cause : List ℕ) → Type 0) (how : ConnectionEnd) (entry : Connection) (pieces : List (List ℕ))
    → (start' left' : Option (List (List ℕ))) (contents contents' : Option (List ℕ)) (reads' writes writes' : ℕ)
    → 0 < length pieces → IfTold start' (Some pieces) → IfTold contents (Some []) → writes ≡ 0
    → Serves Right how (Some pieces) left' contents contents' → IsComplete Right pieces how contents contents'
    → (0 < reads') ↔ (how ≡ end.ReadFault)
    → (how ≡ end.WriteFault → Rose writes writes') → (how ≢ end.WriteFault → how ≢ end.OutOfMemory → writes' ≡ writes)
    → (how ≡ end.OutOfMemory → IsWholeOrFault unavailable_text contents contents' writes writes')
    → IsEntryOf entry start' left' contents' reads' writes' → IsServed Right how pieces entry
entry_of Right how entry pieces start' left' contents contents' reads' writes writes' some started nothing no_writes serves complete reads_are write_failed write_kept unavailable is =
    let pieces_are : is.pieces ≡ pieces = told_is start' _ _ is.started started in
    let gives : Gives serves.bytes serves.ended (Some pieces) (Some is.rest) =
    subst (λ (l : Option (List (List ℕ))). Gives serves.bytes serves.ended (Some pieces) l) is.remains serves.gives in
    let given : serves.bytes ≡ entry.given = same_given _ _ _ _ _ gives (ap concat (sym pieces_are) ∙ is.given) in
    let wrote : HasWritten Right serves.received how contents (Some entry.written) =
    subst (λ (l : Option (List ℕ)). HasWritten Right serves.received how contents l) is.written serves.written in
    let held : contents ≡ Some [] = told_contents contents _ (before_told _ _ _ _ _ wrote) nothing in
    let writes_are = counted_write how writes writes' no_writes write_failed write_kept in
    record {
      rest = is.rest;
      serves = record {
        bytes = serves.bytes;
        ended = serves.ended;
        received = serves.received;
        gives = gives;
        outcome = serves.outcome;
        prompt = serves.prompt;
        written = subst (λ (l : Option (List ℕ)). HasWritten Right serves.received how l (Some entry.written)) held wrote;
      };
      given = sym given;
      over = λ over. is.ended.1 (subst (λ (p : List (List ℕ)). HasEnded p is.rest) (sym pieces_are) (has_ended _ _ _ _ some gives over));
      complete = subst (λ (l : Option (List ℕ)). IsComplete Right pieces how l (Some entry.written)) held
          (subst (λ (l : Option (List ℕ)). IsComplete Right pieces how contents l) is.written complete);
      read_fault = (λ t. reads_are.0 (is.read_fault.0 t), λ e. is.read_fault.1 (reads_are.1 e));
      write_fault = λ other. (λ t. (writes_are other).0 (is.write_fault.0 t), λ e. is.write_fault.1 ((writes_are other).1 e));
      unavailable = λ refused no_fault. whole_text unavailable_text entry.written contents contents' writes writes' no_writes held is.written
          (unavailable refused) (λ some. no_fault (is.write_fault.1 some));
    }

-- of one that was served at once
pub entry_served : (Right : HttpRequest → Status → ResponseFields → (body cause : List ℕ) → Type 0) (how : ConnectionEnd) (entry : Connection) (pieces : List (List ℕ))
    → (start start' left left' : Option (List (List ℕ))) (contents contents' : Option (List ℕ)) (reads reads' writes writes' : ℕ)
    → IsFresh pieces start left contents reads writes → (serves : Serves Right how left left' contents contents')
    → IfSome left (λ given. IsComplete Right given how contents contents') → start' ≡ start
    → (how ≡ end.ReadFault → Rose reads reads') → (how ≢ end.ReadFault → reads' ≡ reads)
    → (how ≡ end.WriteFault → Rose writes writes') → (how ≢ end.WriteFault → how ≢ end.OutOfMemory → writes' ≡ writes)
    → (how ≡ end.OutOfMemory → IsWholeOrFault unavailable_text contents contents' writes writes')
    → IsEntryOf entry start' left' contents' reads' writes' → IsServed Right how pieces entry
entry_served Right how entry pieces start start' left left' contents contents' reads reads' writes writes' fresh serves complete same read_failed read_kept write_failed write_kept unavailable is =
    let was_left : left ≡ Some pieces = told_left left _ (left_before _ _ _ _ _ serves.gives is.remains) fresh.remains in
    entry_of Right how entry pieces start' left' contents contents' reads' writes writes' fresh.some
    (subst (λ (s : Option (List (List ℕ))). IfTold s (Some pieces)) (sym same) fresh.started) fresh.nothing fresh.no_writes
    (subst (λ (l : Option (List (List ℕ))). Serves Right how l left' contents contents') was_left serves)
    (subst (λ (l : Option (List (List ℕ))). IfSome l (λ p. IsComplete Right p how contents contents')) was_left complete)
    (counted_read how reads reads' fresh.no_reads read_failed read_kept) write_failed write_kept unavailable is

-- of one that was heard before and answered now
pub entry_answered : (Right : HttpRequest → Status → ResponseFields → (body cause : List ℕ) → Type 0) (received : Result HttpRequest RequestFault) (how : ConnectionEnd) (entry : Connection) (pieces : List (List ℕ))
    → (start start' left left' : Option (List (List ℕ))) (contents contents' : Option (List ℕ)) (reads reads' writes writes' : ℕ)
    → IsHeard received pieces start left contents reads writes
    → ((first : Option (List (List ℕ))) → Hears received first left → Serves Right how first left' contents contents')
    → ((first : Option (List (List ℕ))) → Hears received first left → IfSome first (λ given. IsComplete Right given how contents contents'))
    → start' ≡ start → left' ≡ left → reads' ≡ reads → (how ≡ end.ReadFault) ↔ (received ≡ Err fault.ReadFault)
    → (how ≡ end.WriteFault → Rose writes writes') → (how ≢ end.WriteFault → how ≢ end.OutOfMemory → writes' ≡ writes)
    → (how ≡ end.OutOfMemory → IsWholeOrFault unavailable_text contents contents' writes writes')
    → IsEntryOf entry start' left' contents' reads' writes' → IsServed Right how pieces entry
entry_answered Right received how entry pieces start start' left left' contents contents' reads reads' writes writes' heard serves complete same unread read_kept faults write_failed write_kept unavailable is =
    let was_left : left ≡ Some is.rest = sym unread ∙ is.remains in
    let hears : Hears received (Some pieces) left =
    subst (λ (l : Option (List (List ℕ))). Hears received (Some pieces) l) (sym was_left)
    (subst (λ (l : Option (List (List ℕ))). IfSome l (λ rest. Hears received (Some pieces) (Some rest))) was_left heard.hears) in
    entry_of Right how entry pieces start' left' contents contents' reads' writes writes' heard.some
    (subst (λ (s : Option (List (List ℕ))). IfTold s (Some pieces)) (sym same) heard.started) heard.nothing heard.no_writes
    (serves (Some pieces) hears) (complete (Some pieces) hears) (
      λ some. faults.1 (heard.read_fault.0 (subst (λ (k : ℕ). 0 < k) read_kept some)),
      λ e. subst (λ (k : ℕ). 0 < k) (sym read_kept) (heard.read_fault.1 (faults.0 e)),
    )
    write_failed write_kept unavailable is

-- where memory was refused no answer has to be given
complete_of_refusal : (Right : HttpRequest → Status → ResponseFields → (body cause : List ℕ) → Type 0) (first : Option (List (List ℕ))) (before after : Option (List ℕ))
    → IfSome first (λ given. IsComplete Right given end.OutOfMemory before after)
complete_of_refusal Right None before after = tt
complete_of_refusal Right (Some given) before after = λ status fields body cause good. tt

-- of one that was heard before, and for which memory was refused
pub entry_refused : (Right : HttpRequest → Status → ResponseFields → (body cause : List ℕ) → Type 0) (received : Result HttpRequest RequestFault) (entry : Connection) (pieces : List (List ℕ))
    → (start start' left left' : Option (List (List ℕ))) (contents contents' : Option (List ℕ)) (reads reads' writes writes' : ℕ)
    → received ≢ Err fault.ReadFault → IsHeard received pieces start left contents reads writes → IsUnavailable contents contents'
    → start' ≡ start → left' ≡ left → reads' ≡ reads → IsWholeOrFault unavailable_text contents contents' writes writes'
    → IsEntryOf entry start' left' contents' reads' writes' → IsServed Right end.OutOfMemory pieces entry
entry_refused Right received entry pieces start start' left left' contents contents' reads reads' writes writes' was_read heard unavailable same unread read_kept whole is =
    entry_answered Right received end.OutOfMemory entry pieces start start' left left' contents contents' reads reads' writes writes' heard
    (λ first hears. record {
      bytes = hears.bytes;
      ended = hears.ended;
      received = received;
      gives = subst (Gives hears.bytes hears.ended first) (sym unread) hears.gives;
      outcome = hears.outcome;
      prompt = hears.prompt;
      written = unavailable;
    })
    (λ first hears. complete_of_refusal Right first contents contents')
    same unread read_kept (λ e. absurd (cc), λ e. absurd (was_read e)) (λ e. absurd (cc)) (λ written other. absurd (other refl)) (λ e. whole) is

-- a wire that was heard, by what it was before
pub wire_heard : (received : Result HttpRequest RequestFault) (pieces : List (List ℕ)) (start start' left left' : Option (List (List ℕ))) (contents contents' : Option (List ℕ)) (reads reads' writes writes' : ℕ)
    → IsFresh pieces start left contents reads writes → Hears received left left' → start' ≡ start → contents' ≡ contents
    → (received ≡ Err fault.ReadFault → Rose reads reads') → (received ≢ Err fault.ReadFault → reads' ≡ reads) → writes' ≡ writes
    → IsHeard received pieces start' left' contents' reads' writes'
wire_heard received pieces start start' left left' contents contents' reads reads' writes writes' fresh hears same unwritten failed kept write_kept = record {
  some = fresh.some;
  started = subst (λ (s : Option (List (List ℕ))). IfTold s (Some pieces)) (sym same) fresh.started;
  hears = hears_rest received pieces left left' fresh.remains hears;
  nothing = subst (λ (s : Option (List ℕ)). IfTold s (Some [])) (sym unwritten) fresh.nothing;
  read_fault = counted_hearing received reads reads' fresh.no_reads failed kept;
  no_writes = write_kept ∙ fresh.no_writes;
}

no_end : (pieces rest : List (List ℕ)) → rest ≡ pieces → HasEnded pieces rest → ⊥
no_end pieces rest same (n, some, few, is) = omega (arith, ap length same, ap length is, length-drop n pieces, some, few)

pub entry_untouched : (entry : Connection) (pieces : List (List ℕ)) (start left : Option (List (List ℕ))) (contents : Option (List ℕ)) (reads writes : ℕ)
    → IsFresh pieces start left contents reads writes → IsEntryOf entry start left contents reads writes → IsConnectionUntouched entry
entry_untouched entry pieces start left contents reads writes fresh is =
    let pieces_are : is.pieces ≡ pieces = told_is start _ _ is.started fresh.started in
    let rest_are : is.rest ≡ pieces = told_is left _ _ is.remains fresh.remains in
    let same : [] ++ concat is.rest ≡ entry.given ++ concat is.rest = ap concat (rest_are ∙ sym pieces_are) ∙ is.given in
    record {
      given = sym (append_cancel_right [] entry.given (concat is.rest) same);
      ended = λ ended. no_end is.pieces is.rest (rest_are ∙ sym pieces_are) (is.ended.0 ended);
      written = told_is contents _ _ is.written fresh.nothing;
      read_fault = λ failed. let some : 0 < reads = is.read_fault.0 failed in omega (arith, fresh.no_reads, some);
      write_fault = λ failed. let some : 0 < writes = is.write_fault.0 failed in omega (arith, fresh.no_writes, some);
    }

-- ---- the log

says_so : (Says : Connection → Type 0) (after : Option (List Connection)) (entry : Connection) (start left : Option (List (List ℕ))) (contents : Option (List ℕ)) (reads writes : ℕ)
    → (IsEntryOf entry start left contents reads writes → Says entry) → IfSome after (λ _. IsEntryOf entry start left contents reads writes) → IfSome after (λ _. Says entry)
says_so Says None entry start left contents reads writes f is = tt
says_so Says (Some entries) entry start left contents reads writes f is = f is

pub returned : (Says : Connection → Type 0) (before after : Option (List Connection)) (number number' : ℕ) (start left : Option (List (List ℕ))) (contents : Option (List ℕ)) (reads writes : ℕ)
    → number' ≡ number → Returns before after number' start left contents reads writes
    → ((entry : Connection) → IsEntryOf entry start left contents reads writes → Says entry) → IsReturned Says number before after
returned Says before after number number' start left contents reads writes same returns says = record {
  entry = returns.entry;
  logged = subst (λ (k : ℕ). IfTold after (option_map (λ entries. slice_set entries k returns.entry) before)) same returns.log;
  says = says_so Says after returns.entry start left contents reads writes (says returns.entry) returns.says;
}
