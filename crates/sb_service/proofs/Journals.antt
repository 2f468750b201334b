-- What the turns of a run come to, where the journal is told: each history is that of the journal's bytes so far.
use Rattle.std.proofs.Common.{◌≡◌, ◌≢◌, ◌⊎◌, ◌+◌, inl, inr, ℕ, suc, zero, Bool, true, List, [], ◌∷◌, ◌++◌, length, take, drop, refl, sym, ap, ◌∙◌, subst, Option, Some, None, append_assoc, arith}
use Rattle.std.specs.Prelude.{Result, Ok, Err}
use Rattle.std.specs.List.{concat}
use Rattle.std.proofs.lemmas.List.{append-nil}
use Rattle.sb_outside.specs.Outside.{next_piece, later_pieces}
use Rattle.list_versions.specs.Journal.{Kept, kept_of, read_on}
use Rattle.list_versions.specs.Loaded.{Gives, IsBadRest, FurtherFault, JournalOutcome}
use Rattle.list_versions.specs.declared.fault.JournalFault.{JournalFault}
use Rattle.list_versions.specs.declared.fault.JournalFault.TheVariants as journal
use Rattle.sb_service.specs.Answer.{AfterJournalFault, IsSilent}
use Rattle.sb_service.specs.declared.serve.ServePlan.{ServePlan}
use Rattle.sb_service.specs.Serving.{Turn, GainsByTurns, GrowsByTurns, gained_in, AreOfJournal, HasHeld, HasNoBadLine, HasNotGrown, HasRun, IsLined, IsJournalRefusal, IsServeRun, IsTurn, ServingSeen, ServeView, Stops, HasServedTurns, AfterLoad, serving_with}
use Rattle.http_serving.specs.declared.ends.ConnectionEnd.{ConnectionEnd}
use Rattle.sb_service.proofs.Loads.{told_front, IsLoadedAs, loaded_as}

-- however a journal is cut after its first line, it comes to the same
abbrev pub CutsLaw : Type 0
CutsLaw = (front rest : List ℕ) (kept : Kept) → kept_of front ≡ Ok kept → read_on kept rest ≡ kept_of (front ++ rest)

-- ---- pieces

one_further : (n : ℕ) (pieces : List (List ℕ)) → concat (take (suc n) pieces) ≡ concat (take n pieces) ++ next_piece (drop n pieces)
one_further zero [] = refl
one_further zero (piece ∷ pieces) = append-nil piece
one_further (suc n) [] = refl
one_further (suc n) (piece ∷ pieces) = ap (λ (l : List ℕ). piece ++ l) (one_further n pieces) ∙ sym (append_assoc piece (concat (take n pieces)) (next_piece (drop n pieces)))

one_fewer : (n : ℕ) (pieces : List (List ℕ)) → later_pieces (drop n pieces) ≡ drop (suc n) pieces
one_fewer zero [] = refl
one_fewer zero (piece ∷ pieces) = refl
one_fewer (suc n) [] = refl
one_fewer (suc n) (piece ∷ pieces) = one_fewer n pieces

some_left : (left : Option (List (List ℕ))) (pieces : List (List ℕ)) (bytes : List ℕ) (after : Option (List (List ℕ))) → left ≡ Some pieces → Gives bytes true left after
    → (next_piece pieces ≡ bytes) × (after ≡ Some (later_pieces pieces))
some_left None pieces bytes after is gives = absurd (cc)
some_left (Some other) pieces bytes after is gives =
    let same : other ≡ pieces = cc in
    (ap next_piece (sym same) ∙ gives.whole, gives.end ∙ ap (λ (p : List (List ℕ)). Some (later_pieces p)) same)

-- ---- the history after some turns

pub record IsAfter (pieces : List (List ℕ)) (turns : ℕ) (left : Option (List (List ℕ))) (last : Kept) : Type 0 where
  pub remains : left ≡ Some (drop (suc turns) pieces)
  pub tells : kept_of (concat (take (suc turns) pieces)) ≡ Ok last

pub begins : (pieces : List (List ℕ)) (left : Option (List (List ℕ))) (kept : Kept) → left ≡ Some (later_pieces pieces) → kept_of (next_piece pieces) ≡ Ok kept → IsAfter pieces 0 left kept
begins pieces left kept is told = record {
  remains = is ∙ ap Some (one_fewer 0 pieces);
  tells = ap kept_of (one_further 0 pieces) ∙ told;
}

pub after_turns : CutsLaw → (pieces : List (List ℕ)) (turns : List Turn) (read left : Option (List (List ℕ))) (kept last : Kept) → IsAfter pieces 0 read kept → GainsByTurns turns read left → GrowsByTurns kept turns last
    → IsAfter pieces (length turns) left last
after_turns law pieces [] read left kept last first gains grows = record {
  remains = gains ∙ first.remains;
  tells = first.tells ∙ ap Ok (sym grows);
}
after_turns law pieces (turn ∷ before) read left kept last first gains grows =
    let so_far = after_turns law pieces before read gains.0 kept grows.0 first gains.1 grows.1 in
    let n = suc (length before) in
    let step = some_left gains.0 (drop n pieces) turn.gained left so_far.remains gains.2 in
    record {
      remains = step.1 ∙ ap Some (one_fewer n pieces);
      tells = ap kept_of (one_further n pieces) ∙ sym (law (concat (take n pieces)) (next_piece (drop n pieces)) grows.0 so_far.tells)
          ∙ ap (read_on grows.0) step.0 ∙ grows.2 ∙ ap Ok (sym grows.3);
    }

-- ---- a journal without a bad line

front_of_told : (left : Option (List (List ℕ))) (pieces : List (List ℕ)) (bytes : List ℕ) (ended : Bool) (after : Option (List (List ℕ))) → left ≡ Some pieces → Gives bytes ended left after
    → (more : List ℕ) × (next_piece pieces ≡ bytes ++ more)
front_of_told left pieces bytes ended after is gives = told_front bytes ended pieces after (subst (λ (l : Option (List (List ℕ))). Gives bytes ended l after) is gives)

no_bad_rest : (kept further : Kept) (bytes more piece : List ℕ) (fault : JournalFault) → IsBadRest kept bytes fault → piece ≡ bytes ++ more → read_on kept piece ≡ Ok further → ⊥
no_bad_rest kept further bytes more piece fault bad is told = let e : read_on kept piece ≡ Err fault = ap (read_on kept) is ∙ bad more in cc

-- a fault is then one of reading, or want of memory
pub harmless : (kept further : Kept) (bytes more piece : List ℕ) (fault : JournalFault) → FurtherFault kept bytes fault → piece ≡ bytes ++ more → read_on kept piece ≡ Ok further
    → (fault ≡ journal.ReadFault) ⊎ (fault ≡ journal.OutOfMemory)
harmless kept further bytes more piece journal.ReadFault because is told = inl refl
harmless kept further bytes more piece journal.OutOfMemory because is told = inr refl
harmless kept further bytes more piece journal.Header because is told = absurd because
harmless kept further bytes more piece (journal.Line n) because is told = absurd (no_bad_rest kept further bytes more piece (journal.Line n) because is told)
harmless kept further bytes more piece (journal.UnknownList n) because is told = absurd (no_bad_rest kept further bytes more piece (journal.UnknownList n) because is told)
harmless kept further bytes more piece (journal.ListTwice n) because is told = absurd (no_bad_rest kept further bytes more piece (journal.ListTwice n) because is told)
harmless kept further bytes more piece (journal.TooMany n) because is told = absurd (no_bad_rest kept further bytes more piece (journal.TooMany n) because is told)
harmless kept further bytes more piece (journal.TooLarge n) because is told = absurd (no_bad_rest kept further bytes more piece (journal.TooLarge n) because is told)

-- ---- each history is that of the journal's bytes so far

journal_so_far : CutsLaw → (bytes : List ℕ) (kept : Kept) (turns : List Turn) (last : Kept) → kept_of bytes ≡ Ok kept → GrowsByTurns kept turns last
    → AreOfJournal bytes turns × (kept_of (bytes ++ gained_in turns) ≡ Ok last)
journal_so_far law bytes kept [] last told grows = (tt, ap kept_of (append-nil bytes) ∙ told ∙ ap Ok (sym grows))
journal_so_far law bytes kept (turn ∷ before) last told grows =
    let so_far = journal_so_far law bytes kept before grows.0 told grows.1 in
    let tells : kept_of (bytes ++ (gained_in before ++ turn.gained)) ≡ Ok turn.kept =
    ap kept_of (sym (append_assoc bytes (gained_in before) turn.gained))
    ∙ sym (law (bytes ++ gained_in before) turn.gained grows.0 so_far.1) ∙ grows.2 in
    ((tells, so_far.0), tells ∙ ap Ok (sym grows.3))

pub of_journal : CutsLaw → (bytes : List ℕ) (kept : Kept) (turns : List Turn) (last : Kept) → kept_of bytes ≡ Ok kept → GrowsByTurns kept turns last → AreOfJournal bytes turns
of_journal law bytes kept turns last told grows = (journal_so_far law bytes kept turns last told grows).0

-- ---- a run over a journal without a bad line

-- what a status is not
pub record IsOther (status : ℕ) : Type 0 where
  pub no_memory : status ≢ 8
  pub no_read : status ≢ 2
  pub no_write : status ≢ 3
  pub no_door : status ≢ 9

faultless : (fault : JournalFault) (status : ℕ) (held held' : Option (List ℕ)) → IsOther status → (fault ≡ journal.ReadFault) ⊎ (fault ≡ journal.OutOfMemory) → IsJournalRefusal fault status held held' → ⊥
faultless fault status held held' other why (inl silent) = other.no_memory silent.ends
faultless fault status held held' other (inl is) (inr after) =
    let read : IsSilent 2 status held held' = subst (λ (f : JournalFault). AfterJournalFault f status held held') is after in
    other.no_read read.ends
faultless fault status held held' other (inr is) (inr after) = subst (λ (f : JournalFault). AfterJournalFault f status held held') is after

read_further : CutsLaw → (pieces : List (List ℕ)) (n : ℕ) (last : Kept) → HasNoBadLine pieces → kept_of (concat (take (suc n) pieces)) ≡ Ok last
    → (further : Kept) × (read_on last (next_piece (drop (suc n) pieces)) ≡ Ok further)
read_further law pieces n last none tells =
    let further = none (suc n) in (
      further.0,
      law (concat (take (suc n) pieces)) (next_piece (drop (suc n) pieces)) last tells ∙ ap kept_of (sym (one_further (suc n) pieces)) ∙ further.1,
    )

not_refused : CutsLaw → (pieces : List (List ℕ)) (hold : Bool) (n status : ℕ) (before after : ServingSeen) → HasNoBadLine pieces → IsAfter pieces n before.left before.kept → IsOther status
    → HasNotGrown hold status before after → ⊥
not_refused law pieces hold n status before after none at other stop =
    let front = front_of_told before.left (drop (suc n) pieces) stop.gained stop.ended after.left at.remains stop.gives in
    let further = read_further law pieces n before.kept none at.tells in
    faultless stop.fault status before.held after.held other
    (harmless before.kept further.0 stop.gained front.0 (next_piece (drop (suc n) pieces)) stop.fault stop.because front.1 further.1) stop.refusal

no_cause : (fault : JournalFault) (held held' : Option (List ℕ)) → (fault ≡ journal.ReadFault) ⊎ (fault ≡ journal.OutOfMemory) → IsJournalRefusal fault 7 held held' → ⊥
no_cause fault held held' is (inl silent) = let ends = silent.ends in omega (arith, ends)
no_cause fault held held' (inl is) (inr after) =
    let silent : IsSilent 2 7 held held' = subst (λ (f : JournalFault). AfterJournalFault f 7 held held') is after in
    let ends = silent.ends in omega (arith, ends)
no_cause fault held held' (inr is) (inr after) = subst (λ (f : JournalFault). AfterJournalFault f 7 held held') is after

not_held : CutsLaw → (pieces : List (List ℕ)) (n : ℕ) (plan : ServePlan) (number status : ℕ) (before after : ServingSeen) → HasNoBadLine pieces → IsAfter pieces n before.left before.kept
    → HasHeld plan number status before after → ⊥
not_held law pieces n plan number status before after none at held =
    let front = front_of_told before.left (drop (suc n) pieces) held.gained held.ended after.left at.remains held.gives in
    let further = read_further law pieces n before.kept none at.tells in
    no_cause held.fault before.held held.between
    (harmless before.kept further.0 held.gained front.0 (next_piece (drop (suc n) pieces)) held.fault held.because front.1 further.1) held.refusal

not_lined : (quiet : Bool) (number : ℕ) (how : ConnectionEnd) (status : ℕ) (held held' : Option (List ℕ)) → IsOther status → status ≢ 0 → IsLined quiet number how status held held' → ⊥
not_lined quiet number how status held held' other some (inl line) = some line.0
not_lined quiet number how status held held' other some (inr (inl cut)) = other.no_write cut.0
not_lined quiet number how status held held' other some (inr (inr silent)) = other.no_memory silent.2.ends

no_last_turn : CutsLaw → (pieces : List (List ℕ)) (hold : Bool) (n : ℕ) (plan : ServePlan) (number status : ℕ) (before after : ServingSeen) → HasNoBadLine pieces → IsAfter pieces n before.left before.kept → IsOther status → status ≢ 0
    → IsTurn hold plan number status before after → ⊥
no_last_turn law pieces hold n plan number status before after none at other some (inl grown) =
    not_lined plan.quiet number grown.told.how status before.held after.held other some grown.told.lined
no_last_turn law pieces hold n plan number status before after none at other some (inr (inl stop)) = not_refused law pieces hold n status before after none at other stop
no_last_turn law pieces hold n plan number status before after none at other some (inr (inr held)) = not_held law pieces n plan number status before after none at held.2

ends_with_0 : CutsLaw → (pieces : List (List ℕ)) (hold : Bool) (n : ℕ) (plan : ServePlan) (connections status : ℕ) (before after : ServingSeen) → HasNoBadLine pieces → IsAfter pieces n before.left before.kept
    → IsOther status → Stops hold plan connections n status before after → status ≡ 0
ends_with_0 law pieces hold n plan connections status before after none at other (inl done) = done.1.ends
ends_with_0 law pieces hold n plan connections status before after none at other (inr (inl (inl no_more))) = no_more.0.ends
ends_with_0 law pieces hold n plan connections status before after none at other (inr (inl (inr (inl failed)))) = absurd (other.no_door failed.ends)
ends_with_0 law pieces hold n plan connections status before after none at other (inr (inl (inr (inr turn)))) =
    absurd (no_last_turn law pieces hold n plan (n + 1) status before after none at other turn.0 turn.1)
ends_with_0 law pieces hold n plan connections status before after none at other (inr (inr holds)) =
    let rest = holds.1 in
    absurd (not_held law pieces n plan (n + 1) 0 before rest.between none at rest.held)

run_ends : CutsLaw → (pieces : List (List ℕ)) (hold : Bool) (plan : ServePlan) (connections status : ℕ) (first after : ServingSeen) → HasNoBadLine pieces → IsAfter pieces 0 first.left first.kept
    → IsOther status → HasRun hold plan connections status first after → status ≡ 0
run_ends law pieces hold plan connections status first after none at other run =
    ends_with_0 law pieces hold (length run.turns) plan connections status run.last after none
    (after_turns law pieces run.turns first.left run.last.left first.kept run.last.kept at run.turned.gains run.turned.grows) other run.stops

begun_ends : CutsLaw → (pieces : List (List ℕ)) (plan : ServePlan) (status : ℕ) (bytes : List ℕ) (kept : Kept) (before after : ServeView) → HasNoBadLine pieces → IsAfter pieces 0 before.left kept
    → IsOther status → HasServedTurns plan status bytes kept before after → status ≡ 0
begun_ends law pieces plan status bytes kept before after none at other begun =
    run_ends law pieces plan.hold plan plan.connections status (serving_with kept before) (serving_with begun.last after) none at other begun.run

load_ends : CutsLaw → (pieces : List (List ℕ)) (plan : ServePlan) (status : ℕ) (bytes : List ℕ) (ended : Bool) (before after : ServeView) (kept : Kept) → HasNoBadLine pieces
    → kept_of (next_piece pieces) ≡ Ok kept → IsOther status → Gives bytes ended (Some pieces) before.left
    → (loaded : Result Kept JournalFault) → JournalOutcome bytes ended loaded → IsLoadedAs kept loaded → AfterLoad plan bytes loaded status before after → status ≡ 0
load_ends law pieces plan status bytes ended before after kept none told other gives (Ok found) outcome (inl is) begun =
    let whole : Gives bytes true (Some pieces) before.left = subst (λ (e : Bool). Gives bytes e (Some pieces) before.left) outcome.0 gives in
    let rest = some_left (Some pieces) pieces bytes before.left refl whole in
    let first : kept_of (next_piece pieces) ≡ Ok found = told ∙ sym is in
    begun_ends law pieces plan status bytes found before after none (begins pieces before.left found rest.1 first) other begun
load_ends law pieces plan status bytes ended before after kept none told other gives (Ok found) outcome (inr (inl is)) begun = absurd (cc)
load_ends law pieces plan status bytes ended before after kept none told other gives (Ok found) outcome (inr (inr is)) begun = absurd (cc)
load_ends law pieces plan status bytes ended before after kept none told other gives (Err fault) outcome (inl is) not = absurd (cc)
load_ends law pieces plan status bytes ended before after kept none told other gives (Err fault) outcome (inr (inl is)) not =
    absurd (faultless fault status before.output after.output other (inl (cc)) not.refusal)
load_ends law pieces plan status bytes ended before after kept none told other gives (Err fault) outcome (inr (inr is)) not =
    absurd (faultless fault status before.output after.output other (inr (cc)) not.refusal)

pub served_to_the_end : CutsLaw → (plan : ServePlan) (status : ℕ) (pieces : List (List ℕ)) (before after : ServeView) → before.left ≡ Some pieces → HasNoBadLine pieces
    → IsServeRun plan status before after → IsOther status → status ≡ 0
served_to_the_end law plan status pieces before after told none run other =
    let first = none 0 in
    let begins : kept_of (next_piece pieces) ≡ Ok first.0 = ap kept_of (sym (one_further 0 pieces)) ∙ first.1 in
    let gives : Gives run.bytes run.ended (Some pieces) run.read = subst (λ (l : Option (List (List ℕ))). Gives run.bytes run.ended l run.read) told run.gives in
    load_ends law pieces plan status run.bytes run.ended (record before { left = run.read }) after first.0 none begins other gives run.loaded run.outcome
    (loaded_as run.bytes run.ended pieces run.read first.0 run.loaded gives begins run.outcome) run.leads
