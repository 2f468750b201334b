-- One more turn, and the end of a run.
use Rattle.std.proofs.Common.{◌≡◌, ◌≢◌, ◌⊎◌, ◌+◌, ◌≤◌, inl, inr, ℕ, suc, Bool, true, false, List, [], ◌∷◌, ◌++◌, length, refl, sym, ap, ◌∙◌, subst, Option, Some, None, append_assoc, arith}
use Rattle.std.specs.Prelude.{IfErr, IfSome, Result, Ok, Err, option_map}
use Rattle.std.proofs.lemmas.List.{append-nil}
use Rattle.sb_outside.specs.Outside.{GivesFront, IfTold, appended, with_entry}
use Rattle.sb_outside.specs.declared.doors.Connection.{Connection}
use Rattle.delta_server.specs.declared.answering.Settings.{Settings}
use Rattle.http_serving.specs.Serving.{IsServed}
use Rattle.sb_service.specs.Connection.{IsResponseTo}
use Rattle.sb_service.specs.Serving.{IsTaken, pieces_of_turns, AreServed, Turn, ServingSeen, HasTurns, HasGrown, HasHeld, HasHeldOn, HasStayed, HeldEnds, BeginsHolding, IsLined, IsJournalRefusal, IsConnectionTold, IsTurn, printed_lines_of, printed_of, with_entries, HasRun, IsServeRun, ServeView, HaveStayed, StopsAtTurn}
use Rattle.sb_service.specs.Stops.{status_of}
use Rattle.sb_service.specs.declared.serve.ServePlan.{ServePlan}
use Rattle.sb_service.specs.declared.stop.Stop.{Stop}
use Rattle.sb_service.specs.declared.stop.Stop.TheVariants as stop
use Rattle.http_serving.specs.declared.ends.ConnectionEnd.{ConnectionEnd}
use Rattle.list_versions.specs.Journal.{Kept}
use Rattle.list_versions.specs.Loaded.{FurtherFault, Gives}
use Rattle.list_versions.specs.declared.fault.JournalFault.{JournalFault}
use Rattle.list_versions.specs.declared.fault.JournalFault.TheVariants as journal
use Rattle.sb_service.proofs.Stops.{one_stop}

-- ---- no turn yet

held_nothing : (held : Option (List ℕ)) → held ≡ appended held []
held_nothing None = refl
held_nothing (Some held) = ap Some (sym (append-nil held))

-- nothing is printed in a quiet run
pub quiet_line : (quiet : Bool) (number : ℕ) (how : ConnectionEnd) (held : Option (List ℕ)) → quiet ≡ true → IsLined quiet number how 0 held held
quiet_line true number how held is = inl (refl, held_nothing held)
quiet_line false number how held is = absurd (cc)

-- what is printed in one that is not
pub loud_line : (quiet : Bool) (number : ℕ) (how : ConnectionEnd) (status : ℕ) (held held' : Option (List ℕ)) → quiet ≡ false → IsLined false number how status held held'
    → IsLined quiet number how status held held'
loud_line true number how status held held' is line = absurd (cc)
loud_line false number how status held held' is line = line

told_itself : (log : Option (List Connection)) → IfTold log log
told_itself None = tt
told_itself (Some log) = refl

served_none : (times : Settings) (log : Option (List Connection)) → IfSome log (λ _. AreServed times [])
served_none times None = tt
served_none times (Some log) = tt

none_came : (coming : Option (List (List (List ℕ)))) → coming ≡ option_map (λ (later : List (List (List ℕ))). [] ++ later) coming
none_came None = refl
none_came (Some coming) = refl

pub no_turn : (plan : ServePlan) (at : ServingSeen) → HasTurns plan [] at at
no_turn plan at = record {
  gains = refl;
  grows = refl;
  printed = held_nothing at.held;
  came = none_came at.coming;
  logged = told_itself at.log;
  served = served_none plan.settings at.log;
}

-- ---- a turn that did not end the run

held_twice : (held between after : Option (List ℕ)) (text line : List ℕ) → between ≡ appended held text → after ≡ appended between line → after ≡ appended held (text ++ line)
held_twice None between after text line e h = cc
held_twice (Some held) between after text line e h =
    let both : after ≡ Some ((held ++ text) ++ line) = h ∙ ap (λ (b : Option (List ℕ)). appended b line) e in
    both ∙ ap Some (append_assoc held text line)

came_twice : (coming between after : Option (List (List (List ℕ)))) (taken : List (List (List ℕ))) (pieces : List (List ℕ))
    → coming ≡ option_map (λ later. taken ++ later) between → IsTaken pieces between after → coming ≡ option_map (λ later. (taken ++ pieces ∷ []) ++ later) after
came_twice coming between None taken pieces e h = e ∙ ap (λ (b : Option (List (List (List ℕ)))). option_map (λ later. taken ++ later) b) h
came_twice coming between (Some after) taken pieces e h =
    let both : coming ≡ Some (taken ++ (pieces ∷ after)) = e ∙ ap (λ (b : Option (List (List (List ℕ)))). option_map (λ later. taken ++ later) b) h in
    both ∙ ap Some (sym (append_assoc taken (pieces ∷ []) after))

told_twice : (log between after : Option (List Connection)) (entry : Connection) → IfTold between log → IfTold after (with_entry between entry) → IfTold after (with_entry log entry)
told_twice log between None entry e h = tt
told_twice log None (Some told) entry e h = absurd (cc)
told_twice log (Some entries) (Some told) entry e h = cc

between_told : (between after : Option (List Connection)) (entry : Connection) (P Q : Type 0) → IfTold after (with_entry between entry) → IfSome between (λ _. P) → IfSome after (λ _. Q) → IfSome after (λ _. Q × P)
between_told between None entry P Q h p q = tt
between_told None (Some told) entry P Q h p q = absurd (cc)
between_told (Some entries) (Some told) entry P Q h p q = (q, p)

not_ended : (quiet : Bool) (number : ℕ) (how : ConnectionEnd) (held held' : Option (List ℕ)) → IsLined quiet number how 0 held held' → held' ≡ appended held (printed_of quiet number how)
not_ended quiet number how held held' (inl is) = is.1
not_ended quiet number how held held' (inr (inl is)) = absurd (omega (arith, is.0))
not_ended quiet number how held held' (inr (inr is)) = absurd (omega (arith, is.2.ends))

-- the turn that grew
abbrev pub turn_of : (plan : ServePlan) (number status : ℕ) (before after : ServingSeen) → HasGrown plan number status before after → Turn
turn_of plan number status before after grown =
    record { gained = grown.gained; kept = after.kept; pieces = grown.pieces; how = grown.told.how; entry = grown.told.logged.entry }

grown_more : (plan : ServePlan) (number : ℕ) (turns : List Turn) (first before after : ServingSeen) → length turns + 1 ≡ number → HasTurns plan turns first before → (grown : HasGrown plan number 0 before after)
    → HasTurns plan (turn_of plan number 0 before after grown ∷ turns) first after
grown_more plan number turns first before after count so_far grown =
    let line = not_ended plan.quiet number grown.told.how before.held after.held grown.told.lined in record {
      gains = (before.left, so_far.gains, grown.gives);
      grows = (before.kept, so_far.grows, grown.grows, refl);
      printed = held_twice first.held before.held after.held (printed_lines_of plan.quiet turns) (printed_of plan.quiet (length turns + 1) grown.told.how) so_far.printed
          (subst (λ (n : ℕ). after.held ≡ appended before.held (printed_of plan.quiet n grown.told.how)) (sym count) line);
      came = came_twice first.coming before.coming after.coming (pieces_of_turns turns) grown.pieces so_far.came grown.taken;
      logged = told_twice (with_entries first.log turns) before.log after.log grown.told.logged.entry so_far.logged grown.told.logged.logged;
      served = between_told before.log after.log grown.told.logged.entry (AreServed plan.settings turns) (IsServed (IsResponseTo after.kept.versions plan.settings) grown.told.how grown.pieces grown.told.logged.entry)
          grown.told.logged.logged so_far.served grown.told.logged.says;
    }

pub one_more : (plan : ServePlan) (number : ℕ) (turns : List Turn) (first before after : ServingSeen) → length turns + 1 ≡ number → HasTurns plan turns first before → HasGrown plan number 0 before after
    → (more : List Turn) × (length more ≡ number) × HasTurns plan more first after
one_more plan number turns first before after count so_far grown =
    (turn_of plan number 0 before after grown ∷ turns, omega (arith, count), grown_more plan number turns first before after count so_far grown)

-- ---- the end of a run

pub all_done : (hold : Bool) (plan : ServePlan) (connections : ℕ) (turns : List Turn) (first last : ServingSeen) → length turns ≡ connections → HasTurns plan turns first last
    → HasRun hold plan connections 0 first last
all_done hold plan connections turns first last count so_far = record {
  turns = turns;
  last = last;
  few = omega (arith, count);
  turned = so_far;
  stops = inl (count, record { ends = refl; left = refl; held = refl; log = refl; coming = refl });
}

pub stopped : (hold : Bool) (plan : ServePlan) (connections number status : ℕ) (turns : List Turn) (first before after : ServingSeen) → length turns + 1 ≡ number → number ≤ connections
    → HasTurns plan turns first before → StopsAtTurn hold plan number status before after → HasRun hold plan connections status first after
stopped hold plan connections number status turns first before after count few so_far stops = record {
  turns = turns;
  last = before;
  few = omega (arith, count, few);
  turned = so_far;
  stops = inr (inl (subst (λ (n : ℕ). StopsAtTurn hold plan n status before after) (sym count) stops));
}

pub held : (hold : Bool) (plan : ServePlan) (connections number status : ℕ) (turns : List Turn) (first before between after : ServingSeen) → length turns + 1 ≡ number → number ≤ connections
    → HasTurns plan turns first before → hold ≡ true → HasHeld plan number 0 before between → HasHeldOn plan connections number status between after → HasRun hold plan connections status first after
held hold plan connections number status turns first before between after count few so_far on turn rest = record {
  turns = turns;
  last = before;
  few = omega (arith, count, few);
  turned = so_far;
  stops = inr (inr (on, subst (λ (n : ℕ). BeginsHolding plan connections n status before after) (sym count) (record { between = between; held = turn; rest = rest })));
}

-- ---- connections once the lists are held

pub one_more_held : (plan : ServePlan) (number before count : ℕ) (first last after : ServingSeen) → number + count ≡ before → HaveStayed plan number count first last → HasStayed plan (before + 1) 0 last after
    → (number + suc count ≡ before + 1) × HaveStayed plan number (suc count) first after
one_more_held plan number before count first last after same so_far more =
    let next : number + suc count ≡ before + 1 = omega (arith, same) in
    (next, (last, so_far, subst (λ (n : ℕ). HasStayed plan n 0 last after) (sym next) more))

pub held_to_the_end : (plan : ServePlan) (connections number count : ℕ) (first last : ServingSeen) → number + count ≡ connections → HaveStayed plan number count first last → HasHeldOn plan connections number 7 first last
held_to_the_end plan connections number count first last all so_far = record {
  count = count;
  few = omega (arith, all);
  last = last;
  stays = so_far;
  ends = inl (all, record { ends = refl; left = refl; held = refl; log = refl; coming = refl });
}

pub held_until : (plan : ServePlan) (connections number before count status : ℕ) (first last after : ServingSeen) → number + count ≡ before → before ≤ connections → HaveStayed plan number count first last
    → HeldEnds plan connections before status last after → HasHeldOn plan connections number status first after
held_until plan connections number before count status first last after same few so_far ends = record {
  count = count;
  few = omega (arith, same, few);
  last = last;
  stays = so_far;
  ends = subst (λ (n : ℕ). HeldEnds plan connections n status last after) (sym same) ends;
}

pub stopped_held : (plan : ServePlan) (connections before number status : ℕ) (last after : ServingSeen) → before + 1 ≡ number → status ≢ 0 → HasStayed plan number status last after → HeldEnds plan connections before status last after
stopped_held plan connections before number status last after is some stayed =
    inr (inr (inr (some, subst (λ (n : ℕ). HasStayed plan n status last after) (sym is) stayed)))

-- ---- a turn that ended the run

pub not_both : (b : Bool) → b ≡ true → b ≡ false → ⊥
not_both b e h = cc

-- what holds of the one that ended it
pub stops_as : {A : Type 0} (P : Stop → Type 0) (result : Result A Stop) (ending : Stop) → IfErr result (λ s. (s ≡ ending) × (ending ≢ stop.Done)) → (ending ≢ stop.Done → P ending) → IfErr result P
stops_as P (Ok a) ending is holds = tt
stops_as P (Err s) ending is holds = subst P (sym is.0) (holds is.1)

pub some_status : (s : Stop) → s ≢ stop.Done → status_of s ≢ 0
some_status s other e = other (one_stop s stop.Done e)

pub grown_on : (plan : ServePlan) (number : ℕ) (served : Stop) (before after : ServingSeen) → HasGrown plan number (status_of served) before after → served ≡ stop.Done → HasGrown plan number 0 before after
grown_on plan number served before after grown is = subst (λ (s : Stop). HasGrown plan number (status_of s) before after) is grown

pub held_turn : (plan : ServePlan) (number : ℕ) (served told : Stop) (fault : JournalFault) (before after : ServingSeen) (between : Option (List ℕ)) (gained : List ℕ) (ended : Bool) (pieces : List (List ℕ))
    → Gives gained ended before.left after.left → FurtherFault before.kept gained fault → IsJournalRefusal fault (status_of told) before.held between → told ≡ stop.BadJournal
    → after.kept ≡ before.kept → IsTaken pieces before.coming after.coming → IsConnectionTold after.kept.versions plan number (status_of served) pieces before.log after.log between after.held
    → HasHeld plan number (status_of served) before after
held_turn plan number served told fault before after between gained ended pieces gives because refusal bad same taken line = record {
  gained = gained;
  ended = ended;
  gives = gives;
  fault = fault;
  because = because;
  between = between;
  refusal = subst (λ (s : Stop). IsJournalRefusal fault (status_of s) before.held between) bad refusal;
  same = same;
  pieces = pieces;
  taken = taken;
  told = subst (λ (k : Kept). IsConnectionTold k.versions plan number (status_of served) pieces before.log after.log between after.held) same line;
}

pub held_on : (plan : ServePlan) (number : ℕ) (served : Stop) (before after : ServingSeen) → HasHeld plan number (status_of served) before after → served ≡ stop.Done → HasHeld plan number 0 before after
held_on plan number served before after turn is = subst (λ (s : Stop). HasHeld plan number (status_of s) before after) is turn

not_done : (s : Stop) → (s ≡ stop.ReadFault) ⊎ (s ≡ stop.WriteFault) ⊎ (s ≡ stop.BadJournal) ⊎ (s ≡ stop.OutOfMemory) → status_of s ≢ 0
not_done s (inl e) h = let is : status_of s ≡ 2 = ap status_of e in omega (arith, is, h)
not_done s (inr (inl e)) h = let is : status_of s ≡ 3 = ap status_of e in omega (arith, is, h)
not_done s (inr (inr (inl e))) h = let is : status_of s ≡ 7 = ap status_of e in omega (arith, is, h)
not_done s (inr (inr (inr e))) h = let is : status_of s ≡ 8 = ap status_of e in omega (arith, is, h)

pub turn_stops : {A : Type 0} (hold : Bool) (plan : ServePlan) (number : ℕ) (before after : ServingSeen) (result : Result A Stop) → IfErr result (λ s. IsTurn hold plan number (status_of s) before after)
    → IfErr result (λ s. (s ≡ stop.ReadFault) ⊎ (s ≡ stop.WriteFault) ⊎ (s ≡ stop.BadJournal) ⊎ (s ≡ stop.OutOfMemory)) → IfErr result (λ s. StopsAtTurn hold plan number (status_of s) before after)
turn_stops hold plan number before after (Ok a) turn ends = tt
turn_stops hold plan number before after (Err s) turn ends = inr (inr (not_done s ends, turn))

-- ---- a run that was refused memory before it read anything

gives_nothing : (left : Option (List (List ℕ))) → GivesFront [] left left
gives_nothing None = record { front = refl; later = refl }
gives_nothing (Some left) = record { front = refl; later = refl }

pub nothing_done : (plan : ServePlan) (view : ServeView) → IsServeRun plan 8 view view
nothing_done plan view = record {
  bytes = [];
  ended = false;
  read = view.left;
  gives = gives_nothing view.left;
  loaded = Err journal.OutOfMemory;
  outcome = tt;
  leads = record { unread = refl; refusal = inl (record { ends = refl; nothing = refl }); untouched = refl; untaken = refl };
}
