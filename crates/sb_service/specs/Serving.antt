-- A run of `serve`: what the journal gave before each connection, how each connection ended and what the door's log says of
-- it, the lines that were printed, and how the run ended.
use Rattle.std.specs.Prelude.{◌≡◌, ◌≢◌, ◌⊎◌, ◌+◌, ◌≤◌, ℕ, zero, suc, Bool, true, false, if◌then◌else◌, List, [], ◌∷◌, ◌++◌, length, take, ⊤, Option, Some, Result, Ok, Err, IfSome, option_map}
use Rattle.std.specs.List.{concat}
use Rattle.sb_outside.specs.Outside.{IfTold, appended, with_entry}
use Rattle.sb_outside.specs.Writing.{HasFront}
use Rattle.sb_outside.specs.Connections.{open_connection}
use Rattle.sb_outside.specs.declared.doors.Connection.{Connection}
use Rattle.sb_model.specs.History.{History}
use Rattle.list_versions.specs.Journal.{Kept, kept_of, read_on}
use Rattle.list_versions.specs.Loaded.{Gives, JournalOutcome, FurtherFault}
use Rattle.list_versions.specs.declared.fault.JournalFault.{JournalFault}
use Rattle.delta_server.specs.declared.answering.Settings.{Settings}
use Rattle.sb_service.specs.declared.serve.ServePlan.{ServePlan}
use Rattle.sb_service.specs.Answer.{AfterJournalFault, IsSilent}
use Rattle.http_serving.specs.Printed.{connection_line}
use Rattle.http_serving.specs.Serving.{IsServed, IsConnectionUntouched}
use Rattle.http_serving.specs.declared.ends.ConnectionEnd.{ConnectionEnd}
use Rattle.http_serving.specs.declared.ends.ConnectionEnd.TheVariants as end
use Rattle.sb_service.specs.Connection.{IsResponseTo}

-- ---- a connection

-- The log has one more entry than before, where it is told, and the entry is such a one.
pub record IsEntryLogged (Says : Connection → Type 0) (log log' : Option (List Connection)) : Type 0 where
  pub entry : Connection
  pub logged : IfTold log' (with_entry log entry)
  pub says : IfSome log' (λ _. Says entry)

-- ---- the connections that ended no run

pub record Turn : Type 0 where
  -- the bytes that the journal gave before it, up to an end
  pub gained : List ℕ
  -- what the journal tells with these
  pub kept : Kept
  -- what the connection had to give: the bytes before each of its ends
  pub pieces : List (List ℕ)
  pub how : ConnectionEnd
  pub entry : Connection

-- The last of several turns stands first, so that each stands before those that came before it.

-- The journal gave its bytes turn by turn, each up to an end.
abbrev pub GainsByTurns : List Turn → (left left' : Option (List (List ℕ))) → Type 0
GainsByTurns [] left left' = left' ≡ left
GainsByTurns (turn ∷ before) left left' =
    (between : Option (List (List ℕ))) × GainsByTurns before left between × Gives turn.gained true between left'

-- The history grew with these bytes.
abbrev pub GrowsByTurns : Kept → List Turn → Kept → Type 0
GrowsByTurns kept [] last = last ≡ kept
GrowsByTurns kept (turn ∷ before) last =
    (between : Kept) × GrowsByTurns kept before between × (read_on between turn.gained ≡ Ok turn.kept) × (last ≡ turn.kept)

-- the bytes that the journal gave in all of them
abbrev pub gained_in : List Turn → List ℕ
gained_in [] = []
gained_in (turn ∷ before) = gained_in before ++ turn.gained

-- Each history is the one of the journal's bytes so far: of those that were loaded, and of those of each turn up to its own.
abbrev pub AreOfJournal : List ℕ → List Turn → Type 0
AreOfJournal loaded [] = ⊤
AreOfJournal loaded (turn ∷ before) =
    (kept_of (loaded ++ gained_in (turn ∷ before)) ≡ Ok turn.kept) × AreOfJournal loaded before

-- what is printed of a connection with a number: its line, or nothing in a quiet run
abbrev pub printed_of : Bool → ℕ → ConnectionEnd → List ℕ
printed_of quiet number how = if quiet then [] else connection_line number how

-- that of each, with its number counted from 1
abbrev pub printed_lines_of : Bool → List Turn → List ℕ
printed_lines_of quiet [] = []
printed_lines_of quiet (turn ∷ before) = printed_lines_of quiet before ++ printed_of quiet (length before + 1) turn.how

-- what each of the connections had to give, in the order in which they came
abbrev pub pieces_of_turns : List Turn → List (List (List ℕ))
pieces_of_turns [] = []
pieces_of_turns (turn ∷ before) = pieces_of_turns before ++ turn.pieces ∷ []

-- the log with an entry for each
abbrev pub with_entries : Option (List Connection) → List Turn → Option (List Connection)
with_entries log [] = log
with_entries log (turn ∷ before) = with_entry (with_entries log before) turn.entry

-- Each was served over the history that it was lent: what was written is right for the bytes that the connection gave, and a
-- whole request that it had to give was answered so, where no read and no write failed and memory was not refused.
abbrev pub AreServed : Settings → List Turn → Type 0
AreServed times [] = ⊤
AreServed times (turn ∷ before) =
    IsServed (IsResponseTo turn.kept.versions times) turn.how turn.pieces turn.entry × AreServed times before

-- What a run is seen by at one moment: what the journal has left, what it tells, what the output holds, the log, and what the
-- connections that have not been taken have to give.
pub record ServingSeen : Type 0 where
  pub left : Option (List (List ℕ))
  pub kept : Kept
  pub held : Option (List ℕ)
  pub log : Option (List Connection)
  pub coming : Option (List (List (List ℕ)))

-- From one moment to another there were these turns.
pub record HasTurns (plan : ServePlan) (turns : List Turn) (before after : ServingSeen) : Type 0 where
  pub gains : GainsByTurns turns before.left after.left
  pub grows : GrowsByTurns before.kept turns after.kept
  pub printed : after.held ≡ appended before.held (printed_lines_of plan.quiet turns)
  pub came : before.coming ≡ option_map (λ later. pieces_of_turns turns ++ later) after.coming
  pub logged : IfTold after.log (with_entries before.log turns)
  pub served : IfSome after.log (λ _. AreServed plan.settings turns)

-- ---- a turn that ended the run, or did not

-- What became of what is printed of a connection: it was written, or a front of it that lacks something with status 3, or nothing
-- with status 8, if memory was refused for it. The line of a connection that ended for want of memory needs none, and a quiet run
-- writes none.
abbrev pub IsLined : Bool → ℕ → ConnectionEnd → ℕ → (held held' : Option (List ℕ)) → Type 0
IsLined quiet number how status held held' =
    ((status ≡ 0) × (held' ≡ appended held (printed_of quiet number how)))
    ⊎ ((status ≡ 3) × HasFront held held' (printed_of quiet number how))
    ⊎ ((quiet ≡ false) × (how ≢ end.OutOfMemory) × IsSilent 8 status held held')

-- A connection that had these pieces to give was served by the plan, and its line printed unless the plan is quiet.
pub record IsConnectionTold (versions : History) (plan : ServePlan) (number status : ℕ) (pieces : List (List ℕ)) (log log' : Option (List Connection))
    (held held' : Option (List ℕ)) : Type 0 where
  pub how : ConnectionEnd
  pub logged : IsEntryLogged (IsServed (IsResponseTo versions plan.settings) how pieces) log log'
  pub lined : IsLined plan.quiet number how status held held'

-- The first of the connections that were to come, which had these pieces to give, was taken.
abbrev pub IsTaken : List (List ℕ) → (coming coming' : Option (List (List (List ℕ)))) → Type 0
IsTaken pieces coming coming' = coming ≡ option_map (λ later. pieces ∷ later) coming'

-- The history grew, and the connection was served over it.
pub record HasGrown (plan : ServePlan) (number status : ℕ) (before after : ServingSeen) : Type 0 where
  pub gained : List ℕ
  pub gives : Gives gained true before.left after.left
  pub grows : read_on before.kept gained ≡ Ok after.kept
  pub pieces : List (List ℕ)
  pub taken : IsTaken pieces before.coming after.coming
  pub told : IsConnectionTold after.kept.versions plan number status pieces before.log after.log before.held after.held

-- what a journal that is refused led to: 8 for want of memory, 2 where it failed, and else its cause was told
abbrev pub IsJournalRefusal : JournalFault → ℕ → (held held' : Option (List ℕ)) → Type 0
IsJournalRefusal fault status held held' = IsSilent 8 status held held' ⊎ AfterJournalFault fault status held held'

-- The history did not grow, and the connection went back as it came. A run that holds is ended so by no bad line of which the
-- cause was told.
pub record HasNotGrown (hold : Bool) (status : ℕ) (before after : ServingSeen) : Type 0 where
  pub gained : List ℕ
  pub ended : Bool
  pub gives : Gives gained ended before.left after.left
  pub fault : JournalFault
  pub because : FurtherFault before.kept gained fault
  pub refusal : IsJournalRefusal fault status before.held after.held
  pub other : hold ≡ true → status ≢ 7
  pub pieces : List (List ℕ)
  pub taken : IsTaken pieces before.coming after.coming
  pub logged : IsEntryLogged IsConnectionUntouched before.log after.log

-- The cause of a bad line was told, and the connection was served over the history as it was.
pub record HasHeld (plan : ServePlan) (number status : ℕ) (before after : ServingSeen) : Type 0 where
  pub gained : List ℕ
  pub ended : Bool
  pub gives : Gives gained ended before.left after.left
  pub fault : JournalFault
  pub because : FurtherFault before.kept gained fault
  -- what the output held then
  pub between : Option (List ℕ)
  pub refusal : IsJournalRefusal fault 7 before.held between
  pub same : after.kept ≡ before.kept
  pub pieces : List (List ℕ)
  pub taken : IsTaken pieces before.coming after.coming
  pub told : IsConnectionTold before.kept.versions plan number status pieces before.log after.log between after.held

-- a turn with a connection that the door gave, which ended the run or, with status 0, did not
abbrev pub IsTurn : Bool → ServePlan → ℕ → ℕ → ServingSeen → ServingSeen → Type 0
IsTurn hold plan number status before after =
    HasGrown plan number status before after
    ⊎ HasNotGrown hold status before after
    ⊎ ((hold ≡ true) × (status ≢ 0) × HasHeld plan number status before after)

-- ---- connections once the lists are held

-- The journal was not looked at, and the connection was served over the history as it was.
pub record HasStayed (plan : ServePlan) (number status : ℕ) (before after : ServingSeen) : Type 0 where
  pub unread : after.left ≡ before.left
  pub same : after.kept ≡ before.kept
  pub pieces : List (List ℕ)
  pub taken : IsTaken pieces before.coming after.coming
  pub told : IsConnectionTold before.kept.versions plan number status pieces before.log after.log before.held after.held

-- So many connections, behind the one with a number, were served so.
abbrev pub HaveStayed : ServePlan → ℕ → ℕ → ServingSeen → ServingSeen → Type 0
HaveStayed plan number zero before after = after ≡ before
HaveStayed plan number (suc count) before after =
    (between : ServingSeen) × HaveStayed plan number count before between × HasStayed plan (number + suc count) 0 between after

-- ---- a run

-- The run ended with a status, and nothing changed after its last turn.
pub record EndsWithStatus (wanted status : ℕ) (before after : ServingSeen) : Type 0 where
  pub ends : status ≡ wanted
  pub left : after.left ≡ before.left
  pub held : after.held ≡ before.held
  pub log : after.log ≡ before.log
  pub coming : after.coming ≡ before.coming

-- How a run ended in place of a further turn: no connection was to come, the door failed, or the turn ended it.
abbrev pub StopsAtTurn : Bool → ServePlan → ℕ → ℕ → ServingSeen → ServingSeen → Type 0
StopsAtTurn hold plan number status before after =
    (EndsWithStatus 0 status before after × IfTold after.coming (Some []))
    ⊎ EndsWithStatus 9 status before after
    ⊎ ((status ≢ 0) × IsTurn hold plan number status before after)

-- How a run ended that held its lists, after the connection with a number: with 7 in place of 0, if these were all or no connection
-- was to come; or the door failed, or a further connection ended it.
abbrev pub HeldEnds : ServePlan → ℕ → ℕ → ℕ → ServingSeen → ServingSeen → Type 0
HeldEnds plan connections number status before after =
    ((number ≡ connections) × EndsWithStatus 7 status before after)
    ⊎ (EndsWithStatus 7 status before after × IfTold after.coming (Some []))
    ⊎ EndsWithStatus 9 status before after
    ⊎ ((status ≢ 0) × HasStayed plan (number + 1) status before after)

-- Behind the connection with a number, some were served over the lists that are held, and then the run ended.
pub record HasHeldOn (plan : ServePlan) (connections number status : ℕ) (before after : ServingSeen) : Type 0 where
  pub count : ℕ
  pub few : number + count ≤ connections
  pub last : ServingSeen
  pub stays : HaveStayed plan number count before last
  pub ends : HeldEnds plan connections (number + count) status last after

-- The connection with a number was the first that was served over lists that are held, and others followed.
pub record BeginsHolding (plan : ServePlan) (connections number status : ℕ) (before after : ServingSeen) : Type 0 where
  pub between : ServingSeen
  pub held : HasHeld plan number 0 before between
  pub rest : HasHeldOn plan connections number status between after

-- The same after so many turns, or these were all, or the next one held the lists.
abbrev pub Stops : Bool → ServePlan → ℕ → ℕ → ℕ → ServingSeen → ServingSeen → Type 0
Stops hold plan connections turns status before after =
    ((turns ≡ connections) × EndsWithStatus 0 status before after)
    ⊎ StopsAtTurn hold plan (turns + 1) status before after
    ⊎ ((hold ≡ true) × BeginsHolding plan connections (turns + 1) status before after)

-- The turns with a journal that was loaded, and the end.
pub record HasRun (hold : Bool) (plan : ServePlan) (connections status : ℕ) (before after : ServingSeen) : Type 0 where
  pub turns : List Turn
  pub last : ServingSeen
  pub few : length turns ≤ connections
  pub turned : HasTurns plan turns before last
  pub stops : Stops hold plan connections (length turns) status last after

-- What is seen of a run beside what its journal tells: what the journal has left, what the output holds, what the door's log says, and
-- what is to come at the door.
pub record ServeView : Type 0 where
  pub left : Option (List (List ℕ))
  pub output : Option (List ℕ)
  pub log : Option (List Connection)
  pub coming : Option (List (List (List ℕ)))

abbrev pub serve_view : Option (List (List ℕ)) → Option (List ℕ) → Option (List Connection) → Option (List (List (List ℕ))) → ServeView
serve_view left output log coming = record { left = left; output = output; log = log; coming = coming }

-- the same with what the journal tells
abbrev pub serving_with : Kept → ServeView → ServingSeen
serving_with kept view = record { left = view.left; kept = kept; held = view.output; log = view.log; coming = view.coming }

-- A journal that was not loaded ends the run before any connection.
pub record EndsBeforeServing (fault : JournalFault) (status : ℕ) (before after : ServeView) : Type 0 where
  pub unread : after.left ≡ before.left
  pub refusal : IsJournalRefusal fault status before.output after.output
  pub untouched : after.log ≡ before.log
  pub untaken : after.coming ≡ before.coming

-- One that was loaded grew from turn to turn, and each history that was lent is the one of its bytes so far.
pub record HasServedTurns (plan : ServePlan) (status : ℕ) (bytes : List ℕ) (kept : Kept) (before after : ServeView) : Type 0 where
  pub last : Kept
  pub run : HasRun plan.hold plan plan.connections status (serving_with kept before) (serving_with last after)
  pub journal : AreOfJournal bytes run.turns

-- what the journal led to
abbrev pub AfterLoad : ServePlan → List ℕ → Result Kept JournalFault → ℕ → (before after : ServeView) → Type 0
AfterLoad plan bytes (Ok kept) status before after = HasServedTurns plan status bytes kept before after
AfterLoad plan bytes (Err fault) status before after = EndsBeforeServing fault status before after

-- A run of `serve`, by this plan: the journal gave these bytes, with its end or without, and what they come to decided what became
-- of the rest.
pub record IsServeRun (plan : ServePlan) (status : ℕ) (before after : ServeView) : Type 0 where
  pub bytes : List ℕ
  pub ended : Bool
  pub read : Option (List (List ℕ))
  pub gives : Gives bytes ended before.left read
  pub loaded : Result Kept JournalFault
  pub outcome : JournalOutcome bytes ended loaded
  pub leads : AfterLoad plan bytes loaded status (record before { left = read }) after

-- A journal that is told has no bad line up to any of its ends.
abbrev pub HasNoBadLine : List (List ℕ) → Type 0
HasNoBadLine pieces = (ends : ℕ) → (kept : Kept) × (kept_of (concat (take (suc ends) pieces)) ≡ Ok kept)

-- ---- a wire that the door handed out

-- The log before it was handed out, and since.
pub record IsOpened (log opened : Option (List Connection)) (number : ℕ) : Type 0 where
  pub numbered : IfSome log (λ entries. number ≡ length entries)
  pub opens : IfTold opened (with_entry log open_connection)
