-- What a mirror's command comes to: its exit status, and what is written of words that are none of `serve`.
use Rattle.std.specs.Prelude.{◌≡◌, ◌⊎◌, ℕ, List, Option, None, Some, codes}
use Rattle.client_words.specs.Asking.{target_of}
use Rattle.sb_outside.specs.Outside.{Rose, appended}
use Rattle.sb_outside.specs.Writing.{HasFront}
use Rattle.sb_words.specs.About.{about_of}
use Rattle.sb_words.specs.CommandLine.{Text}
use Rattle.mirror_words.specs.MirrorLine.{MirrorWords, mirror_of}
use Rattle.mirror_run.specs.Run.{RunsMirror}
use Rattle.mirror_run.specs.SoFar.{MirrorOutside}
use Rattle.mirror_run.specs.declared.plan.MirrorPlan.{MirrorPlan}
use Rattle.mirror_run.specs.declared.stop.MirrorStop.{MirrorStop}
use Rattle.mirror_run.specs.declared.stop.MirrorStop.TheVariants as stop

-- each exit status that a run of a mirror can have
abbrev pub IsMirrorStatus : ℕ → Type 0
IsMirrorStatus status =
    (status ≡ 0) ⊎ (status ≡ 1) ⊎ (status ≡ 3) ⊎ (status ≡ 4) ⊎ (status ≡ 8) ⊎ (status ≡ 9)

-- and of words that ask about the program
abbrev pub IsTellStatus : ℕ → Type 0
IsTellStatus status = (status ≡ 0) ⊎ (status ≡ 3) ⊎ (status ≡ 8)

-- the exit status of a run that is ended before its end, by what ended it
abbrev pub status_of_stop : MirrorStop → ℕ
status_of_stop stop.WriteFault = 3
status_of_stop stop.KeepFault = 4
status_of_stop stop.OutOfMemory = 8
status_of_stop stop.DoorFault = 9

-- the exit status of a run that this ended before its end, if something did
abbrev pub run_status : Option MirrorStop → ℕ
run_status None = 0
run_status (Some why) = status_of_stop why

-- what a mirror is to do by a command line
abbrev pub plan_of_line : MirrorWords → MirrorPlan
plan_of_line line = record {
  updates = record {
    names = line.names;
    rounds = line.numbers.rounds;
    options = line.asking.options;
    target = target_of line.asking;
    need_digest = line.asking.need_digest;
  };
  connections = line.numbers.connections;
  wait = line.numbers.wait;
}

-- A run by a command line ended with this status; or memory was refused before it began, and nothing was done.
abbrev pub IsMirrorServed : MirrorWords → ℕ → (before after : MirrorOutside) → Type 0
IsMirrorServed line status before after =
    ((ended : Option MirrorStop) × (status ≡ run_status ended) × RunsMirror (plan_of_line line) ended before after)
    ⊎ ((status ≡ 8) × (after ≡ before))

-- The words are no command line, and ask nothing about the program.
pub record IsNoMirrorCommand (words : List Text) : Type 0 where
  pub serve : mirror_of words ≡ None
  pub tell : about_of (codes "sbmirror") words ≡ None

-- The usage text was written whole, without a fault, or a front of it that lacks something, and the output's count of
-- faults rose.
abbrev pub TellsUsage : List ℕ → (held held' : Option (List ℕ)) → (faults faults' : ℕ) → Type 0
TellsUsage usage held held' faults faults' =
    ((held' ≡ appended held usage) × (faults' ≡ faults)) ⊎ (Rose faults faults' × HasFront held held' usage)

-- With 0 a text was written whole, and with 3 a front of it that lacks something.
abbrev pub IsToldAbout : List ℕ → (status : ℕ) → (held held' : Option (List ℕ)) → Type 0
IsToldAbout text status held held' =
    ((status ≡ 0) × (held' ≡ appended held text)) ⊎ ((status ≡ 3) × HasFront held held' text)
