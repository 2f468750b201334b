-- What a proxy's command comes to: its exit status, and what is written of words that are none of `serve`.
use Rattle.std.specs.Prelude.{◌≡◌, ◌⊎◌, ◌*◌, ℕ, List, Option, None, Some, codes}
use Rattle.client_words.specs.Asking.{target_of}
use Rattle.sb_outside.specs.Outside.{Rose, appended}
use Rattle.sb_outside.specs.Writing.{HasFront}
use Rattle.sb_words.specs.About.{about_of}
use Rattle.sb_words.specs.CommandLine.{Text}
use Rattle.proxy_words.specs.ProxyLine.{ProxyWords, proxy_of}
use Rattle.proxy_run.specs.Run.{RunsProxy}
use Rattle.proxy_run.specs.SoFar.{ProxyOutside}
use Rattle.proxy_run.specs.declared.plan.ProxyPlan.{ProxyPlan}
use Rattle.proxy_run.specs.declared.stop.ProxyStop.{ProxyStop}
use Rattle.proxy_run.specs.declared.stop.ProxyStop.TheVariants as stop

-- each exit status that a run of a proxy can have
abbrev pub IsProxyStatus : ℕ → Type 0
IsProxyStatus status =
    (status ≡ 0) ⊎ (status ≡ 1) ⊎ (status ≡ 3) ⊎ (status ≡ 4) ⊎ (status ≡ 8) ⊎ (status ≡ 9)

-- and of words that ask about the program
abbrev pub IsProxyTellStatus : ℕ → Type 0
IsProxyTellStatus status = (status ≡ 0) ⊎ (status ≡ 3) ⊎ (status ≡ 8)

-- the exit status of a run that is ended before its end, by what ended it
abbrev pub status_of_proxy_stop : ProxyStop → ℕ
status_of_proxy_stop stop.WriteFault = 3
status_of_proxy_stop stop.KeepFault = 4
status_of_proxy_stop stop.OutOfMemory = 8
status_of_proxy_stop stop.DoorFault = 9

-- the exit status of a run that this ended before its end, if something did
abbrev pub proxy_run_status : Option ProxyStop → ℕ
proxy_run_status None = 0
proxy_run_status (Some why) = status_of_proxy_stop why

-- What a proxy is to do by a command line. Its words say the patience in seconds.
abbrev pub plan_of_proxy_line : ProxyWords → ProxyPlan
plan_of_proxy_line line = record {
  updates = record {
    names = line.names;
    rounds = line.numbers.rounds;
    options = line.asking.options;
    target = target_of line.asking;
    need_digest = line.asking.need_digest;
  };
  connections = line.numbers.connections;
  patience = line.numbers.patience * 1000;
}

-- A run by a command line ended with this status; or memory was refused before it began, and nothing was done.
abbrev pub IsProxyServed : ProxyWords → ℕ → (before after : ProxyOutside) → Type 0
IsProxyServed line status before after =
    ((ended : Option ProxyStop) × (status ≡ proxy_run_status ended) × RunsProxy (plan_of_proxy_line line) ended before after)
    ⊎ ((status ≡ 8) × (after ≡ before))

-- The words are no command line, and ask nothing about the program.
pub record IsNoProxyCommand (words : List Text) : Type 0 where
  pub serve : proxy_of words ≡ None
  pub tell : about_of (codes "sbproxy") words ≡ None

-- The usage text was written whole, without a fault, or a front of it that lacks something, and the output's count of
-- faults rose.
abbrev pub TellsUsage : List ℕ → (held held' : Option (List ℕ)) → (faults faults' : ℕ) → Type 0
TellsUsage usage held held' faults faults' =
    ((held' ≡ appended held usage) × (faults' ≡ faults)) ⊎ (Rose faults faults' × HasFront held held' usage)

-- With 0 a text was written whole, and with 3 a front of it that lacks something.
abbrev pub IsProxyToldAbout : List ℕ → (status : ℕ) → (held held' : Option (List ℕ)) → Type 0
IsProxyToldAbout text status held held' =
    ((status ≡ 0) × (held' ≡ appended held text)) ⊎ ((status ≡ 3) × HasFront held held' text)
