-- What the objects outside a client tell, and by how much more they tell later.
use Rattle.std.specs.Prelude.{ℕ, List, [], ◌++◌, Option}
use Rattle.std.specs.Option.{option_map}
use Rattle.sb_model.specs.declared.time.Moment.{Moment}
use Rattle.sb_outside.specs.Outside.{IfTold}
use Rattle.sb_outside.specs.declared.links.Session.{Session}

-- a list with these more, where it is told
abbrev pub with_more : {A : Type 0} → Option (List A) → List A → Option (List A)
with_more known more = option_map (λ items. items ++ more) known

-- what is told outside: the link's sessions, the clock's readings and the moments that it was bidden to wait until, the words that
-- were drawn of the dice, and how many faults the link had
pub record Outside : Type 0 where
  pub log : Option (List Session)
  pub readings : Option (List Moment)
  pub waits : Option (List Moment)
  pub drawn : Option (List ℕ)
  pub faults : ℕ

abbrev pub outside : Option (List Session) → Option (List Moment) → Option (List Moment) → Option (List ℕ) → ℕ → Outside
outside log readings waits drawn faults = record { log = log; readings = readings; waits = waits; drawn = drawn; faults = faults }

-- What is told more after something was done: sessions, readings of the clock, moments that it was bidden to wait until, and words
-- that were drawn.
pub record Trace : Type 0 where
  pub sessions : List Session
  pub readings : List Moment
  pub waits : List Moment
  pub drawn : List ℕ

abbrev pub no_trace : Trace
no_trace = record { sessions = []; readings = []; waits = []; drawn = [] }

-- one thing done after another
abbrev pub then_trace : Trace → Trace → Trace
then_trace first next = record {
  sessions = first.sessions ++ next.sessions;
  readings = first.readings ++ next.readings;
  waits = first.waits ++ next.waits;
  drawn = first.drawn ++ next.drawn;
}

-- What is told grew by this. It says nothing of faults.
pub record Grows (before after : Outside) (more : Trace) : Type 0 where
  pub log : IfTold after.log (with_more before.log more.sessions)
  pub readings : IfTold after.readings (with_more before.readings more.readings)
  pub waits : IfTold after.waits (with_more before.waits more.waits)
  pub drawn : IfTold after.drawn (with_more before.drawn more.drawn)
