-- A client's line as contracts see it, and what each call on it does.
use Rattle.std.specs.Prelude.{◌≡◌, ℕ, ◌≤◌, List}
use Rattle.sb_model.specs.declared.time.Moment.{Moment}
use Rattle.sb_outside.specs.Outside.{IfTold, with_entry}
use Rattle.client_line.specs.Told.{Outside, with_more}

-- which link, which clock and which dice a line has
pub record Objects : Type 0 where
  pub link : ℕ
  pub clock : ℕ
  pub dice : ℕ

-- A line: what its objects tell, its clock's last reading in milliseconds, which is 0 before the first, and which objects these are.
pub record LineView : Type 0 where
  pub told : Outside
  pub last : ℕ
  pub objects : Objects

-- The link and the dice are as they were, and the objects are the same.
pub record KeepsLink (before after : LineView) : Type 0 where
  pub log : after.told.log ≡ before.told.log
  pub drawn : after.told.drawn ≡ before.told.drawn
  pub faults : after.told.faults ≡ before.told.faults
  pub same : after.objects ≡ before.objects

-- The clock and the dice are as they were, and the objects are the same.
pub record KeepsClock (before after : LineView) : Type 0 where
  pub readings : after.told.readings ≡ before.told.readings
  pub waits : after.told.waits ≡ before.told.waits
  pub drawn : after.told.drawn ≡ before.told.drawn
  pub last : after.last ≡ before.last
  pub same : after.objects ≡ before.objects

-- The clock was read, and bidden to wait for nothing.
pub record ReadsClock (reading : Moment) (before after : LineView) : Type 0 where
  pub read : IfTold after.told.readings (with_entry before.told.readings reading)
  pub waits : after.told.waits ≡ before.told.waits
  pub rises : before.last ≤ reading.0
  pub last : after.last ≡ reading.0
  pub others : KeepsLink before after

-- The clock was bidden to wait until this moment, and its reading then is no earlier.
pub record WaitsUntil (moment reading : Moment) (before after : LineView) : Type 0 where
  pub read : IfTold after.told.readings (with_entry before.told.readings reading)
  pub waited : IfTold after.told.waits (with_entry before.told.waits moment)
  pub reached : moment.0 ≤ reading.0
  pub rises : before.last ≤ reading.0
  pub last : after.last ≡ reading.0
  pub others : KeepsLink before after

-- These words were drawn, and the link and the clock are as they were.
pub record Draws (words : List ℕ) (before after : LineView) : Type 0 where
  pub drawn : IfTold after.told.drawn (with_more before.told.drawn words)
  pub log : after.told.log ≡ before.told.log
  pub readings : after.told.readings ≡ before.told.readings
  pub waits : after.told.waits ≡ before.told.waits
  pub faults : after.told.faults ≡ before.told.faults
  pub last : after.last ≡ before.last
  pub same : after.objects ≡ before.objects

-- A session that was begun at this moment was closed at the clock's next reading. The clock was bidden to wait for nothing, and no
-- word was drawn.
pub record ClosesAt (at closed : Moment) (before after : LineView) : Type 0 where
  pub read : IfTold after.told.readings (with_entry before.told.readings closed)
  pub waits : after.told.waits ≡ before.told.waits
  pub drawn : after.told.drawn ≡ before.told.drawn
  pub rises : at.0 ≤ closed.0
  pub last : after.last ≡ closed.0
