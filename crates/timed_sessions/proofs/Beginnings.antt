-- When a session begins.
use Rattle.std.proofs.Common.{◌≡◌, true, false, refl, arith}
use Rattle.sb_model.specs.declared.time.Moment.{Moment}
use Rattle.wait_rules.specs.Waits.{may_send_at}
use Rattle.wait_rules.specs.declared.waits.WaitState.{WaitState}
use Rattle.client_line.specs.Lines.{LineView, WaitsUntil}
use Rattle.timed_sessions.specs.Timed.{HasBegun}
use Rattle.timed_sessions.proofs.Traces.{told_nothing}

-- a session that begins at once
pub begun_at_once : (waits : WaitState) (read : Moment) (before : LineView)
    → may_send_at waits read ≡ true → before.last ≡ read.0 → HasBegun waits read before before read
begun_at_once waits read before may last = record {
  is = record { at_once = rw may refl; allowed = grind (arith, may) };
  readings = rw may (told_nothing before.told.readings);
  bade = rw may (told_nothing before.told.waits);
  last = last;
  others = record { log = refl; drawn = refl; faults = refl; same = refl };
}

-- a session that begins after a wait
pub begun_later : (waits : WaitState) (read begun : Moment) (before after : LineView)
    → may_send_at waits read ≡ false → before.last ≡ read.0 → WaitsUntil waits.allowed_at begun before after → HasBegun waits read before after begun
begun_later waits read begun before after may last waited = record {
  is = record { at_once = rw may (grind (arith, last, waited.rises)); allowed = waited.reached };
  readings = rw may waited.read;
  bade = rw may waited.waited;
  last = waited.last;
  others = waited.others;
}
