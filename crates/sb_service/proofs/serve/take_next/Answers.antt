use Rattle.sb_service.proofs.Turns.{turn_stops}
use Rattle.sb_service.proofs.serve.take_next.Goals as goal

pub returns-in-Ok-Some-clause-holding : goal.returns-in-Ok-Some-clause-holding
returns-in-Ok-Some-clause-holding g c =
    let is_wire = c.in-Ok-Some.field-0-is in
    let wire = c.in-Ok-Some.ensures in
    let first = rw is_wire at wire.first in
    let faults = rw is_wire at wire.no_faults in
    c.take_turn.ensures.holding (g.D.Door.log c.args.door.now) (g.D.Door.coming c.args.door.now) first.pieces (record { numbered = rw is_wire at wire.number; opens = rw is_wire at wire.opened }) first.first
    (record { some = first.some; started = first.started; remains = first.remains; nothing = rw is_wire at wire.nothing_written; no_reads = faults.0; no_writes = faults.1 })

pub returns-in-Ok-Some-clause-stops : goal.returns-in-Ok-Some-clause-stops
returns-in-Ok-Some-clause-stops g c =
    let is_wire = c.in-Ok-Some.field-0-is in
    let wire = c.in-Ok-Some.ensures in
    let first = rw is_wire at wire.first in
    let faults = rw is_wire at wire.no_faults in
    turn_stops _ _ _ _ _ c.take_turn.result
    (c.take_turn.ensures.stops (g.D.Door.log c.args.door.now) (g.D.Door.coming c.args.door.now) first.pieces (record { numbered = rw is_wire at wire.number; opens = rw is_wire at wire.opened }) first.first
    (record { some = first.some; started = first.started; remains = first.remains; nothing = rw is_wire at wire.nothing_written; no_reads = faults.0; no_writes = faults.1 }))
    c.take_turn.ensures.ends
