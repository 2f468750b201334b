use Rattle.std.proofs.Common.{◌∷◌, ◌∙◌, ap, sym, refl, Option, List, ℕ}
use Rattle.std.specs.Prelude.{option_map}
use Rattle.sb_service.specs.declared.stop.Stop.TheVariants as stop
use Rattle.sb_service.proofs.Stops.{one_stop}
use Rattle.sb_service.proofs.Turns.{stopped_held}
use Rattle.sb_service.proofs.serve.serve_one_held.Goals as goal

pub returns-in_default-clause-stops : goal.returns-in_default-clause-stops
returns-in_default-clause-stops g c left connections before is =
    let is_wire = c.in-Ok-Some.field-0-is in
    let wire = c.in-Ok-Some.ensures in
    let first = rw is_wire at wire.first in
    let faults = rw is_wire at wire.no_faults in
    let told = c.serve_taken.ensures.told (g.D.Door.log c.args.door.now) first.pieces (record { numbered = rw is_wire at wire.number; opens = rw is_wire at wire.opened })
    (record { some = first.some; started = first.started; remains = first.remains; nothing = rw is_wire at wire.nothing_written; no_reads = faults.0; no_writes = faults.1 }) in
    stopped_held _ _ _ _ _ _ _ is (λ e. c.in_default.not-Done (one_stop c.serve_taken.result stop.Done e))
    (record {
      unread = refl;
      same = refl;
      pieces = first.pieces;
      taken = first.first ∙ ap (λ (later : Option (List (List (List ℕ)))). option_map (λ (more : List (List (List ℕ))). first.pieces ∷ more) later) (sym c.serve_taken.ensures.coming);
      told = told;
    })
