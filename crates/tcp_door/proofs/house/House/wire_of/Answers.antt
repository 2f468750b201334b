use Rattle.std.proofs.Common.{◌≡◌, Some, sym, ap, ◌∙◌}
use Rattle.slab.specs.Slab.{get}
use Rattle.tcp_door.proofs.Rounds.{out_if}
use Rattle.tcp_door.proofs.house.House.wire_of.Goals as goal

pub returns-clause-out : goal.returns-clause-out
returns-clause-out c =
    let there : get c.move_to.new.self.guests c.args.one.now.slot ≡ Some c.in_ok-guest.guest.now = sym c.in_ok-guest.ensures.value in
    let moved = c.move_to.ensures.own c.in_ok-guest.guest.now there in
    let took = c.turn_of.ensures.took in
    out_if c.move_to.new.self.guests c.args.one.now.slot c.in_ok-guest.guest.now c.turn_of.new.guest c.turn_of.result there (ap (λ g. g.serial) took) (ap (λ g. g.phase) took ∙ ap (λ g. g.phase) moved.2)
    c.turn_of.ensures.slot c.turn_of.ensures.stands
