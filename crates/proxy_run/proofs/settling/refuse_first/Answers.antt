use Rattle.std.proofs.Common.{[], None, sym, subst}
use Rattle.proxy_run.specs.LookEvents.{after_look_event}
use Rattle.proxy_run.specs.LookEvents.LookEvent.{SettledFirst}
use Rattle.proxy_run.specs.LookSoFar.{HoldLooksSo, LookOwn}
use Rattle.proxy_run.proofs.LookReleasing.{refused_first_goes, refused_goes}
use Rattle.proxy_run.proofs.LookSettling.{hand_first, has_first, settled_hand}
use Rattle.proxy_run.proofs.settling.refuse_first.Goals as goal

pub returns-clause-goes : goal.returns-clause-goes
returns-clause-goes g c plan start state lists now ending so refusing =
    let own = c.args.held.now in
    let seen = c.args.world.now in
    let f = has_first state.unsettled own.left so.are.left c.requires.some in
    let urls = c.take_next_in_hand-urls.result in
    let conns = c.take_next_in_hand-urls.new.held.connections in
    let takes = c.take_next_in_hand-urls.ensures.takes in
    let held = c.take_next_in_hand-urls.ensures.has start.outside.door seen.door state.taken state.over so.connections in
    let one = subst (λ (o : LookOwn). HoldLooksSo plan start (after_look_event state (SettledFirst None [])) o seen) (sym c.take_next_in_hand-urls.ensures.others)
    (refused_goes plan start state own seen so f.0 f.1 f.2 conns urls takes refusing.by held) in
    refused_first_goes plan start state own seen so f.0 f.1 f.2 conns urls takes lists now ending c.refuse.new.held c.refuse.new.world refusing.none_in_hand refusing.by
    (c.refuse.ensures.gives plan start (after_look_event state (SettledFirst None [])) (hand_first plan start state own seen so f.0 f.1 f.2 conns urls takes None) one
    (settled_hand plan start state own seen so f.0 f.1 f.2 conns urls takes None []))
