use Rattle.std.proofs.Common.{◌≡◌, ◌≤◌, ◌+◌, ◌-◌, Some, None, false, sym, ap, ◌∙◌, subst}
use Rattle.std.specs.Prelude.{drop, length, take}
use Rattle.find_desk.specs.Desk.{HasKeptDesk}
use Rattle.proxy_looks.specs.Settled.{AreAskedBy, GoesOnLooking, SettlesAll, desk_at}
use Rattle.proxy_looks.specs.Urls.{open_hits}
use Rattle.proxy_run.specs.LookEvents.{after_look_event}
use Rattle.proxy_run.specs.LookEvents.LookEvent.{SettledFirst}
use Rattle.proxy_run.specs.LookSoFar.{HoldLooksSo, LookOwn}
use Rattle.proxy_run.specs.LookSteps.{IsAskedByEnded}
use Rattle.proxy_run.proofs.LookLooking.{settled_count}
use Rattle.proxy_run.proofs.LookSettling.{asked_by_one, first_askable, found_asked, found_few, found_within, has_first, settled_decides, settled_first_goes, settled_goes, settled_hand, stopped_first_goes}
use Rattle.proxy_run.proofs.settling.settle_first.Goals as goal

pub settle_by_find-requires-clause-askable : goal.settle_by_find-requires-clause-askable
settle_by_find-requires-clause-askable g c =
    let d = c.requires.held in
    let f = has_first d.1.unsettled c.args.held.now.left d.2.are.left c.requires.some in
    first_askable c.args.plan.now d.0 d.1 c.args.held.now c.args.world.now d.2 f.0 f.1 f.2 c.take_next_in_hand-urls.new.held.connections c.take_next_in_hand-urls.result c.take_next_in_hand-urls.ensures.takes

pub settle_by_find-requires-clause-within : goal.settle_by_find-requires-clause-within
settle_by_find-requires-clause-within g c =
    let d = c.requires.held in
    let f = has_first d.1.unsettled c.args.held.now.left d.2.are.left c.requires.some in
    let urls = c.take_next_in_hand-urls.result in
    subst (λ (o : LookOwn). o.place + length (open_hits urls) ≤ length o.past) (sym c.take_next_in_hand-urls.ensures.others)
    (found_within c.args.plan.now d.0 d.1 c.args.held.now c.args.world.now d.2 f.0 f.1 f.2 c.take_next_in_hand-urls.new.held.connections urls c.take_next_in_hand-urls.ensures.takes d.3.one d.3.by)

pub settle_by_find-requires-clause-few : goal.settle_by_find-requires-clause-few
settle_by_find-requires-clause-few g c =
    let d = c.requires.held in
    let f = has_first d.1.unsettled c.args.held.now.left d.2.are.left c.requires.some in
    subst (λ (o : LookOwn). o.asked ≤ length o.past) (sym c.take_next_in_hand-urls.ensures.others)
    (found_few c.args.plan.now d.0 d.1 c.args.held.now c.args.world.now d.2 f.0 f.1 f.2 c.take_next_in_hand-urls.new.held.connections c.take_next_in_hand-urls.result c.take_next_in_hand-urls.ensures.takes d.3.one d.3.by)

pub settle_by_find-requires-clause-asked : goal.settle_by_find-requires-clause-asked
settle_by_find-requires-clause-asked g c =
    let d = c.requires.held in
    let f = has_first d.1.unsettled c.args.held.now.left d.2.are.left c.requires.some in
    subst (λ (o : LookOwn). IsAskedByEnded o.ended o.asked o.past) (sym c.take_next_in_hand-urls.ensures.others)
    (found_asked c.args.plan.now d.0 d.1 c.args.held.now c.args.world.now d.2 f.0 f.1 f.2 c.take_next_in_hand-urls.new.held.connections c.take_next_in_hand-urls.result c.take_next_in_hand-urls.ensures.takes d.3.one d.3.by)

pub decide-requires-clause-many : goal.decide-requires-clause-many
decide-requires-clause-many g c =
    let d = c.requires.held in
    let own = c.args.held.now in
    let plan = c.args.plan.now in
    let seen = c.args.world.now in
    let f = has_first d.1.unsettled own.left d.2.are.left c.requires.some in
    let urls = c.take_next_in_hand-urls.result in
    let moved = c.take_next_in_hand-urls.ensures.others in
    let has = subst (λ (o : LookOwn). HasKeptDesk plan.updates.target plan.updates.need_digest d.0.desk d.1.desk o.desk seen.finds) (sym moved) d.2.desk in
    let asked = subst (λ (o : LookOwn). AreAskedBy d.0.desk d.1.desk (open_hits urls) (take (o.asked - o.place) (drop o.place o.past)) o.ended (Some d.3.one)) (sym moved)
    (asked_by_one plan d.0 d.1 own seen d.2 f.0 f.1 f.2 c.take_next_in_hand-urls.new.held.connections urls c.take_next_in_hand-urls.ensures.takes d.3.one d.3.by) in
    let left = c.take_next_in_hand-urls.new.held in
    settled_count c.settled_urls_keep_their_looks.ensures (desk_at plan.updates.target plan.updates.need_digest d.0.desk d.1.desk c.args.now seen.finds) (Some d.3.one) (take (left.asked - left.place) (drop left.place left.past))
    urls c.in-Ok.settled c.settle_by_find.new.held.desk (c.in-Ok.ensures.settled plan.updates.target plan.updates.need_digest d.0.desk d.1.desk seen.finds d.3.one has asked)

pub returns-in-Ok-clause-goes : goal.returns-in-Ok-clause-goes
returns-in-Ok-clause-goes g c start state lists ending so settle =
    let own = c.args.held.now in
    let plan = c.args.plan.now in
    let seen = c.args.world.now in
    let f = has_first state.unsettled own.left so.are.left c.requires.some in
    let urls = c.take_next_in_hand-urls.result in
    let conns = c.take_next_in_hand-urls.new.held.connections in
    let takes = c.take_next_in_hand-urls.ensures.takes in
    let moved = c.take_next_in_hand-urls.ensures.others in
    let desk = c.settle_by_find.new.held.desk in
    let settled = c.in-Ok.settled in
    let has = subst (λ (o : LookOwn). HasKeptDesk plan.updates.target plan.updates.need_digest start.desk state.desk o.desk seen.finds) (sym moved) so.desk in
    let asked = subst (λ (o : LookOwn). AreAskedBy start.desk state.desk (open_hits urls) (take (o.asked - o.place) (drop o.place o.past)) o.ended (Some settle.one)) (sym moved)
    (asked_by_one plan start state own seen so f.0 f.1 f.2 conns urls takes settle.one settle.by) in
    let settles : SettlesAll (desk_at plan.updates.target plan.updates.need_digest start.desk state.desk c.args.now seen.finds) (Some settle.one) (take (own.asked - own.place) (drop own.place own.past)) urls settled desk =
    subst (λ (o : LookOwn). SettlesAll (desk_at plan.updates.target plan.updates.need_digest start.desk state.desk c.args.now seen.finds) (Some settle.one) (take (o.asked - o.place) (drop o.place o.past)) urls settled desk) moved
    (c.in-Ok.ensures.settled plan.updates.target plan.updates.need_digest start.desk state.desk seen.finds settle.one has asked) in
    let opened = c.settle_by_find.ensures.opened ∙ ap (λ (o : LookOwn). o.desk.opened) moved in
    let held = c.take_next_in_hand-urls.ensures.has start.outside.door seen.door state.taken state.over so.connections in
    let now_is : c.settle_by_find.new.held ≡ record own { desk = desk; connections = conns; left = own.left - 1; place = own.place + length (open_hits urls) } =
    c.settle_by_find.ensures.others ∙ ap (λ (o : LookOwn). record o { desk = desk; place = o.place + length (open_hits urls) }) moved in
    let one = subst (λ (o : LookOwn). HoldLooksSo plan start (after_look_event state (SettledFirst (Some settled.urls) settles.goes.more)) o seen) (sym now_is)
    (settled_goes plan start state own seen so f.0 f.1 f.2 conns urls takes settle.one (Some settled.urls) settles.goes.more desk settle.by opened settles.goes.has held) in
    let decides = settled_decides plan start state own seen so f.0 f.1 f.2 conns urls takes c.settled_urls_keep_their_looks.ensures settle.one c.args.now settled desk settles c.in-Ok.ensures.askable in
    settled_first_goes plan start state own seen so f.0 f.1 f.2 conns urls takes settle.one lists c.args.now ending settled desk c.decide.new.held c.decide.new.world settle.none_in_hand settle.by settles
    (c.decide.ensures.goes start (after_look_event state (SettledFirst (Some settled.urls) settles.goes.more)) (record { number = f.0.number; received = f.0.received; urls = Some settled.urls; fresh = false; released = false }) lists ending one decides)

pub returns-in-Err-clause-goes : goal.returns-in-Err-clause-goes
returns-in-Err-clause-goes g c start state lists ending so settle =
    let own = c.args.held.now in
    let plan = c.args.plan.now in
    let seen = c.args.world.now in
    let f = has_first state.unsettled own.left so.are.left c.requires.some in
    let urls = c.take_next_in_hand-urls.result in
    let conns = c.take_next_in_hand-urls.new.held.connections in
    let takes = c.take_next_in_hand-urls.ensures.takes in
    let moved = c.take_next_in_hand-urls.ensures.others in
    let desk = c.settle_by_find.new.held.desk in
    let has = subst (λ (o : LookOwn). HasKeptDesk plan.updates.target plan.updates.need_digest start.desk state.desk o.desk seen.finds) (sym moved) so.desk in
    let asked = subst (λ (o : LookOwn). AreAskedBy start.desk state.desk (open_hits urls) (take (o.asked - o.place) (drop o.place o.past)) o.ended (Some settle.one)) (sym moved)
    (asked_by_one plan start state own seen so f.0 f.1 f.2 conns urls takes settle.one settle.by) in
    let goes : GoesOnLooking (desk_at plan.updates.target plan.updates.need_digest start.desk state.desk c.args.now seen.finds) desk =
    c.in-Err.ensures.stopped plan.updates.target plan.updates.need_digest start.desk state.desk seen.finds settle.one has asked in
    let opened = c.settle_by_find.ensures.opened ∙ ap (λ (o : LookOwn). o.desk.opened) moved in
    let held = c.take_next_in_hand-urls.ensures.has start.outside.door seen.door state.taken state.over so.connections in
    let now_is : c.settle_by_find.new.held ≡ record own { desk = desk; connections = conns; left = own.left - 1; place = own.place + length (open_hits urls) } =
    c.settle_by_find.ensures.others ∙ ap (λ (o : LookOwn). record o { desk = desk; place = o.place + length (open_hits urls) }) moved in
    let one = subst (λ (o : LookOwn). HoldLooksSo plan start (after_look_event state (SettledFirst None goes.more)) o seen) (sym now_is)
    (settled_goes plan start state own seen so f.0 f.1 f.2 conns urls takes settle.one None goes.more desk settle.by opened goes.has held) in
    stopped_first_goes plan start state own seen so f.0 f.1 f.2 conns urls takes settle.one lists c.args.now ending desk c.refuse.new.held c.refuse.new.world settle.none_in_hand settle.by goes
    (c.refuse.ensures.gives plan start (after_look_event state (SettledFirst None goes.more)) (record { number = f.0.number; received = f.0.received; urls = None; fresh = false; released = false }) one
    (settled_hand plan start state own seen so f.0 f.1 f.2 conns urls takes None goes.more))
