use Rattle.std.proofs.Common.{[], None, Some, refl, sym, subst}
use Rattle.find_desk.specs.Desk.{HasKeptDesk}
use Rattle.proxy_looks.specs.Settled.{desk_at}
use Rattle.proxy_run.specs.LookEvents.{after_look_event}
use Rattle.proxy_run.specs.LookEvents.LookEvent.{LookedUp}
use Rattle.proxy_run.specs.LookSoFar.{HoldLooksSo, LookOwn}
use Rattle.proxy_run.proofs.LookLooking.{hand_now, hand_with, look_stopped_goes, looked_goes, looked_up_goes, refused_unknown, settled_count, to_decide}
use Rattle.proxy_run.proofs.LookViews.{looks_own_of}
use Rattle.proxy_run.proofs.looking.look_up.Goals as goal

pub returns-in_default-clause-goes : goal.returns-in_default-clause-goes
returns-in_default-clause-goes g c start state hand ending so looks heard ready =
    refused_unknown c.args.plan.now start state c.args.held.now c.args.world.now so c.args.lists.now c.args.now ending hand c.refuse.new.held c.refuse.new.world looks
    (c.refuse.ensures.gives c.args.plan.now start state hand so looks.is)

pub decide-requires-clause-many : goal.decide-requires-clause-many
decide-requires-clause-many g c =
    let d = c.requires.desk in
    let plan = c.args.plan.now in
    let kept = subst (λ (o : LookOwn). HasKeptDesk plan.updates.target plan.updates.need_digest d.0 d.1 o.desk c.args.world.now.finds) (sym c.held.view_is) d.2 in
    settled_count c.settled_urls_keep_their_looks.ensures (desk_at plan.updates.target plan.updates.need_digest d.0 d.1 c.args.now c.args.world.now.finds) None [] c.in-Ok.urls c.in-Ok-settle_urls.settled c.settle_urls.new.desk
    (c.in-Ok-settle_urls.ensures.settled plan.updates.target plan.updates.need_digest d.0 d.1 c.args.world.now.finds None kept refl)

pub returns-in-Ok-settle_urls-clause-goes : goal.returns-in-Ok-settle_urls-clause-goes
returns-in-Ok-settle_urls-clause-goes g c start state hand ending so looks heard ready =
    let h = c.held.inside in
    let plan = c.args.plan.now in
    let seen = c.args.world.now in
    let own : LookOwn = looks_own_of h.desk h.connections h.looks h.past h.place h.left h.asked h.ended h.waited h.finds h.stop in
    let here : HoldLooksSo plan start state own seen = subst (λ (o : LookOwn). HoldLooksSo plan start state o seen) (sym c.held.view_is) so in
    let settled = c.in-Ok-settle_urls.settled in
    let settles = c.in-Ok-settle_urls.ensures.settled plan.updates.target plan.updates.need_digest start.desk state.desk seen.finds None here.desk refl in
    let between = after_look_event state (LookedUp (Some settled.urls) settles.goes.more) in
    let one = looked_goes plan start state own seen here (Some settled.urls) settles.goes.more c.settle_urls.new.desk c.settle_urls.ensures.opened settles.goes.has in
    let decides = to_decide plan start state own seen here c.settled_urls_keep_their_looks.ensures c.args.now hand c.in-Ok.urls settled c.settle_urls.new.desk looks settles c.in-Ok-settle_urls.ensures.askable in
    looked_up_goes plan start state own seen here c.args.lists.now c.args.now ending hand c.args.request.now c.in-Ok.urls settled c.settle_urls.new.desk c.decide.new.held c.decide.new.world looks heard ready c.in-Ok.ensures.are settles
    (c.decide.ensures.goes start between (hand_with hand (Some settled.urls)) c.args.lists.now ending one decides)

pub returns-in-Err-clause-goes : goal.returns-in-Err-clause-goes
returns-in-Err-clause-goes g c start state hand ending so looks heard ready =
    let h = c.held.inside in
    let plan = c.args.plan.now in
    let seen = c.args.world.now in
    let own : LookOwn = looks_own_of h.desk h.connections h.looks h.past h.place h.left h.asked h.ended h.waited h.finds h.stop in
    let here : HoldLooksSo plan start state own seen = subst (λ (o : LookOwn). HoldLooksSo plan start state o seen) (sym c.held.view_is) so in
    let goes = c.in-Err.ensures.stopped plan.updates.target plan.updates.need_digest start.desk state.desk seen.finds None here.desk refl in
    let one = looked_goes plan start state own seen here None goes.more c.settle_urls.new.desk c.settle_urls.ensures.opened goes.has in
    look_stopped_goes plan start state own seen here c.args.lists.now c.args.now ending hand c.settle_urls.new.desk c.refuse-in-Err.new.held c.refuse-in-Err.new.world looks goes
    (c.refuse-in-Err.ensures.gives plan start (after_look_event state (LookedUp None goes.more)) (hand_with hand None) one (hand_now plan start state own seen here hand None looks.is))
