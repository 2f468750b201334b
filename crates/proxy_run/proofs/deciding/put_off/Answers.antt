use Rattle.std.proofs.Common.{◌≡◌, ◌++◌, Bool, List, sym, ap, ◌∙◌, subst}
use Rattle.std.specs.Prelude.{if◌then◌else◌}
use Rattle.proxy_run.specs.LookEvents.{after_look_event, counted_up}
use Rattle.proxy_run.specs.LookEvents.LookEvent.{PutOff}
use Rattle.proxy_run.specs.LookSoFar.{HoldLooksSo, LookOwn}
use Rattle.proxy_run.proofs.LookDeciding.{look_put}
use Rattle.proxy_run.proofs.LookViews.{looks_own_of}
use Rattle.proxy_run.proofs.deciding.put_off.Goals as goal
use Rattle.url_checker.specs.declared.looking.Looks.{Looks}

pub returns-then-is_new-clause-puts : goal.returns-then-is_new-clause-puts
returns-then-is_new-clause-puts g c plan start state hand seen so decides =
    let h = c.held.inside in
    let own : LookOwn = looks_own_of h.desk h.connections h.looks h.past h.place h.left h.asked h.ended h.waited h.finds h.stop in
    let here : HoldLooksSo plan start state own seen = subst (λ (o : LookOwn). HoldLooksSo plan start state o seen) (sym c.held.view_is) so in
    let conns = c.put_off.new.self in
    let counted : counted_up own.waited ≡ (if c.args.is_new then counted_up own.waited else own.waited) = ap (λ (f : Bool). if f then counted_up own.waited else own.waited) (sym c.if-is_new.true) in
    let is : c.count_one.new.self ≡ record own { looks = own.looks ++ c.args.looks; connections = conns; waited = counted_up own.waited } =
    c.count_one.ensures ∙ ap (λ (ls : List Looks). looks_own_of h.desk conns ls h.past h.place h.left h.asked h.ended (counted_up h.waited) h.finds h.stop) c.in_ok-append_looks.ensures.appended in
    subst (λ (o : LookOwn). HoldLooksSo plan start (after_look_event state PutOff) o seen) (sym is)
    (look_put plan start state own seen here hand c.args.is_new c.args.urls c.args.looks conns (counted_up own.waited) decides c.put_off.ensures.puts
    (c.put_off.ensures.has start.outside.door seen.door state.taken state.over here.connections) counted)

pub returns-else-is_new-clause-puts : goal.returns-else-is_new-clause-puts
returns-else-is_new-clause-puts g c plan start state hand seen so decides =
    let h = c.held.inside in
    let own : LookOwn = looks_own_of h.desk h.connections h.looks h.past h.place h.left h.asked h.ended h.waited h.finds h.stop in
    let here : HoldLooksSo plan start state own seen = subst (λ (o : LookOwn). HoldLooksSo plan start state o seen) (sym c.held.view_is) so in
    let conns = c.put_off.new.self in
    let counted : own.waited ≡ (if c.args.is_new then counted_up own.waited else own.waited) = ap (λ (f : Bool). if f then counted_up own.waited else own.waited) (sym c.if-is_new.false) in
    let is : looks_own_of h.desk conns c.append_looks.new.to h.past h.place h.left h.asked h.ended h.waited h.finds h.stop ≡ record own { looks = own.looks ++ c.args.looks; connections = conns; waited = own.waited } =
    ap (λ (ls : List Looks). looks_own_of h.desk conns ls h.past h.place h.left h.asked h.ended h.waited h.finds h.stop) c.in_ok-append_looks.ensures.appended in
    subst (λ (o : LookOwn). HoldLooksSo plan start (after_look_event state PutOff) o seen) (sym is)
    (look_put plan start state own seen here hand c.args.is_new c.args.urls c.args.looks conns own.waited decides c.put_off.ensures.puts
    (c.put_off.ensures.has start.outside.door seen.door state.taken state.over here.connections) counted)
