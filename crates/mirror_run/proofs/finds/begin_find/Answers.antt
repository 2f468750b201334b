use Rattle.std.proofs.Common.{◌≡◌, ℕ, Option, Some, None, sym, ap, ◌∙◌, subst, inr}
use Rattle.std.specs.Prelude.{IfSome}
use Rattle.mirror_connections.specs.Open.{ConnectionsSeen, FindSeen}
use Rattle.mirror_finds.specs.Finds.FindInTurn.{Stopped}
use Rattle.mirror_finds.specs.declared.finds.OpenFind.{OpenFind}
use Rattle.mirror_run.specs.Events.{after_events}
use Rattle.mirror_run.specs.SoFar.{MirrorOutside, MirrorOwn, passing_start}
use Rattle.mirror_run.specs.State.{before_all}
use Rattle.mirror_run.specs.State.Phase.{Beginning}
use Rattle.mirror_run.specs.Steps.{GivesOne, MayBegin, RunsSo, WithoutMemory, given_so, run_at, served_now}
use Rattle.mirror_run.proofs.FindSteps.{find_begins, find_refused, first_refused}
use Rattle.mirror_run.proofs.Views.{outside_of, own_of}
use Rattle.mirror_serving.specs.declared.fate.FindFate.TheVariants.{NotSent}
use Rattle.update_client.specs.Held.{tokens_of}
use Rattle.mirror_run.proofs.RunFacts.{begins_same, some_same}
use Rattle.mirror_run.proofs.finds.begin_find.Goals as goal

pub returns-in_default-clause-goes : goal.returns-in_default-clause-goes
returns-in_default-clause-goes g c turns start run =
    let plan = c.args.plan.now in
    let at = run_at Beginning c.args.now turns in
    let st = after_events start.first before_all run.events in
    first_refused plan start at c.args.run.now c.args.world.now run c.refuse_unsent.new.run c.refuse_unsent.new.world WithoutMemory
    (c.refuse_unsent.ensures start.outside.door st.taken st.over run.has.so.connections)
    (λ first rest how waits ends. inr (inr (inr ends)))

pub returns-in-Ok-begin-clause-goes : goal.returns-in-Ok-begin-clause-goes
returns-in-Ok-begin-clause-goes g c turns start run =
    let plan = c.args.plan.now in
    let at = run_at Beginning c.args.now turns in
    let own : MirrorOwn = own_of c.run.inside.rounds c.run.inside.finds c.run.inside.connections c.run.inside.wait c.run.inside.answered c.run.inside.no_more c.run.inside.stop in
    let seen : MirrorOutside = outside_of (g.N.Line.view c.world.inside.updates) (g.M.Line.view c.world.inside.finds) (g.K.Keeper.handed c.world.inside.keep) (g.K.Keeper.kept c.world.inside.keep) (g.O.Sink.contents c.world.inside.out) (g.C.Clock.answers c.world.inside.clock) (g.D.Door.log c.world.inside.door) (g.D.Door.coming c.world.inside.door) (g.O.Sink.faults c.world.inside.out) (g.K.Keeper.faults c.world.inside.keep) (g.D.Door.faults c.world.inside.door) in
    let run_now : RunsSo at plan start own seen = subst (λ (w : MirrorOutside). RunsSo at plan start own w) (sym c.world.view_is) (subst (λ (o : MirrorOwn). RunsSo at plan start o c.args.world.now) (sym c.run.view_is) run) in
    let st = after_events start.first before_all run_now.events in
    let goes_on : own.stop ≡ None = ap (λ (o : MirrorOwn). o.stop) c.run.view_is ∙ c.requires.goes_on in
    let begins : MayBegin c.args.now own = subst (MayBegin c.args.now) (sym c.run.view_is) c.requires.may in
    let first = begins_same own.connections c.begin_first.new.self begins.first begins.rest c.in-Some.asked begins.waits c.in-Some.ensures.first in
    let opened = c.in-Ok-begin.ensures.opened in
    let asks = subst (λ (o : Option OpenFind). IfSome o (λ find. (find.asked ≡ c.in-Some.asked) × (find.states ≡ c.in-Ok.states))) opened.2 c.in-Ok-begin.ensures.asks in
    find_begins plan start c.args.now turns own seen run_now goes_on begins c.begin.new.self opened.1 (g.M.Line.view c.begin.new.line) c.begin_first.new.self first.0
    (c.in-Some.ensures.has start.outside.door seen.door st.taken st.over run_now.has.so.connections)
    opened.2 (asks.0 ∙ first.1) (asks.1 ∙ (c.in-Ok.ensures ∙ ap tokens_of (c.lists.ensures)))
    (c.in-Ok-begin.ensures.begun plan.updates.need_digest (passing_start start) st.finds run_now.has.so.finds) c.begin.ensures.same

pub returns-in-Err-clause-goes : goal.returns-in-Err-clause-goes
returns-in-Err-clause-goes g c turns start run =
    let plan = c.args.plan.now in
    let at = run_at Beginning c.args.now turns in
    let own : MirrorOwn = own_of c.run.inside.rounds c.run.inside.finds c.run.inside.connections c.run.inside.wait c.run.inside.answered c.run.inside.no_more c.run.inside.stop in
    let seen : MirrorOutside = outside_of (g.N.Line.view c.world.inside.updates) (g.M.Line.view c.world.inside.finds) (g.K.Keeper.handed c.world.inside.keep) (g.K.Keeper.kept c.world.inside.keep) (g.O.Sink.contents c.world.inside.out) (g.C.Clock.answers c.world.inside.clock) (g.D.Door.log c.world.inside.door) (g.D.Door.coming c.world.inside.door) (g.O.Sink.faults c.world.inside.out) (g.K.Keeper.faults c.world.inside.keep) (g.D.Door.faults c.world.inside.door) in
    let run_now : RunsSo at plan start own seen = subst (λ (w : MirrorOutside). RunsSo at plan start own w) (sym c.world.view_is) (subst (λ (o : MirrorOwn). RunsSo at plan start o c.args.world.now) (sym c.run.view_is) run) in
    let st = after_events start.first before_all run_now.events in
    let goes_on : own.stop ≡ None = ap (λ (o : MirrorOwn). o.stop) c.run.view_is ∙ c.requires.goes_on in
    let begins : MayBegin c.args.now own = subst (MayBegin c.args.now) (sym c.run.view_is) c.requires.may in
    let first = begins_same own.connections c.begin_first.new.self begins.first begins.rest c.in-Some.asked begins.waits c.in-Some.ensures.first in
    let has = c.in-Some.ensures.has start.outside.door seen.door st.taken st.over run_now.has.so.connections in
    let stops = c.in-Err.ensures.broken_off plan.updates.need_digest (passing_start start) st.finds run_now.has.so.finds in
    let gives = c.refuse_its_find.ensures start.outside.door st.taken st.over has in
    let number : gives.0.number ≡ begins.first.find.number = ap (λ (f : FindSeen). f.number) (some_same (sym gives.1 ∙ ap (λ (s : ConnectionsSeen). s.begun) first.0)) in
    find_refused plan start c.args.now turns own seen run_now goes_on begins c.refuse_its_find.new.run c.refuse_its_find.new.world c.begin.new.self (g.M.Line.view c.begin.new.line) c.begin_first.new.self (Stopped stops.1.one)
    first.0 (stops.1.asks ∙ first.1) (stops.1.states_are ∙ (c.in-Ok.ensures ∙ ap tokens_of (c.lists.ensures))) stops.1.closed stops.1.has c.begin.ensures.same
    (subst (λ (n : ℕ). GivesOne n (served_now own NotSent) WithoutMemory (record c.begin_first.new.self { begun = None }) (given_so start.outside.door st.taken st.over) (record own { finds = c.begin.new.self; connections = c.begin_first.new.self })
    c.refuse_its_find.new.run (record seen { finds = g.M.Line.view c.begin.new.line }) c.refuse_its_find.new.world) number gives.2)
    (λ one server how. (server, how))
