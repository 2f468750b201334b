use Rattle.std.proofs.Common.{◌≡◌, ℕ, true, Option, None, sym, ap, ◌∙◌, subst}
use Rattle.std.specs.Prelude.{is_some, IfSome}
use Rattle.mirror_connections.specs.Open.{FindSeen}
use Rattle.mirror_finds.specs.Finds.{EndsFind, StopsFind}
use Rattle.mirror_finds.specs.Finds.FindInTurn.{Passed, Stopped}
use Rattle.mirror_finds.specs.declared.finds.OpenFind.{OpenFind}
use Rattle.mirror_run.specs.Allowed.{fate_of_answer}
use Rattle.mirror_run.specs.Events.{after_events}
use Rattle.mirror_run.specs.SoFar.{MirrorOutside, MirrorOwn, passing_start}
use Rattle.mirror_run.specs.State.{before_all}
use Rattle.mirror_run.specs.Steps.{Anyhow, GivesOne, IsRunning, RunsSo, WithoutMemory, given_so, served_now}
use Rattle.mirror_run.proofs.FindSteps.{find_answered}
use Rattle.mirror_run.proofs.RunFacts.{find_session, opens_so, some_same}
use Rattle.mirror_run.proofs.Views.{outside_of, own_of}
use Rattle.mirror_serving.specs.declared.fate.FindFate.{FindFate}
use Rattle.mirror_serving.specs.declared.fate.FindFate.TheVariants.{NotSent}
use Rattle.mirror_run.proofs.finds.end_find.Goals as goal

pub end-requires : goal.end-requires
end-requires g c =
    let plan = c.args.plan.now in
    let at = c.requires.running.0 in
    let own : MirrorOwn = own_of c.run.inside.rounds c.run.inside.finds c.run.inside.connections c.run.inside.wait c.run.inside.answered c.run.inside.no_more c.run.inside.stop in
    let seen : MirrorOutside = outside_of (g.N.Line.view c.world.inside.updates) (g.M.Line.view c.world.inside.finds) (g.K.Keeper.handed c.world.inside.keep) (g.K.Keeper.kept c.world.inside.keep) (g.O.Sink.contents c.world.inside.out) (g.C.Clock.answers c.world.inside.clock) (g.D.Door.log c.world.inside.door) (g.D.Door.coming c.world.inside.door) (g.O.Sink.faults c.world.inside.out) (g.K.Keeper.faults c.world.inside.keep) (g.D.Door.faults c.world.inside.door) in
    let running : IsRunning at plan own seen = subst (λ (w : MirrorOutside). IsRunning at plan own w) (sym c.world.view_is) (subst (λ (o : MirrorOwn). IsRunning at plan o c.args.world.now) (sym c.run.view_is) c.requires.running.1) in
    record { session = find_session at plan own seen running (ap (λ (o : MirrorOwn). is_some o.finds.opened) c.run.view_is ∙ c.requires.opened) }

pub returns-in-Ok-clause-goes : goal.returns-in-Ok-clause-goes
returns-in-Ok-clause-goes g c at start run =
    let plan = c.args.plan.now in
    let own : MirrorOwn = own_of c.run.inside.rounds c.run.inside.finds c.run.inside.connections c.run.inside.wait c.run.inside.answered c.run.inside.no_more c.run.inside.stop in
    let seen : MirrorOutside = outside_of (g.N.Line.view c.world.inside.updates) (g.M.Line.view c.world.inside.finds) (g.K.Keeper.handed c.world.inside.keep) (g.K.Keeper.kept c.world.inside.keep) (g.O.Sink.contents c.world.inside.out) (g.C.Clock.answers c.world.inside.clock) (g.D.Door.log c.world.inside.door) (g.D.Door.coming c.world.inside.door) (g.O.Sink.faults c.world.inside.out) (g.K.Keeper.faults c.world.inside.keep) (g.D.Door.faults c.world.inside.door) in
    let run_now : RunsSo at plan start own seen = subst (λ (w : MirrorOutside). RunsSo at plan start own w) (sym c.world.view_is) (subst (λ (o : MirrorOwn). RunsSo at plan start o c.args.world.now) (sym c.run.view_is) run) in
    let st = after_events start.first before_all run_now.events in
    let opened : is_some own.finds.opened ≡ true = ap (λ (o : MirrorOwn). is_some o.finds.opened) c.run.view_is ∙ c.requires.opened in
    let opens = opens_so own.connections.begun own.finds.opened st.find_open run_now.has.so.is.find opened in
    let ends = subst (λ (o : Option OpenFind). IfSome o (λ find. EndsFind plan.updates.target plan.updates.need_digest (passing_start start) st.finds c.end.new.self (g.M.Line.view c.end.new.line) find c.in-Ok.ended)) opens.opened_is
    (c.in-Ok.ensures.ended (passing_start start) st.finds run_now.has.so.finds) in
    let gives = c.answer_its_find.ensures start.outside.door st.taken st.over run_now.has.so.connections in
    let number : gives.0.number ≡ opens.find.number = ap (λ (f : FindSeen). f.number) (some_same (sym gives.1 ∙ opens.begun_is)) in
    find_answered plan start at own seen run_now c.answer_its_find.new.run c.answer_its_find.new.world c.end.new.self (g.M.Line.view c.end.new.line) Anyhow (fate_of_answer ends.one.passed.answer) (Passed ends.one) (record { number = opens.find.number; asked = opens.session.asked; states = opens.session.states })
    opens.started_is ends.asked ends.states c.end.ensures.closed ends.has c.end.ensures.same
    (subst (λ (n : ℕ). GivesOne n (served_now own (fate_of_answer ends.one.passed.answer)) Anyhow (record own.connections { begun = None }) (given_so start.outside.door st.taken st.over) (record own { finds = c.end.new.self }) c.answer_its_find.new.run (record seen { finds = g.M.Line.view c.end.new.line }) c.answer_its_find.new.world) number
    (subst (λ (f : FindFate). GivesOne gives.0.number (served_now own f) Anyhow (record own.connections { begun = None }) (given_so start.outside.door st.taken st.over) (record own { finds = c.end.new.self }) c.answer_its_find.new.run (record seen { finds = g.M.Line.view c.end.new.line }) c.answer_its_find.new.world) (c.fate_of.ensures ∙ ap fate_of_answer ends.answered) gives.2))
    (λ one server how. server)

pub returns-in-Err-clause-goes : goal.returns-in-Err-clause-goes
returns-in-Err-clause-goes g c at start run =
    let plan = c.args.plan.now in
    let own : MirrorOwn = own_of c.run.inside.rounds c.run.inside.finds c.run.inside.connections c.run.inside.wait c.run.inside.answered c.run.inside.no_more c.run.inside.stop in
    let seen : MirrorOutside = outside_of (g.N.Line.view c.world.inside.updates) (g.M.Line.view c.world.inside.finds) (g.K.Keeper.handed c.world.inside.keep) (g.K.Keeper.kept c.world.inside.keep) (g.O.Sink.contents c.world.inside.out) (g.C.Clock.answers c.world.inside.clock) (g.D.Door.log c.world.inside.door) (g.D.Door.coming c.world.inside.door) (g.O.Sink.faults c.world.inside.out) (g.K.Keeper.faults c.world.inside.keep) (g.D.Door.faults c.world.inside.door) in
    let run_now : RunsSo at plan start own seen = subst (λ (w : MirrorOutside). RunsSo at plan start own w) (sym c.world.view_is) (subst (λ (o : MirrorOwn). RunsSo at plan start o c.args.world.now) (sym c.run.view_is) run) in
    let st = after_events start.first before_all run_now.events in
    let opened : is_some own.finds.opened ≡ true = ap (λ (o : MirrorOwn). is_some o.finds.opened) c.run.view_is ∙ c.requires.opened in
    let opens = opens_so own.connections.begun own.finds.opened st.find_open run_now.has.so.is.find opened in
    let ends = subst (λ (o : Option OpenFind). IfSome o (λ find. StopsFind plan.updates.target plan.updates.need_digest (passing_start start) st.finds c.end.new.self (g.M.Line.view c.end.new.line) find.states find.asked find.now)) opens.opened_is
    (c.in-Err.ensures.stopped (passing_start start) st.finds run_now.has.so.finds) in
    let gives = c.refuse_its_find.ensures start.outside.door st.taken st.over run_now.has.so.connections in
    let number : gives.0.number ≡ opens.find.number = ap (λ (f : FindSeen). f.number) (some_same (sym gives.1 ∙ opens.begun_is)) in
    find_answered plan start at own seen run_now c.refuse_its_find.new.run c.refuse_its_find.new.world c.end.new.self (g.M.Line.view c.end.new.line) WithoutMemory (NotSent) (Stopped ends.one) (record { number = opens.find.number; asked = opens.session.asked; states = opens.session.states })
    opens.started_is ends.asks ends.states_are c.end.ensures.closed ends.has c.end.ensures.same
    (subst (λ (n : ℕ). GivesOne n (served_now own (NotSent)) WithoutMemory (record own.connections { begun = None }) (given_so start.outside.door st.taken st.over) (record own { finds = c.end.new.self }) c.refuse_its_find.new.run (record seen { finds = g.M.Line.view c.end.new.line }) c.refuse_its_find.new.world) number
    gives.2)
    (λ one server how. (server, how))
