use Rattle.std.proofs.Common.{List, [], ◌∷◌, refl, sym, ap, subst}
use Rattle.std.proofs.lemmas.List.Elements.{All-cons, All-nil}
use Rattle.held_connections.specs.Held.{HeldView}
use Rattle.proxy_looks.specs.Settled.{AreLooksOf}
use Rattle.proxy_looks.specs.Urls.{open_hits}
use Rattle.proxy_looks.specs.declared.urls.LookUrl.{LookUrl}
use Rattle.proxy_run.specs.LookEvents.LookEvent.{PutOff}
use Rattle.proxy_run.specs.LookSoFar.{HoldLooksSo, LookOwn}
use Rattle.proxy_run.specs.LookSteps.{IsSettlingLook, LooksMayNotWait, LooksMayWait}
use Rattle.proxy_run.proofs.LookDeciding.{answered_goes, may_not_wait, may_wait_on, refused_goes}
use Rattle.proxy_run.proofs.deciding.decide.Goals as goal
use Rattle.url_checker.specs.declared.looking.Looks.{Looks}

pub returns-then-not-may_wait-clause-goes : goal.returns-then-not-may_wait-clause-goes
returns-then-not-may_wait-clause-goes g c start state hand lists ending so decides =
    answered_goes c.args.plan.now start state c.args.held.now c.args.world.now so lists c.args.now ending hand c.args.is_new c.args.settled.urls c.args.settled.looks c.fate_of_urls-fate.result
    c.answer_or_refuse.new.held c.answer_or_refuse.new.world decides
    (c.fate_of_urls-fate.ensures start.desk state.desk (subst (λ (ls : List Looks). AreLooksOf start.desk state.desk (open_hits c.args.settled.urls) ls) (sym c.as_slice-then-not-may_wait.ensures) decides.are))
    (may_not_wait c.args.plan.now start state c.args.held.now c.args.world.now so lists c.args.now ending hand c.args.is_new c.args.settled.urls c.args.settled.looks decides
    (subst (λ (us : List LookUrl). LooksMayNotWait c.args.plan.now c.args.held.now c.args.now us c.args.settled.looks) c.as_slice.ensures
    (subst (λ (ls : List Looks). LooksMayNotWait c.args.plan.now c.args.held.now c.args.now c.as_slice.result.now ls) c.as_slice-2.ensures (c.if-not-may_wait.ensures.answered refl))))
    (c.answer_or_refuse.ensures.gives c.args.plan.now start state hand so decides.is)

pub returns-in-Ok-clause-goes : goal.returns-in-Ok-clause-goes
returns-in-Ok-clause-goes g c start state hand lists ending so decides = record {
  events = PutOff ∷ [];
  kinds = All-cons IsSettlingLook (PutOff) ([]) tt (All-nil IsSettlingLook);
  may = (
    may_wait_on c.args.plan.now start state c.args.held.now c.args.world.now so lists c.args.now ending hand c.args.is_new c.args.settled.urls c.args.settled.looks decides
        (subst (λ (us : List LookUrl). LooksMayWait c.args.plan.now c.args.held.now c.args.now us c.args.settled.looks) c.as_slice.ensures
        (subst (λ (ls : List Looks). LooksMayWait c.args.plan.now c.args.held.now c.args.now c.as_slice.result.now ls) c.as_slice-2.ensures (c.if-not-may_wait.ensures.waits refl))),
    tt,
  );
  so = c.in-Ok.ensures.puts c.args.plan.now start state hand c.args.world.now so decides;
  ends = record { none_in_hand = refl; unsettled = refl; by = refl; find = refl };
}

pub returns-in-Ok-clause-free : goal.returns-in-Ok-clause-free
returns-in-Ok-clause-free g c = ap (λ (cs : HeldView (List LookUrl)). cs.hand) c.in-Ok.ensures.puts_off.is

pub returns-in-Ok-clause-taken : goal.returns-in-Ok-clause-taken
returns-in-Ok-clause-taken g c = ap (λ (cs : HeldView (List LookUrl)). cs.taken) c.in-Ok.ensures.puts_off.is

pub returns-in-Err-clause-goes : goal.returns-in-Err-clause-goes
returns-in-Err-clause-goes g c start state hand lists ending so decides =
    let kept = c.in-Err.ensures.kept in
    refused_goes c.args.plan.now start state c.args.held.now c.args.world.now so lists c.args.now ending hand c.args.is_new c.args.settled.urls c.args.settled.looks
    c.refuse.new.held c.refuse.new.world decides
    (c.refuse.ensures.gives c.args.plan.now start state hand (subst (λ (o : LookOwn). HoldLooksSo c.args.plan.now start state o c.args.world.now) (sym kept) so) decides.is)
