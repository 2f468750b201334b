use Rattle.std.proofs.Common.{Option, inl, inr, sym, ◌∙◌, subst}
use Rattle.std.specs.Prelude.{IfNone, IfSome}
use Rattle.lookup_messages.specs.Messages.{AskedUrls}
use Rattle.proxy_run.proofs.LookLooking.{answered_unknown, hand_says, refused_unknown}
use Rattle.proxy_run.proofs.looking.look_at_new.Goals as goal
use Rattle.proxy_serving.specs.HeardLook.{IsHeardLook}

pub returns-then-are_lists_ready-clause-goes : goal.returns-then-are_lists_ready-clause-goes
returns-then-are_lists_ready-clause-goes g c start state hand ending so looks =
    c.look_up.ensures.goes start state hand ending so looks
    (hand_says (λ received. IsHeardLook received c.in-Ok-Some.request) c.args.held.now.connections.hand state.hand hand so.are.hand looks.is c.requires.some
    (subst (λ (found : Option AskedUrls). IfSome found (λ message. IfSome c.args.held.now.connections.hand (λ heard. IsHeardLook heard.received message))) c.in-Ok-Some.field-0-is c.in-Ok-Some.ensures.some))
    (sym c.are_lists_ready.ensures ∙ c.if-are_lists_ready.true)

pub returns-in-Ok-Some-clause-goes : goal.returns-in-Ok-Some-clause-goes
returns-in-Ok-Some-clause-goes g c start state hand ending so looks =
    answered_unknown c.args.plan.now start state c.args.held.now c.args.world.now so c.args.lists.now c.args.now ending hand c.answer_by.new.held c.answer_by.new.world looks
    (inr (
      c.in-Ok-Some.request,
      hand_says (λ received. IsHeardLook received c.in-Ok-Some.request) c.args.held.now.connections.hand state.hand hand so.are.hand looks.is c.requires.some
          (subst (λ (found : Option AskedUrls). IfSome found (λ message. IfSome c.args.held.now.connections.hand (λ heard. IsHeardLook heard.received message))) c.in-Ok-Some.field-0-is c.in-Ok-Some.ensures.some),
      sym c.are_lists_ready.ensures ∙ c.if-are_lists_ready.false,
    ))
    (c.answer_by.ensures.gives c.args.plan.now start state hand so looks.is)

pub returns-in-Ok-None-clause-goes : goal.returns-in-Ok-None-clause-goes
returns-in-Ok-None-clause-goes g c start state hand ending so looks =
    answered_unknown c.args.plan.now start state c.args.held.now c.args.world.now so c.args.lists.now c.args.now ending hand c.answer_by-in-Ok-None.new.held c.answer_by-in-Ok-None.new.world looks
    (inl (hand_says (λ received. (message : AskedUrls) → ¬ IsHeardLook received message) c.args.held.now.connections.hand state.hand hand so.are.hand looks.is c.requires.some
    (subst (λ (found : Option AskedUrls). IfNone found (IfSome c.args.held.now.connections.hand (λ heard. (message : AskedUrls) → ¬ IsHeardLook heard.received message))) c.in-Ok-None.field-0-is c.in-Ok-None.ensures.none)))
    (c.answer_by-in-Ok-None.ensures.gives c.args.plan.now start state hand so looks.is)

pub returns-clause-goes : goal.returns-clause-goes
returns-clause-goes g c start state hand ending so looks =
    refused_unknown c.args.plan.now start state c.args.held.now c.args.world.now so c.args.lists.now c.args.now ending hand c.refuse.new.held c.refuse.new.world looks
    (c.refuse.ensures.gives c.args.plan.now start state hand so looks.is)
