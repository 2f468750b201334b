use Rattle.std.proofs.Common.{sym, subst}
use Rattle.proxy_run.specs.LookSteps.{GivesLook, HasFateOrRefused}
use Rattle.proxy_run.proofs.answering.answer_or_refuse.Goals as goal

pub returns-in-Ok-clause-gives : goal.returns-in-Ok-clause-gives
returns-in-Ok-clause-gives g c plan start state hand so is =
    subst (λ fate. GivesLook plan start state hand (HasFateOrRefused hand fate) c.answer_by.new.held c.answer_by.new.world) (sym c.in-Ok.is) (c.answer_by.ensures.gives plan start state hand so is)

pub returns-in-Err-clause-gives : goal.returns-in-Err-clause-gives
returns-in-Err-clause-gives g c plan start state hand so is =
    subst (λ fate. GivesLook plan start state hand (HasFateOrRefused hand fate) c.refuse.new.held c.refuse.new.world) (sym c.in-Err.is) (c.refuse.ensures.gives plan start state hand so is)
