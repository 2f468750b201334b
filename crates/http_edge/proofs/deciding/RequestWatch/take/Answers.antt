use Rattle.std.proofs.Common.{[], ◌∷◌, ◌++◌, sym, ◌∙◌, subst}
use Rattle.http_edge.specs.Deciding.{IsStage}
use Rattle.http_edge.proofs.DecidingFacts.{last_byte_decides, decided_append, stage_decides, stands_decided}
use Rattle.http_edge.proofs.deciding.RequestWatch.take.Goals as goal

pub returns-in-Body-2 : goal.returns-in-Body-2
returns-in-Body-2 c = λ bytes stands. record {
  stage = last_byte_decides bytes c.args.byte c.in-Body.missing c.if-missing-gt1.false
      (subst (IsStage bytes) (sym (λ i. (c.self.view_is i).stage) ∙ c.in-Body.is) stands.stage);
  kept = tt;
}

pub returns-in-Decided : goal.returns-in-Decided
returns-in-Decided c = λ bytes stands.
    let stage = sym (λ i. (c.self.view_is i).stage) ∙ c.in-Decided.is in
    stands_decided c.args.self.now (bytes ++ c.args.byte ∷ []) stage
    (decided_append bytes (c.args.byte ∷ []) (stage_decides bytes c.args.self.now.stage stage stands.stage))
