use Rattle.std.proofs.Common.{◌≡◌, ◌∙◌, ap, inr, refl}
use Rattle.sb_service.specs.Printed.{Reply}
use Rattle.sb_service.proofs.Fronts.{front_of}
use Rattle.sb_service.proofs.answer.print.Goals as goal

pub returns-in-Err-clause-written : goal.returns-in-Err-clause-written
returns-in-Err-clause-written g c =
    let cut = c.in-Err.ensures.err in
    let same : c.as_slice.result.now ≡ c.args.reply.now.text = c.as_slice.ensures ∙ ap (λ (r : Reply). r.text) c.reply.view_is in
    inr (record { ends = refl; front = front_of _ _ cut.0 _ c.args.reply.now.text same cut.1 cut.2 })
