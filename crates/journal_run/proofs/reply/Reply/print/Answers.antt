use Rattle.std.proofs.Common.{◌≡◌, ◌∙◌, ap, inr, refl}
use Rattle.journal_run.specs.Written.{Reply}
use Rattle.journal_run.proofs.Fronts.{front_of}
use Rattle.journal_run.proofs.reply.Reply.print.Goals as goal

pub returns-in-Err-clause-written : goal.returns-in-Err-clause-written
returns-in-Err-clause-written g c =
    let cut = c.in-Err.ensures.err in
    let same : c.as_slice.result.now ≡ c.args.self.now.text = c.as_slice.ensures ∙ ap (λ (r : Reply). r.text) c.self.view_is in
    inr (record { ends = refl; front = front_of _ _ cut.0 _ c.args.self.now.text same cut.1 cut.2 })
