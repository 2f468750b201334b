use Rattle.std.proofs.Common.{◌≡◌, ◌∙◌, ◌++◌, ◌∷◌, [], Bool, true, ap, sym, subst}
use Rattle.std.specs.Prelude.{if◌then◌else◌}
use Rattle.http_serving.specs.Kept.{is_kept_in, HasKept, KeptPart}
use Rattle.http_serving.proofs.Rooms.{came}
use Rattle.http_serving.proofs.kept.KeptPart.keep.Goals as goal

pub returns-clause-kept : goal.returns-clause-kept
returns-clause-kept g c =
    let old = c.self.inside.answers.items in
    let room = c.self.inside.room in
    let pushed : c.push.new.self.items ≡ old ++ c.args.answer ∷ []
    = c.push.ensures.items ∙ ap (λ (b : Bool). if b then old ++ c.args.answer ∷ [] else old) (c.if-is_err.ensures.negation) in
    subst (λ (before : KeptPart _). HasKept c.args.answer before (record { answers = c.let_go-self-inside.new.answers.items; room = room })) c.self.view_is
    (came c.args.answer (record { answers = old; room = room }) c.push.new.self.items c.let_go-self-inside.new.answers.items
    (subst (λ (before : KeptPart _). is_kept_in c.args.answer before.room ≡ true) (sym c.self.view_is) (sym c.is_keeping.ensures ∙ c.if-not-is_keeping.false)) pushed c.let_go-self-inside.ensures.left)
