use Rattle.std.proofs.Common.{◌∙◌, ◌++◌, ◌∷◌, [], sym, ap, cond}
use Rattle.list_versions.proofs.lookup.push_begun.Goals as goal

pub returns-in_ok-push-clause-value : goal.returns-in_ok-push-clause-value
returns-in_ok-push-clause-value c =
    c.in_ok-push.ensures.items ∙ ap (λ h. c.args.found.now.items ++ h ∷ []) c.whole_of.ensures ∙ ap (λ b. c.args.found.now.items ++ cond b (c.args.entry.now.hash ∷ []) []) (sym (sym c.is_begun.ensures ∙ c.if-is_begun.true))
