use Rattle.std.proofs.Common.{◌≡◌, ℕ, List, ◌++◌, ◌∙◌, ap, append_assoc, codes}
use Rattle.std.proofs.lemmas.Result.{on_ok_weaker}
use Rattle.update_client.specs.Printed.{token_text}
use Rattle.update_client.proofs.printing.push_tokens.Goals as goal

-- four texts, one after the other
four : (page p q r s a b d e : List ℕ) → p ≡ page ++ a → q ≡ p ++ b → r ≡ q ++ d → s ≡ r ++ e → s ≡ page ++ (((a ++ b) ++ d) ++ e)
four page p q r s a b d e first second third last =
    last
    ∙ ap (λ text. text ++ e) (third ∙ ap (λ text. text ++ d) (second ∙ ap (λ text. text ++ b) first))
    ∙ simp append_assoc

pub returns-clause-ok : goal.returns-clause-ok
returns-clause-ok c =
    on_ok_weaker c.push_token-2.result
    (λ last. four c.args.page.now c.append.new.self c.push_token.new.page c.append-2.new.self c.push_token-2.new.page (codes "stale-base ") (token_text c.args.held.now) (codes " ")
    (token_text c.args.given.now) c.in_ok-append.ensures.ok c.in_ok-push_token.ensures.ok c.in_ok-append-2.ensures.ok last)
    c.push_token-2.ensures.ok
