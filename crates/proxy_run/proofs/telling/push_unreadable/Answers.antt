use Rattle.std.proofs.Common.{ℕ, List, ◌++◌, codes, ◌∙◌, ap, append_assoc}
use Rattle.sb_json.specs.Printed.{message_cause_text}
use Rattle.proxy_run.proofs.telling.push_unreadable.Goals as goal

pub returns : goal.returns
returns c =
    c.in_ok-push_message_cause.ensures.ok
    ∙ ap (λ (text : List ℕ). text ++ message_cause_text c.args.fault.now) c.in_ok-append.ensures.ok
    ∙ append_assoc c.args.page.now (codes "unreadable ") (message_cause_text c.args.fault.now)
