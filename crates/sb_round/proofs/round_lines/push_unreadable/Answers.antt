use Rattle.std.proofs.Common.{ℕ, List, ◌++◌, codes, ◌∙◌, ap, append_assoc}
use Rattle.sb_json.specs.Printed.{message_cause_text}
use Rattle.sb_round.proofs.round_lines.push_unreadable.Goals as goal

pub returns-clause-ok : goal.returns-clause-ok
returns-clause-ok c =
    c.in_ok-push_message_cause.ensures.ok
    ∙ ap (λ (text : List ℕ). text ++ message_cause_text c.args.fault.now) c.in_ok-append.ensures.ok
    ∙ append_assoc c.args.page.now (codes "unreadable ") (message_cause_text c.args.fault.now)
