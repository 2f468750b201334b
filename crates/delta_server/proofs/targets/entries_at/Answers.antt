use Rattle.std.proofs.lemmas.Result.{IfOk-weaker}
use Rattle.sb_model.specs.History.{sizes_at}
use Rattle.delta_server.proofs.SameFacts.{apart_of, folded_same}
use Rattle.delta_server.proofs.targets.entries_at.Goals as goal

pub returns-clause-same : goal.returns-clause-same
returns-clause-same c =
    IfOk-weaker c.entries.result _ _
    (λ entries listed. folded_same c.in_ok-folding.folding entries.items (sizes_at c.args.history.now.versions c.args.list c.args.version) listed c.in_ok-folding.ensures.map)
    c.entries.ensures.map

pub returns-clause-apart : goal.returns-clause-apart
returns-clause-apart c =
    IfOk-weaker c.entries.result _ _ (λ entries once. apart_of entries.items once) c.entries.ensures.once
