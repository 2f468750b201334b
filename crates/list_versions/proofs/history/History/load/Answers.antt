use Rattle.std.proofs.Common.{ap}
use Rattle.sb_model.specs.History.{History}
use Rattle.list_versions.specs.Journal.{kept_of}
use Rattle.list_versions.proofs.Further.{further_of, leads_begun, stops_after, journal_fault}
use Rattle.list_versions.proofs.Renewed.{all_renewed}
use Rattle.list_versions.proofs.history.History.load.Goals as goal

pub returns-clause-outcome : goal.returns-clause-outcome
returns-clause-outcome g c =
    let leads = leads_begun c.in-Ok-read_first.first.0 c.new-draft.result c.in-Ok-read_first.first.1 _ _ c.new-draft.ensures.sized c.new-draft.ensures.history c.in-Ok-read_first.ensures.ok in
    let stops = stops_after kept_of (further_of c.new-draft.result c.in-Ok-read_first.first.1) c.in-Err-read_more.fault _ _ _ leads c.in-Err-read_more.ensures.fault in
    (stops.given, stops.ended, stops.gives, journal_fault stops.given stops.ended c.in-Err-read_more.fault stops.why)

pub of-requires-clause-newest : goal.of-requires-clause-newest
of-requires-clause-newest g c =
    all_renewed c.new-draft.result c.read_more.new.draft c.in-Ok-read_more.more.newest.items (ap (λ (v : History). v.declared) c.new-draft.ensures.history) c.in-Ok-read_more.ensures.newest
