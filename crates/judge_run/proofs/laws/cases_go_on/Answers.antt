use Rattle.judge_run.proofs.Cases.{none_judged, one_more_judged}
use Rattle.judge_run.proofs.laws.cases_go_on.Goals as goal

pub returns-clause-none : goal.returns-clause-none
returns-clause-none c = none_judged

pub returns-clause-one_more : goal.returns-clause-one_more
returns-clause-one_more c plan published finds mid finds' before between after lines all line one =
    one_more_judged plan published finds mid finds' before between after lines all line one c.traces_go_on.ensures.one_more
