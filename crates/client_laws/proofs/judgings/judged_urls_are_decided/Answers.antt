use Rattle.std.proofs.Common.{List, subst, sym}
use Rattle.verdict_report.specs.declared.verdicts.Judged.{Judged}
use Rattle.client_laws.specs.Complete.{AreComplete}
use Rattle.client_laws.proofs.Complete.{are_complete}
use Rattle.client_laws.proofs.judgings.judged_urls_are_decided.Goals as goal

pub returns : goal.returns
returns c plan published finds finds' before after lines all judges =
    subst (λ (one : List Judged). AreComplete plan published finds judges.cases one) (sym judges.judged_are)
    (are_complete c.resolutions_are_complete.ensures plan published finds lines judges.cases judges.are)
