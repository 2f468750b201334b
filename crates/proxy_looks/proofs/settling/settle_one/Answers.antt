use Rattle.std.proofs.Common.{◌≡◌, List, Some, None, sym, ap, ◌∙◌}
use Rattle.std.specs.Option.{option_copied}
use Rattle.url_checker.specs.declared.findings.Hit.{Hit}
use Rattle.proxy_looks.proofs.OneUrl.{asked_open, decided_closed, err_says, no_verdict, none_open, one_settled, one_stays}
use Rattle.proxy_looks.proofs.settling.settle_one.Goals as goal

pub returns-in_default-clause-settled : goal.returns-in_default-clause-settled
returns-in_default-clause-settled c target need start events line by others has asked =
    one_stays target need start events c.args.now by c.args.asked.now c.args.one c.args.looks.now c.args.desk.now line
    (none_open c.args.one.hits c.args.one.verdict c.in_default.is) has

pub returns-then-is_some-clause-settled : goal.returns-then-is_some-clause-settled
returns-then-is_some-clause-settled c target need start events line by others has asked =
    one_stays target need start events c.args.now by c.args.asked.now c.args.one c.args.looks.now c.args.desk.now line
    (decided_closed c.args.one.hits c.args.one.verdict (sym c.is_some.ensures ∙ c.if-is_some.true)) has

pub returns-in_err-verdict-clause-stopped : goal.returns-in_err-verdict-clause-stopped
returns-in_err-verdict-clause-stopped c target need start events line by others has asked =
    let found = c.as_slice.result.now in
    let is : c.args.one.hits ≡ Some found = c.in-Some.is ∙ ap (λ (hits : List Hit). Some hits) (sym c.as_slice.ensures) in
    let none : c.args.one.verdict ≡ None = no_verdict c.args.one.verdict (sym c.is_some.ensures ∙ c.if-is_some.false) in
    err_says c.from_residual.result _
    (c.in_err-verdict.ensures.stopped target need start events line by others has
    (asked_open start events c.args.one.hits c.args.one.verdict found others c.args.asked.now (option_copied c.args.ended) by is none asked))

pub returns-clause-settled : goal.returns-clause-settled
returns-clause-settled c target need start events line by others has asked =
    let found = c.as_slice.result.now in
    let is : c.args.one.hits ≡ Some found = c.in-Some.is ∙ ap (λ (hits : List Hit). Some hits) (sym c.as_slice.ensures) in
    let none : c.args.one.verdict ≡ None = no_verdict c.args.one.verdict (sym c.is_some.ensures ∙ c.if-is_some.false) in
    one_settled target need start events c.args.now by c.args.asked.now c.args.one found c.in_ok-verdict.verdict c.args.looks.now c.settle_hits.new.looks c.settle_hits.new.desk line is none
    (c.in_ok-verdict.ensures.settled target need start events line by others has
    (asked_open start events c.args.one.hits c.args.one.verdict found others c.args.asked.now (option_copied c.args.ended) by is none asked))
