use Rattle.std.proofs.Common.{List, ap, subst}
use Rattle.url_checker.specs.Several.{AreTogether}
use Rattle.url_checker.specs.declared.looking.Looks.{Looks}
use Rattle.url_checker.specs.declared.several.Together.{Together}
use Rattle.wait_rules.specs.declared.waits.WaitState.{WaitState}
use Rattle.find_desk.specs.Desk.{BreaksOffAsking, DeskSeen}
use Rattle.find_desk.proofs.Keeping.{err_says, stops_beginning}
use Rattle.find_desk.proofs.desk.FindDesk.begin.Goals as goal

pub returns-in_err-count-clause-stopped : goal.returns-in_err-count-clause-stopped
returns-in_err-count-clause-stopped g c need start events has =
    let line = g.N.Line.view c.args.line.now in
    let line' = g.N.Line.view c.begin_asking.new.line in
    err_says c.from_residual.result _
    (stops_beginning c.traces_go_on.ensures.one_more c.args.target.now need start events c.args.self.now line line'
    c.args.states c.args.looks.now c.requires.closed has
    (subst (λ (waits : WaitState). BreaksOffAsking c.args.target.now waits c.args.states c.args.looks.now line line') (ap (λ (s : DeskSeen). s.waits) c.self.view_is) c.in_err-count.ensures.stopped))

pub returns-clause-some : goal.returns-clause-some
returns-clause-some g c look looks' is few =
    let together : Together = record { count = c.in_ok-count.field-0.count; asked = c.in_ok-count.field-0.find.asked } in
    c.finds_for_several_begin_with_one.ensures.first looks' look together few (subst (λ (looks : List Looks). AreTogether looks together) is c.in_ok-count.ensures.asks)
