use Rattle.std.proofs.Common.{◌≡◌, Some, List, ap, sym, subst, ◌∙◌}
use Rattle.client_line.specs.Lines.{LineView}
use Rattle.find_sessions.specs.Asking.{StopsAsking}
use Rattle.url_checker.specs.Looking.{IsOpenFind}
use Rattle.url_checker.specs.Resolving.{find_body_asked}
use Rattle.url_checker.specs.Several.{asked_find, MakesFindFor}
use Rattle.url_checker.specs.declared.findings.Hit.{Hit}
use Rattle.find_desk.specs.Desk.{DeskSeen, HasKeptDesk}
use Rattle.find_desk.proofs.Keeping.{asked_prefixes, has_ended, stops_ending}
use Rattle.find_desk.proofs.desk.FindDesk.end.Goals as goal

pub returns-in-Ok-clause-ended : goal.returns-in-Ok-clause-ended
returns-in-Ok-clause-ended g c start events has =
    let finds = c.self.inside.finds in
    let now : DeskSeen = record { kept = finds.cache; waits = finds.waits; opened = c.self.inside.opened } in
    let inside : now.opened ≡ Some c.in-Some.begun = sym c.take.ensures.value ∙ c.in-Some.is in
    let is : c.args.self.now.opened ≡ Some c.in-Some.begun = ap (λ (s : DeskSeen). s.opened) (sym c.self.view_is) ∙ inside in
    let find = c.in-Some.begun in
    let line' = g.N.Line.view c.end_find_for.new.line in
    rw (is, c.take.ensures.after) (has_ended c.traces_go_on.ensures.one_more c.args.target.now c.args.need_digest start events finds c.end_find_for.new.finds now.opened (g.N.Line.view c.args.line.now) line'
    find c.in-Ok.answer c.count_asked-prefixes.result c.begun_at-at.result inside
    (subst (λ (s : DeskSeen). HasKeptDesk c.args.target.now c.args.need_digest start events s (g.N.Line.view c.args.line.now)) (sym c.self.view_is) has)
    (subst (λ (asked : List Hit). (before : LineView) → IsOpenFind find.states c.args.target.now find.now asked finds.waits before (g.N.Line.view c.args.line.now) find.find
    → MakesFindFor (asked_find find.states c.args.target.now c.args.need_digest find.now asked) finds c.end_find_for.new.finds before.told line'.told c.in-Ok.answer) c.as_slice.ensures
    (λ before opened. c.in-Ok.ensures.made find.states c.args.target.now find.now before opened)))

pub returns-in-Ok-clause-told : goal.returns-in-Ok-clause-told
returns-in-Ok-clause-told g c =
    let is : c.args.self.now.opened ≡ Some c.in-Some.begun = ap (λ (s : DeskSeen). s.opened) (sym c.self.view_is) ∙ sym c.take.ensures.value ∙ c.in-Some.is in
    rw (is) (c.begun_at-at.ensures, c.count_asked-prefixes.ensures ∙ asked_prefixes c.args.target.now c.args.self.now (g.N.Line.view c.args.line.now) c.in-Some.begun is c.requires.session)

pub returns-clause-stopped : goal.returns-clause-stopped
returns-clause-stopped g c start events has =
    let finds = c.self.inside.finds in
    let now : DeskSeen = record { kept = finds.cache; waits = finds.waits; opened = c.self.inside.opened } in
    let inside : now.opened ≡ Some c.in-Some.begun = sym c.take.ensures.value ∙ c.in-Some.is in
    let is : c.args.self.now.opened ≡ Some c.in-Some.begun = ap (λ (s : DeskSeen). s.opened) (sym c.self.view_is) ∙ inside in
    let find = c.in-Some.begun in
    let line' = g.N.Line.view c.end_find_for.new.line in
    rw (is, c.forget.ensures, c.take.ensures.after, c.in-Err.ensures.waits_kept) (stops_ending c.traces_go_on.ensures.one_more c.args.target.now c.args.need_digest start events finds now.opened (g.N.Line.view c.args.line.now) line'
    find inside
    (subst (λ (s : DeskSeen). HasKeptDesk c.args.target.now c.args.need_digest start events s (g.N.Line.view c.args.line.now)) (sym c.self.view_is) has)
    (subst (λ (asked : List Hit). (before : LineView) → IsOpenFind find.states c.args.target.now find.now asked finds.waits before (g.N.Line.view c.args.line.now) find.find
    → StopsAsking finds.waits find.now c.args.target.now (find_body_asked find.states asked) before.told line'.told) c.as_slice.ensures
    (λ before opened. c.in-Err.ensures.stopped find.states c.args.target.now find.now before opened)))
