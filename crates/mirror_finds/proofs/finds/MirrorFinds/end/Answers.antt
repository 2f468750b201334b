use Rattle.std.proofs.Common.{◌≡◌, Some, ap, sym, subst, ◌∙◌}
use Rattle.mirror_finds.specs.Finds.{FindsSeen, HasPassedFinds}
use Rattle.mirror_finds.proofs.PassedOn.{has_ended, has_stopped}
use Rattle.mirror_finds.proofs.finds.MirrorFinds.end.Goals as goal

pub returns-in-Ok-clause-ended : goal.returns-in-Ok-clause-ended
returns-in-Ok-clause-ended g c start finds has =
    let now : FindsSeen = record { waits = c.self.inside.waits; opened = c.self.inside.opened } in
    let inside : now.opened ≡ Some c.in-Some.find = sym c.take.ensures.value ∙ c.in-Some.is in
    let is : c.args.self.now.opened ≡ Some c.in-Some.find = ap (λ (s : FindsSeen). s.opened) (sym c.self.view_is) ∙ inside in
    rw (is, c.take.ensures.after) (has_ended c.traces_go_on.ensures.one_more c.args.target.now c.args.need_digest start finds now (g.N.Line.view c.args.line.now) (g.N.Line.view c.end_passed.new.line)
    c.in-Some.find c.end_passed.new.waits c.in-Ok.answer inside
    (subst (λ (s : FindsSeen). HasPassedFinds c.args.target.now c.args.need_digest start finds s (g.N.Line.view c.args.line.now)) (sym c.self.view_is) has)
    (λ before opened. c.in-Ok.ensures.passes c.in-Some.find.states c.args.target.now c.in-Some.find.now c.in-Some.find.asked before opened))

pub returns-clause-stopped : goal.returns-clause-stopped
returns-clause-stopped g c start finds has =
    let now : FindsSeen = record { waits = c.self.inside.waits; opened = c.self.inside.opened } in
    let inside : now.opened ≡ Some c.in-Some.find = sym c.take.ensures.value ∙ c.in-Some.is in
    let is : c.args.self.now.opened ≡ Some c.in-Some.find = ap (λ (s : FindsSeen). s.opened) (sym c.self.view_is) ∙ inside in
    rw (is, c.take.ensures.after, c.in-Err.ensures.waits_kept) (has_stopped c.traces_go_on.ensures.one_more c.args.target.now c.args.need_digest start finds now (g.N.Line.view c.args.line.now) (g.N.Line.view c.end_passed.new.line)
    c.in-Some.find inside
    (subst (λ (s : FindsSeen). HasPassedFinds c.args.target.now c.args.need_digest start finds s (g.N.Line.view c.args.line.now)) (sym c.self.view_is) has)
    (λ before opened. c.in-Err.ensures.stopped c.in-Some.find.states c.args.target.now c.in-Some.find.now c.in-Some.find.asked before opened))
