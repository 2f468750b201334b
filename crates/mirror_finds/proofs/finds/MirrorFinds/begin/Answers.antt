use Rattle.std.proofs.Common.{◌≡◌, ap, subst}
use Rattle.wait_rules.specs.declared.waits.WaitState.{WaitState}
use Rattle.find_sessions.specs.Asking.{StopsAsking}
use Rattle.find_sessions.specs.Passing.{passed_body}
use Rattle.mirror_finds.specs.Finds.{FindsSeen}
use Rattle.mirror_finds.proofs.PassedOn.{err_says, has_broken_off}
use Rattle.mirror_finds.proofs.finds.MirrorFinds.begin.Goals as goal

pub returns-in_err-opening-clause-broken_off : goal.returns-in_err-opening-clause-broken_off
returns-in_err-opening-clause-broken_off g c need start finds has =
    let line = g.N.Line.view c.now-now.new.self in
    let line' = g.N.Line.view c.begin_passed.new.line in
    let same : c.self.inside.waits ≡ c.args.self.now.waits = ap (λ (s : FindsSeen). s.waits) c.self.view_is in
    let stops : StopsAsking c.args.self.now.waits c.now-now.result c.args.target.now (passed_body c.args.states c.args.asked) line.told line'.told =
    subst (λ (waits : WaitState). StopsAsking waits c.now-now.result c.args.target.now (passed_body c.args.states c.args.asked) line.told line'.told) same c.in_err-opening.ensures.stopped in
    err_says c.from_residual.result _ (
      c.now-now.result,
      has_broken_off c.traces_go_on.ensures.one_more c.args.target.now need start finds c.args.self.now (g.N.Line.view c.args.line.now)
          line line' c.args.states c.args.asked c.now-now.result c.requires.closed has c.now-now.ensures stops,
    )
