use Rattle.std.proofs.Common.{None, map, sym, ap, ◌∙◌}
use Rattle.url_checker.specs.Resolving.{makes_find, hits_asked, unsafe_lists, looked_up_pairs}
use Rattle.url_checker.specs.Looking.{looked_of}
use Rattle.url_checker.proofs.FindFacts.{on_err}
use Rattle.url_checker.proofs.ResolveFacts.{resolved_if, unasked, broken_off, broken_if}
use Rattle.url_checker.proofs.resolving.resolve.Goals as goal

pub returns-then-is_made-clause-resolves : goal.returns-then-is_made-clause-resolves
returns-then-is_made-clause-resolves g c =
    resolved_if c.args.states.now c.args.patience c.args.target.now c.args.need_digest c.args.finding.now.hits c.args.finds.now c.now-now.result _ _ c.now-now.ensures
    c.in_ok-looks.looks c.look.new.cache _ _ c.find.result
    (c.in_ok-looks.ensures.asked ∙ ap (hits_asked c.args.finds.now.cache c.now-now.result) c.as_slice.ensures) (c.in_ok-looks.ensures.told ∙ ap (unsafe_lists c.args.finds.now.cache c.now-now.result None) c.as_slice.ensures) (c.in_ok-looks.ensures.looked ∙ ap (map (looked_of c.args.finds.now.cache c.now-now.result)) c.as_slice.ensures) (c.in_ok-looks.ensures.pairs ∙ ap (looked_up_pairs c.args.finds.now.cache) c.as_slice.ensures)
    (ap (makes_find c.args.finds.now.waits c.args.patience c.now-now.result) (sym c.as_slice-2.ensures) ∙ sym c.is_made.ensures ∙ c.if-is_made.true)
    c.find.ensures.made

pub returns-then-is_made-clause-stopped : goal.returns-then-is_made-clause-stopped
returns-then-is_made-clause-stopped g c =
    broken_if c.args.states.now c.args.patience c.args.target.now c.args.need_digest c.args.finding.now.hits c.args.finds.now c.now-now.result _ _ c.now-now.ensures
    c.in_ok-looks.looks.asked _ c.find.result (c.in_ok-looks.ensures.asked ∙ ap (hits_asked c.args.finds.now.cache c.now-now.result) c.as_slice.ensures) c.find.ensures.stopped

pub returns-in_err-looks-clause-stopped : goal.returns-in_err-looks-clause-stopped
returns-in_err-looks-clause-stopped g c =
    on_err _ c.from_residual.result
    (broken_off c.args.states.now c.args.patience c.args.target.now c.args.need_digest c.args.finding.now.hits c.args.finds.now c.now-now.result _ _ c.now-now.ensures)

pub returns-clause-resolves : goal.returns-clause-resolves
returns-clause-resolves g c =
    unasked c.args.states.now c.args.patience c.args.target.now c.args.need_digest c.args.finding.now.hits c.args.finds.now c.now-now.result _ _ c.now-now.ensures
    c.in_ok-looks.looks.asked c.in_ok-looks.looks.told c.look.new.cache c.unasked.result
    (c.in_ok-looks.ensures.asked ∙ ap (hits_asked c.args.finds.now.cache c.now-now.result) c.as_slice.ensures) (c.in_ok-looks.ensures.told ∙ ap (unsafe_lists c.args.finds.now.cache c.now-now.result None) c.as_slice.ensures) (c.in_ok-looks.ensures.pairs ∙ ap (looked_up_pairs c.args.finds.now.cache) c.as_slice.ensures)
    (ap (makes_find c.args.finds.now.waits c.args.patience c.now-now.result) (sym c.as_slice-2.ensures) ∙ sym c.is_made.ensures ∙ c.if-is_made.false)
    c.unasked.ensures
