use Rattle.std.proofs.Common.{◌++◌, ap, sym, ◌∙◌}
use Rattle.url_canon.proofs.Runs.{run_turn, run_end, run_stops}
use Rattle.url_canon.proofs.escape.append_escaped.Goals as goal

pub push_escape-requires : goal.push_escape-requires
push_escape-requires c = (run_stops c.loop-place.rest.now c.in-Some.place (sym c.in-Some.ensures.value)).1

pub loop-place-preserved : goal.loop-place-preserved
loop-place-preserved c =
    run_turn c.loop-place.out c.append.new.self c.push_escape.new.out c.loop-place.rest.now _ c.in-Some.place c.in-Some.ensures.value c.in_ok-append.ensures.ok c.in_ok-push_escape.ensures c.loop-place.invariant

pub returns : goal.returns
returns c =
    c.in_ok-append-2.ensures.ok ∙ (ap (λ r. c.loop-place.out ++ r) (sym (run_end c.loop-place.rest.now (sym c.in_default.ensures.value))) ∙ c.loop-place.invariant)
