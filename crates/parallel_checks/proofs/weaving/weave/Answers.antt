use Rattle.std.proofs.Common.{◌≡◌, ℕ, ◌+◌, ◌*◌, ◌/◌, ◌%◌, ◌<◌, List, length, set, sym, ap, subst, arith}
use Rattle.std.proofs.lemmas.Nat.{mod_below}
use Rattle.std.proofs.Math.Nat.{div-add-mod'}
use Rattle.url_checker.specs.declared.findings.Checked.{Checked}
use Rattle.parallel_checks.proofs.WeaveFacts.{Taken, still_there, one_more_taken}
use Rattle.parallel_checks.proofs.weaving.weave.Goals as goal

pub take_at-check-requires : goal.take_at-check-requires
take_at-check-requires c =
    let index : ℕ = c.loop-index.index in let step : ℕ = c.len-step.result in let rows = c.args.rows in
    let many : step ≡ length rows = c.len-step.ensures in
    let is : index ≡ index % step + (index / step) * length rows = omega (arith, div-add-mod' index step, ap (λ (n : ℕ). (index / step) * n) many) in
    let within : index % step < length rows = omega (arith, mod_below index step (omega (arith, many, c.requires.some)), many) in
    still_there rows c.loop-index.rows c.loop-index.woven c.args.count index (index % step) (index / step) c.at_mut.result.now c.loop-index.invariant c.requires.long (omega arith) is within c.at_mut.ensures.value

pub loop-index-preserved : goal.loop-index-preserved
loop-index-preserved c =
    let index : ℕ = c.loop-index.index in let step : ℕ = c.len-step.result in let rows = c.args.rows in
    let many : step ≡ length rows = c.len-step.ensures in
    let is : index ≡ index % step + (index / step) * length rows = omega (arith, div-add-mod' index step, ap (λ (n : ℕ). (index / step) * n) many) in
    let within : index % step < length rows = omega (arith, mod_below index step (omega (arith, many, c.requires.some)), many) in
    subst (λ (l : List Checked). Taken rows (set c.loop-index.rows (index % step) c.take_at-check.new.row) l (index + 1)) (sym c.in_ok-push.ensures.ok)
    (one_more_taken rows c.loop-index.rows c.loop-index.woven index (index % step) (index / step) c.take_at-check.result c.at_mut.result.now c.take_at-check.new.row
    c.loop-index.invariant is within c.at_mut.ensures.value c.take_at-check.ensures.taken c.take_at-check.ensures.others)
