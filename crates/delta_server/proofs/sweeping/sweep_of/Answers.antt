use Rattle.std.proofs.Common.{◌≡◌, ◌+◌, ◌<◌, ◌^◌, ◌∷◌, ◌++◌, ℕ, List, [], length, take, drop, get_or, sym, subst, arith}
use Rattle.std.proofs.lemmas.List.{length-take}
use Rattle.list_versions.specs.declared.stretch.Stretch.{Stretch}
use Rattle.list_versions.specs.Stretches.{AreInOrder}
use Rattle.delta_server.specs.Sweeping.{shown_at, HasSwept, NameFourBytes}
use Rattle.delta_server.proofs.SweepFacts.{split_at, pushed_at}
use Rattle.delta_server.proofs.sweeping.sweep_of.Goals as goal

pub loop-stretch-init : goal.loop-stretch-init
loop-stretch-init c = record {
  room = c.in_ok-sweep.ensures.room;
  swept = c.in_ok-sweep.ensures.swept (shown_at c.args.stretches.now c.args.first);
}

pub loop-stretch-preserved : goal.loop-stretch-preserved
loop-stretch-preserved c =
    let stretches : List Stretch = c.args.stretches.now in
    let i : ℕ = c.loop-stretch.stretch-index in
    let first : ℕ = c.args.first in
    let end : ℕ = c.args.end in
    let none : Stretch = record { head = 0; from = 0; until = 0 } in
    let s : Stretch = get_or stretches i none in
    let done : List Stretch = take i stretches in
    let rest : List Stretch = drop (i + 1) stretches in
    let whole : done ++ s ∷ rest ≡ stretches = split_at stretches i none c.loop-stretch-test.true in
    let few : length done < 2 ^ 63 = omega (arith, length-take i stretches, c.loop-stretch-test.true) in
    record {
      room = c.take.ensures.room;
      swept =
          subst (λ (ds : List Stretch). HasSwept c.take.new.self first end (shown_at stretches first) ds) (pushed_at stretches i none c.loop-stretch-test.true)
          (subst (λ (ss : List Stretch). HasSwept c.take.new.self first end (shown_at ss first) (done ++ s ∷ [])) whole
          (c.take.ensures.swept done rest c.requires.some few (subst AreInOrder (sym whole) c.requires.order) (subst NameFourBytes (sym whole) c.requires.heads)
          (subst (λ (ss : List Stretch). HasSwept c.loop-stretch.sweep first end (shown_at ss first) done) (sym whole) c.loop-stretch.invariant.swept)));
    }
