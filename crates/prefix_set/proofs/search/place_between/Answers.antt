use Rattle.std.proofs.Common.{arith, ◌≤◌, length}
use Rattle.prefix_set.proofs.SearchFacts.{place_found, place_missed_by_test}
use Rattle.prefix_set.proofs.search.place_between.Goals as goal

pub returns-then-stands_at-clause-place : goal.returns-then-stands_at-clause-place
returns-then-stands_at-clause-place c =
    place_found c.args.members.now c.args.prefix.now _ c.requires.rising c.first_not_before-index.ensures.below (c.stands_at.ensures.here.0 c.if-stands_at.true)

pub returns-else-stands_at-clause-place : goal.returns-else-stands_at-clause-place
returns-else-stands_at-clause-place c =
    let inside : c.first_not_before-index.result ≤ length c.args.members.now = omega arith in
    place_missed_by_test c.args.members.now c.args.prefix.now c.first_not_before-index.result c.stands_at.result c.requires.rising inside
    c.first_not_before-index.ensures.below c.first_not_before-index.ensures.above c.stands_at.ensures.here c.if-stands_at.false
