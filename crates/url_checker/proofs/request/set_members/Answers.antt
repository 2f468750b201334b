use Rattle.std.proofs.Common.{◌<◌, length, arith}
use Rattle.url_checker.proofs.TypeFacts.{taken_more}
use Rattle.url_checker.proofs.request.set_members.Goals as goal

pub loop-place-preserved : goal.loop-place-preserved
loop-place-preserved c =
    let below : c.loop-place.place < length c.args.set.now = omega arith in
    taken_more c.args.set.now c.loop-place.place c.at.result c.loop-place.members c.push.new.self below c.at.ensures c.loop-place.invariant c.in_ok-push.ensures.ok
