use Rattle.std.proofs.Common.{length}
use Rattle.sb_service.proofs.in_proto.+push_answered.Given as goal

abbrev pub decreases-push_answered : goal.decreases-push_answered
decreases-push_answered l = length l.items.now
