use Rattle.std.proofs.Common.{◌≡◌, take}
use Rattle.url_checker.proofs.request.set_members.Given as goal

abbrev pub invariant-loop-place : goal.invariant-loop-place
invariant-loop-place l = l.members ≡ take l.place l.set
