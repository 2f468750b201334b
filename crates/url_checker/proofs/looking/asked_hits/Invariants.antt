use Rattle.std.proofs.Common.{◌≡◌, take}
use Rattle.url_checker.specs.Looking.{asked_in}
use Rattle.url_checker.proofs.looking.asked_hits.Given as goal

abbrev pub invariant-loop-one : goal.invariant-loop-one
invariant-loop-one l = l.asked ≡ asked_in (take l.one-index l.looked)
