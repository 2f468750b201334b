use Rattle.std.proofs.Common.{◌≡◌, take}
use Rattle.std.specs.Option.{option_copied}
use Rattle.url_checker.specs.Looking.{unsafe_in}
use Rattle.url_checker.proofs.looking.unsafe_hits.Given as goal

abbrev pub invariant-loop-one : goal.invariant-loop-one
invariant-loop-one l = l.hits ≡ unsafe_in (option_copied l.message) (take l.one-index l.looked)
