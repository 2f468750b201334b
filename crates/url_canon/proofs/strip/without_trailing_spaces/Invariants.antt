use Rattle.std.proofs.Common.{◌≡◌, ◌≤◌, length, take}
use Rattle.url_canon.specs.Words.{without_trailing}
use Rattle.url_canon.specs.Cleaning.{is_space}
use Rattle.url_canon.proofs.strip.without_trailing_spaces.Given as goal

abbrev pub invariant-loop-end : goal.invariant-loop-end
invariant-loop-end l = (l.end ≤ length l.text) × (without_trailing is_space (take l.end l.text) ≡ without_trailing is_space l.text)

abbrev pub decreases-loop-end : goal.decreases-loop-end
decreases-loop-end l = l.end
