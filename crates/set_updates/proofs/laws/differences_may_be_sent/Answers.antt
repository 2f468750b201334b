use Rattle.set_updates.proofs.UpdateFacts.{may_be_sent}
use Rattle.set_updates.proofs.laws.differences_may_be_sent.Goals as goal

pub returns : goal.returns
returns c = λ delta old newer removals additions few less.
    may_be_sent delta old newer (c.sent_numbers_rise.ensures.places old newer) removals additions few less
