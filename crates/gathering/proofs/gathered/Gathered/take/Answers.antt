use Rattle.gathering.proofs.gathered.Gathered.take.Goals as goal

pub invariant_of-self-2 : goal.invariant_of-self-2
invariant_of-self-2 c = rw (c.in_ok-append.ensures.ok) (c.feed.ensures c.self.inside.bytes c.self.invariant)
