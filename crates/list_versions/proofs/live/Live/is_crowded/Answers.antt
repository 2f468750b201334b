use Rattle.list_versions.proofs.Crowds.{no_crowds}
use Rattle.list_versions.proofs.live.Live.is_crowded.Goals as goal

pub returns-then-self : goal.returns-then-self
returns-then-self c = λ alike. no_crowds c.args.self.now c.args.adds.now alike c.if-self.true

pub returns : goal.returns
returns c = λ alike. c.is_crowded_among.ensures
