use Rattle.std.proofs.Common.{refl}
use Rattle.http_serving.specs.Serving.{IsConnectionUntouched}
use Rattle.http_serving.proofs.Entries.{entry_untouched, returned}
use Rattle.http_serving.proofs.serving.give_back.Goals as goal

pub returns-clause-untouched : goal.returns-clause-untouched
returns-clause-untouched g c = λ pieces fresh.
    returned IsConnectionUntouched _ _ _ _ _ _ _ _ _ refl c.done.ensures.entry
    (λ entry is. entry_untouched entry pieces _ _ _ _ _ fresh is)
