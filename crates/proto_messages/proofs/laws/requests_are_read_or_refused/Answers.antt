use Rattle.proto_messages.specs.Fetch.{fetch_of}
use Rattle.proto_messages.specs.Find.{find_of}
use Rattle.proto_messages.proofs.LawFacts.{both, either}
use Rattle.proto_messages.proofs.laws.requests_are_read_or_refused.Goals as goal

pub returns-clause-fetch : goal.returns-clause-fetch
returns-clause-fetch c = λ text. either (fetch_of text)

pub returns-clause-no_fetch : goal.returns-clause-no_fetch
returns-clause-no_fetch c = λ text message fault p q. both (fetch_of text) message fault p q

pub returns-clause-find : goal.returns-clause-find
returns-clause-find c = λ text. either (find_of text)

pub returns-clause-no_find : goal.returns-clause-no_find
returns-clause-no_find c = λ text message fault p q. both (find_of text) message fault p q
