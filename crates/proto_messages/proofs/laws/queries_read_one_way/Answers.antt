use Rattle.proto_messages.proofs.QueryFacts.{one_message}
use Rattle.proto_messages.proofs.laws.queries_read_one_way.Goals as goal

pub returns : goal.returns
returns c = one_message
