use Rattle.hash_messages.proofs.Others.{request_without}
use Rattle.hash_messages.proofs.laws.unknown_types_change_nothing.Goals as goal

pub returns : goal.returns
returns c = request_without
