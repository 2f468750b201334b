use Rattle.lookup_messages.proofs.Others.{request_without}
use Rattle.lookup_messages.proofs.laws.unknown_types_change_no_lookup.Goals as goal

pub returns : goal.returns
returns c = request_without
