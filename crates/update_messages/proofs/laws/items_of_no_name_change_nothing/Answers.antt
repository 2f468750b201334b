use Rattle.update_messages.proofs.Others.{request_without}
use Rattle.update_messages.proofs.laws.items_of_no_name_change_nothing.Goals as goal

pub returns : goal.returns
returns c = request_without
