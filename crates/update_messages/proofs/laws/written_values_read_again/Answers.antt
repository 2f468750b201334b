use Rattle.update_messages.proofs.Depths as depths
use Rattle.update_messages.proofs.RequestAgain.{request_again}
use Rattle.update_messages.proofs.ResponseAgain.{response_again}
use Rattle.update_messages.proofs.laws.written_values_read_again.Goals as goal

pub returns-clause-request : goal.returns-clause-request
returns-clause-request c = request_again c.written_members_read_again.ensures

pub returns-clause-response : goal.returns-clause-response
returns-clause-response c = response_again c.written_members_read_again.ensures

pub returns-clause-request_depth : goal.returns-clause-request_depth
returns-clause-request_depth c = depths.request_depth c.members_are_as_their_values.ensures.depths

pub returns-clause-response_depth : goal.returns-clause-response_depth
returns-clause-response_depth c = depths.response_depth c.members_are_as_their_values.ensures.depths
