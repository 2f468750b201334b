use Rattle.lookup_messages.proofs.OneReading.{request_one, response_one}
use Rattle.lookup_messages.proofs.laws.lookup_values_read_one_way.Goals as goal

pub returns-clause-request : goal.returns-clause-request
returns-clause-request c = request_one

pub returns-clause-response : goal.returns-clause-response
returns-clause-response c = response_one
