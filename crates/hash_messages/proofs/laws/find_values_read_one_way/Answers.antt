use Rattle.hash_messages.proofs.OneReading.{request_one, response_one}
use Rattle.hash_messages.proofs.laws.find_values_read_one_way.Goals as goal

pub returns-clause-request : goal.returns-clause-request
returns-clause-request c = request_one

pub returns-clause-response : goal.returns-clause-response
returns-clause-response c = response_one
