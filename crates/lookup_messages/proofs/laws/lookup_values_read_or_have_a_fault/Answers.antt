use Rattle.lookup_messages.proofs.NoFault.{request_clean, response_clean}
use Rattle.lookup_messages.proofs.Existence.{request_there, response_there}
use Rattle.lookup_messages.proofs.laws.lookup_values_read_or_have_a_fault.Goals as goal

pub returns-clause-request : goal.returns-clause-request
returns-clause-request c value = (λ h. request_clean value h.0 h.1, request_there value)

pub returns-clause-response : goal.returns-clause-response
returns-clause-response c value = (λ h. response_clean value h.0 h.1, response_there value)
