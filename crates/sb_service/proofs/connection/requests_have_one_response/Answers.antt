use Rattle.sb_service.specs.Connection.{list_routes}
use Rattle.sb_service.proofs.ConnectionFacts.{first_fault_told, lists_told}
use Rattle.sb_service.proofs.connection.requests_have_one_response.Goals as goal

pub returns-clause-one : goal.returns-clause-one
returns-clause-one c = λ history times request.
    c.requests_have_one_answer.ensures (record { versions = history; times = times }) (record { versions = history; times = times }) request

pub returns-clause-whole : goal.returns-clause-whole
returns-clause-whole c = λ history times bytes request.
    c.answers_follow_requests.ensures (record { versions = history; times = times }) (record { versions = history; times = times }) bytes request

pub returns-clause-told : goal.returns-clause-told
returns-clause-told c = λ history times request. first_fault_told (c.requests_ask_for_one_thing.ensures list_routes) history times request

pub returns-clause-lists : goal.returns-clause-lists
returns-clause-lists c = λ history times request. lists_told (c.requests_ask_for_one_thing.ensures list_routes) history times request
