use Rattle.sb_service.proofs.ConnectionFacts.{one_response}
use Rattle.sb_service.proofs.connection.ListServerAnswers.have_one_answer.Goals as goal

pub returns : goal.returns
returns c = λ before after place request.
    one_response (record { updates = c.values_read_one_way.ensures.request; hashes = c.find_values_read_one_way.ensures.request; lookups = c.lookup_values_read_one_way.ensures.request })
    c.queries_read_one_way.ensures
    before.versions before.times place request
