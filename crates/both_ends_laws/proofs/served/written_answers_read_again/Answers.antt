use Rattle.both_ends_laws.proofs.Responses.{answers_read_again}
use Rattle.both_ends_laws.proofs.served.written_answers_read_again.Goals as goal

pub returns : goal.returns
returns c = answers_read_again c.written_values_read_again.ensures.response c.written_values_read_again.ensures.response_depth c.fetch_answers_are_not_too_dense.ensures
