use Rattle.update_messages.specs.Writing.{request_written, spelling_of_request}
use Rattle.both_ends_laws.proofs.Fetches.{requests_sparse}
use Rattle.both_ends_laws.proofs.Sparse.{clear_text}
use Rattle.both_ends_laws.proofs.density.fetch_requests_are_not_too_dense.Goals as goal

pub returns : goal.returns
unfolding spelling_of_request
returns c message few =
    let counted = c.written_texts_are_counted.ensures in
    clear_text counted.counts counted.clear (request_written message) (requests_sparse message few)
