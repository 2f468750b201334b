use Rattle.hash_messages.specs.Writing.{find_request_written, spelling_of_find_request}
use Rattle.both_ends_laws.proofs.Finds.{finds_sparse}
use Rattle.both_ends_laws.proofs.Sparse.{clear_text}
use Rattle.both_ends_laws.proofs.density.finds_are_not_too_dense.Goals as goal

pub returns : goal.returns
unfolding spelling_of_find_request
returns c message few =
    let counted = c.written_texts_are_counted.ensures in
    clear_text counted.counts counted.clear (find_request_written message) (finds_sparse message few)
