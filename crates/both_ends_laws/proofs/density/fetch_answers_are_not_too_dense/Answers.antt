use Rattle.update_messages.specs.Answer.{fetch_answer}
use Rattle.update_messages.specs.Writing.{response_written, spelling_of_response}
use Rattle.both_ends_laws.proofs.SparseAnswers.{fetch_answers_sparse}
use Rattle.both_ends_laws.proofs.Sparse.{clear_text}
use Rattle.both_ends_laws.proofs.density.fetch_answers_are_not_too_dense.Goals as goal

pub returns : goal.returns
unfolding spelling_of_response
returns c history token_at wait request few =
    let counted = c.written_texts_are_counted.ensures in
    clear_text counted.counts counted.clear (response_written (fetch_answer history token_at wait request)) (fetch_answers_sparse history token_at wait request few)
