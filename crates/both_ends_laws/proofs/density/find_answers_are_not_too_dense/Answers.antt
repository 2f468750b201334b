use Rattle.std.proofs.Common.{◌≡◌, length}
use Rattle.std.proofs.lemmas.List.Elements.{recursion_from_All}
use Rattle.hash_messages.specs.Matches.{find_answer}
use Rattle.hash_messages.specs.Writing.{find_response_written, spelling_of_find_response}
use Rattle.hash_messages.specs.declared.response.Match.{Match}
use Rattle.both_ends_laws.proofs.Hashes.{answer_whole}
use Rattle.both_ends_laws.proofs.Matches.{answers_sparse}
use Rattle.both_ends_laws.proofs.Sparse.{clear_text}
use Rattle.both_ends_laws.proofs.density.find_answers_are_not_too_dense.Goals as goal

pub returns-clause-any : goal.returns-clause-any
unfolding spelling_of_find_response
returns-clause-any c message sizes =
    let counted = c.written_texts_are_counted.ensures in
    clear_text counted.counts counted.clear (find_response_written message)
    (answers_sparse message (recursion_from_All (λ (found : Match). length found.hash.bytes ≡ 32) message.matches sizes))

pub returns-clause-answered : goal.returns-clause-answered
unfolding spelling_of_find_response
returns-clause-answered c history wait cache negative asked formed =
    let counted = c.written_texts_are_counted.ensures in
    let answer = find_answer history wait cache negative asked in
    clear_text counted.counts counted.clear (find_response_written answer) (answers_sparse answer (answer_whole history formed cache asked))
