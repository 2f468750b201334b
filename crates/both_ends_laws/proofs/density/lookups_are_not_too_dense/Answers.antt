use Rattle.lookup_messages.specs.Writing.{lookup_written, spelling_of_lookup}
use Rattle.both_ends_laws.proofs.Lookups.{lookups_sparse}
use Rattle.both_ends_laws.proofs.Sparse.{clear_text}
use Rattle.both_ends_laws.proofs.density.lookups_are_not_too_dense.Goals as goal

pub returns : goal.returns
unfolding spelling_of_lookup
returns c message few =
    let counted = c.written_texts_are_counted.ensures in
    clear_text counted.counts counted.clear (lookup_written message) (lookups_sparse message few)
