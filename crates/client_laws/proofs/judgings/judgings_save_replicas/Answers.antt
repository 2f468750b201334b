use Rattle.client_laws.proofs.Saving.{judgings_save}
use Rattle.client_laws.proofs.judgings.judgings_save_replicas.Goals as goal

pub returns : goal.returns
returns c =
    judgings_save c.rounds_are_their_sessions.ensures c.rounds_save_replicas.ensures c.cut_stores_are_not_read.ensures
    (λ text lists bytes reads. (c.read_texts_are_stores.ensures.kept text lists bytes reads, c.read_texts_are_stores.ensures.store text lists bytes reads))
