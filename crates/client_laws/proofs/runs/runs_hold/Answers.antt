use Rattle.client_laws.proofs.Headline.{holds_of_runs}
use Rattle.client_laws.proofs.runs.runs_hold.Goals as goal

pub returns : goal.returns
returns c =
    holds_of_runs c.replicas_stay.ensures c.rounds_are_their_sessions.ensures c.logs_have_one_list_of_bodies.ensures
    c.cut_stores_are_not_read.ensures (λ text lists bytes reads. (c.read_texts_are_stores.ensures.kept text lists bytes reads, c.read_texts_are_stores.ensures.store text lists bytes reads))
    (λ a b same. (c.names_go_by_their_codes.ensures.same a b).0 same)
