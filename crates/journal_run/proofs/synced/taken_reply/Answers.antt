use Rattle.std.proofs.Common.{Ok, ◌∙◌, ap, sym}
use Rattle.list_versions.specs.Journal.{read_on}
use Rattle.journal_run.proofs.TakenRecords.{these_alone}
use Rattle.journal_run.proofs.synced.taken_reply.Goals as goal

pub returns-in-Ok-clause-taken : goal.returns-in-Ok-clause-taken
returns-in-Ok-clause-taken c = λ zero changes is follow sizes.
    let read = ap (read_on c.args.history) (sym (c.as_slice.ensures ∙ is)) ∙ c.in-Ok.ensures.ok in
    read ∙ ap Ok (these_alone c.records_are_read_as_their_changes.ensures.sized c.records_are_read_as_their_changes.ensures.plain c.records_wait_for_their_turn.ensures c.args.history _ changes
    c.rest_len.ensures.waits follow sizes read)
