use Rattle.std.proofs.Common.{◌≡◌, ℕ, List, false, ap, ◌∙◌}
use Rattle.std.specs.Prelude.{Ok}
use Rattle.list_versions.specs.Journal.{kept_of}
use Rattle.list_versions.specs.Written.{journal_text, wholly}
use Rattle.generated_load.specs.Exercise.{HasRoom}
use Rattle.generated_load.specs.Generated.{generated}
use Rattle.generated_load.proofs.Asked.{if_ok}
use Rattle.generated_load.proofs.Told.{has_journal, has_sizes}
use Rattle.generated_load.proofs.journals.generated_journal.Goals as goal

pub returns-clause-reads : goal.returns-clause-reads
returns-clause-reads c =
    let count = c.args.count in
    let seed = c.args.seed in
    let history = generated count seed in
    if_ok (λ (text : List ℕ). text ≡ journal_text false history) (λ (text : List ℕ). HasRoom count seed → kept_of text ≡ Ok (wholly false history)) c.journal_page.result
    (λ text is room. ap kept_of is
    ∙ c.journals_read_as_written.ensures.plain history (has_journal count seed room.few c.ranges.seed.fits room.within) (has_sizes count seed)) c.journal_page.ensures
