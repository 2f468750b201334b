use Rattle.std.proofs.Common.{Err, ap}
use Rattle.update_run.proofs.Saves.{reads_again, saved_one, failed_one}
use Rattle.update_run.proofs.saving.hand_in.Goals as goal

pub returns-in-Ok-clause-saved : goal.returns-in-Ok-clause-saved
returns-in-Ok-clause-saved g c =
    saved_one c.args.lists.now c.in_ok-text.text c.as_slice.result.now _ _ c.as_slice.ensures c.in_ok-text.ensures.text
    (reads_again _ _ c.in_ok-text.ensures.text c.in_ok-text.ensures.read_again c.in_ok-text.ensures.bytes)
    (c.in-Ok.ensures.handed (λ e. cc)) c.in-Ok.ensures.ok

pub returns-in-Err-Failed-clause-fails : goal.returns-in-Err-Failed-clause-fails
returns-in-Err-Failed-clause-fails g c =
    let is = c.in-Err-Failed.field-0-is in λ _.
    failed_one c.args.lists.now c.in_ok-text.text c.as_slice.result.now _ _ c.as_slice.ensures c.in_ok-text.ensures.text
    (reads_again _ _ c.in_ok-text.ensures.text c.in_ok-text.ensures.read_again c.in_ok-text.ensures.bytes)
    (c.in-Err-Failed.ensures.handed (λ e. cc)) (c.in-Err-Failed.ensures.torn (ap Err is))
