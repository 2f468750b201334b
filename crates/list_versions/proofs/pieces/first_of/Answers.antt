use Rattle.list_versions.proofs.Beginning.{kept_begun, kept_bad, kept_long}
use Rattle.list_versions.proofs.Ending.{ends_line}
use Rattle.list_versions.proofs.pieces.first_of.Goals as goal

pub returns-in-Err-clause-bad : goal.returns-in-Err-clause-bad
returns-in-Err-clause-bad c = kept_long c.args.text.now c.in-Err.ensures.long

pub returns-in_default-clause-bad : goal.returns-in_default-clause-bad
returns-in_default-clause-bad c = kept_bad c.args.text.now _ _ (rw c.in-Ok-Some.field-0-is at c.in-Ok-Some.ensures.whole) c.in_default.ensures

pub returns-clause-back : goal.returns-clause-back
returns-clause-back c = ends_line c.args.text.now _ _ (rw c.in-Ok-Some.field-0-is at c.in-Ok-Some.ensures.whole)

pub returns-clause-begun : goal.returns-clause-begun
returns-clause-begun c = kept_begun c.args.text.now _ _ c.in-Some.header (rw c.in-Ok-Some.field-0-is at c.in-Ok-Some.ensures.whole) c.in-Some.ensures
