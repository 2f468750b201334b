use Rattle.std.proofs.Common.{◌∙◌, take}
use Rattle.list_versions.proofs.Single.{map_after}
use Rattle.list_versions.proofs.older.folding_at.Goals as goal

pub returns : goal.returns
returns c = map_after c.folding_of.result c.args.list (take c.args.version c.args.draft.now.changes.items) c.as_slice.result.now (c.as_slice.ensures.value ∙ c.in_ok-entries.ensures) c.folding_of.ensures
