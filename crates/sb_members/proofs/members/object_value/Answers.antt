use Rattle.std.proofs.Common.{◌∙◌, Some, ap}
use Rattle.serde_json.proofs.Views.{view-Object}
use Rattle.sb_members.proofs.Written.{object_stands}
use Rattle.sb_members.proofs.members.object_value.Goals as goal

pub returns-else-is_empty : goal.returns-else-is_empty
returns-else-is_empty c =
    ap Some (view-Object c.args.members) ∙ object_stands c.args.members.entries (λ e. cc (c.is_empty.ensures.1 e))
