use Rattle.std.proofs.Common.{refl}
use Rattle.list_versions.proofs.Starting.{draft_new}
use Rattle.list_versions.proofs.draft.Draft.new.Goals as goal

pub returns-clause-draft : goal.returns-clause-draft
returns-clause-draft c = draft_new _ c.new.ensures.items c.new-2.ensures.items refl
