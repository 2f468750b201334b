-- The lists that were swept for an item of a request.
use Rattle.std.specs.Prelude.{All}
use Rattle.sb_model.specs.History.{History}
use Rattle.list_versions.specs.Stretches.{AreStretches}
use Rattle.delta_server.specs.declared.swept.Swept.{Swept}

-- each has the stretches of its list in this history
abbrev pub AreOf : History → Swept → Type 0
AreOf versions swept = All (λ list. AreStretches versions list.name list.stretches.items) swept.lists.items
