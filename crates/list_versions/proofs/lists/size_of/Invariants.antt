use Rattle.std.proofs.Common.{◌≡◌, drop}
use Rattle.std.specs.Prelude.{ℕ, find}
use Rattle.sb_model.specs.declared.names.ListName.{ListName}
use Rattle.sb_model.specs.Names.{same_name}
use Rattle.list_versions.specs.Draft.{declared_of}
use Rattle.list_versions.proofs.lists.size_of.Given as goal

abbrev pub invariant-loop-listed : goal.invariant-loop-listed
invariant-loop-listed l = find (λ (list : ListName × ℕ). same_name list.0 l.name) (declared_of (drop l.listed-index l.lists)) ≡ find (λ (list : ListName × ℕ). same_name list.0 l.name) (declared_of l.lists)
