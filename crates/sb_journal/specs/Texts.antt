-- The text of records.
use Rattle.std.specs.Prelude.{ℕ, Bool, List}
use Rattle.std.specs.List.{flat_map}
use Rattle.sb_model.specs.declared.history.Change.{Change}
use Rattle.list_versions.specs.Written.{change_text}

-- Each line that puts in names its size, or none does.
abbrev pub records_text : Bool → List Change → List ℕ
records_text sized changes = flat_map (change_text sized) changes
