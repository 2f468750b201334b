-- The lists that a client begins with.
use Rattle.std.specs.Prelude.{List, map, unwrap_or, if◌then◌else◌}
use Rattle.sb_model.specs.declared.names.ListName.{ListName}
use Rattle.sb_model.specs.Names.{same_name}
use Rattle.update_client.specs.Held.{Held, nothing_held, in_order}
use Rattle.update_client.specs.Step.{list_named}

-- the stored list of a name, or one of which nothing was installed yet
abbrev pub stored_or_nothing : List Held → ListName → Held
stored_or_nothing stored name = unwrap_or (list_named name stored) (nothing_held name)

-- one list for each name, in the order of the names
abbrev pub selected : List Held → List ListName → List Held
selected stored names = map (stored_or_nothing stored) (in_order names)

-- the lists, with one in place of that of its name
abbrev pub with_list_replaced : Held → List Held → List Held
with_list_replaced held lists = map (λ own. if same_name own.name held.name then held else own) lists
