-- The state tokens of a server: 20 bytes for each version of each list.
use Rattle.std.specs.Prelude.{ℕ, List, [], ◌∷◌, ◌++◌}
use Rattle.std.specs.Int.{w64, to_be_bytes}
use Rattle.sb_model.specs.declared.names.ListName.{ListName}
use Rattle.sb_model.specs.Names.{threat_code, platform_code, entry_code}
use Rattle.sb_model.specs.History.{History}
use Rattle.sb_model.specs.Naming.{Naming}

-- the three codes of a list
abbrev pub codes_of : ListName → List ℕ
codes_of list = threat_code list.threat ∷ platform_code list.platform ∷ entry_code list.entry ∷ []

-- the byte 1, the epoch and the version in 8 bytes each, the highest byte first, and the codes of the list
unfoldable pub server_token : ℕ → ListName → ℕ → List ℕ
server_token epoch list version = (1 ∷ to_be_bytes w64 epoch) ++ to_be_bytes w64 version ++ codes_of list

-- the naming of the versions of a history
abbrev pub server_naming : History → Naming
server_naming history list version = server_token history.epoch list version
