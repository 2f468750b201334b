-- The numbers of names, as the published messages of version 4 have them: those of platforms and of entries are the codes of list names,
-- and so are those of threats, but for one that browsers use beside another.
use Rattle.std.specs.Prelude.{ℕ, ◌==◌, ◌||◌, if◌then◌else◌, Bool, List, Option, Some, find, unwrap_or}
use Rattle.sb_model.specs.declared.names.ThreatType.{ThreatType}
use Rattle.sb_model.specs.declared.names.ThreatType.TheVariants as threat
use Rattle.sb_model.specs.declared.names.ListName.{ListName}
use Rattle.sb_model.specs.Names.{threat_with_code, platform_with_code, entry_with_code}
use Rattle.update_messages.specs.RequestRows.{name_of_types}

-- the number by which browsers ask for SOCIAL_ENGINEERING too
abbrev pub other_social : ℕ
other_social = 5

-- the threat type that a number names, if there is one
unfoldable pub threat_numbered : ℕ → Option ThreatType
threat_numbered number = if number == other_social then Some threat.SocialEngineering else threat_with_code number

-- the name of a list that three numbers name, if there is one
abbrev pub name_numbered : ℕ → ℕ → ℕ → Option ListName
name_numbered threat platform entry = name_of_types (threat_numbered threat) (platform_with_code platform) (entry_with_code entry)

-- whether a number names SOCIAL_ENGINEERING
abbrev pub is_social : ℕ → Bool
is_social number = number == 2 || number == other_social

-- the first of some numbers that names SOCIAL_ENGINEERING, and its own code if there is none
abbrev pub social_among : List ℕ → ℕ
social_among numbers = unwrap_or (find is_social numbers) 2

-- the numbers of the compressions
abbrev pub raw_number : ℕ
raw_number = 1

abbrev pub rice_number : ℕ
rice_number = 2
