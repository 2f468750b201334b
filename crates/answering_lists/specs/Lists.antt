-- Which list answers for a name that a request asks.
use Rattle.std.specs.Prelude.{◌&&◌, Bool, not, if◌then◌else◌, List, filter, Option, Some, None, is_some}
use Rattle.sb_model.specs.declared.names.ListName.{ListName}
use Rattle.sb_model.specs.declared.names.PlatformType.TheVariants as platform
use Rattle.sb_model.specs.History.{History, declares}
use Rattle.hash_messages.specs.Matches.{all_names}

-- the name of the same threat and the same entries, for any platform
abbrev pub for_any_platform : ListName → ListName
for_any_platform name = record name { platform = platform.AnyPlatform }

-- The list that answers for a name: its own if that is declared, else that for any platform if that is declared, and else none.
abbrev pub answering : History → ListName → Option ListName
answering history name =
    if declares history name then Some name
    else if declares history (for_any_platform name) then Some (for_any_platform name)
    else None

-- whether a list answers for a name
abbrev pub is_answered : History → ListName → Bool
is_answered history name = is_some (answering history name)

-- whether the list for any platform answers for a name in place of its own
abbrev pub is_answered_for_any : History → ListName → Bool
is_answered_for_any history name = not (declares history name) && declares history (for_any_platform name)

-- the names for which a list answers, in the order of names
abbrev pub answered_names : History → List ListName
answered_names history = filter (is_answered history) all_names
