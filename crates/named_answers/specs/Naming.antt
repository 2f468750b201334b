-- Steps of the answers under asked names.
use Rattle.std.specs.Prelude.{◌≡◌, Bool, List, [], ◌∷◌, ◌++◌, map, filter, Option, option_map}
use Rattle.std.specs.Option.{option_map_or}
use Rattle.sb_model.specs.declared.names.ListName.{ListName}
use Rattle.sb_model.specs.declared.names.PlatformType.TheVariants as platform
use Rattle.sb_model.specs.History.{History}
use Rattle.sb_model.specs.Names.{same_name}
use Rattle.answering_lists.specs.Lists.{answering}
use Rattle.update_messages.specs.Messages.{AskedList, UpdatedList}
use Rattle.hash_messages.specs.Messages.{AskedHashes}
use Rattle.hash_messages.specs.declared.response.Match.{Match}
use Rattle.named_answers.specs.Answers.{asked_of_list, under_name}

-- ---- updates

-- the same item of the list that answers for it, if there is one
abbrev pub item_of_answering : History → AskedList → Option AskedList
item_of_answering history asked = option_map (λ list. asked_of_list list asked) (answering history asked.name)

-- the name of an item for which a list answers
abbrev pub name_if_answered : History → AskedList → Option ListName
name_if_answered history asked = option_map (λ list. asked.name) (answering history asked.name)

-- updates one by one under these names
abbrev pub under_names : List ListName → List UpdatedList → List UpdatedList
under_names [] updates = []
under_names (name ∷ names) [] = []
under_names (name ∷ names) (update ∷ updates) = under_name name update ∷ under_names names updates

-- ---- matches

-- a request for the same hashes that asks for any platform too
pub record AsksForAnyToo (asked wider : AskedHashes) : Type 0 where
  pub threats : wider.threats ≡ asked.threats
  pub platforms : wider.platforms ≡ asked.platforms ++ platform.AnyPlatform ∷ []
  pub entries : wider.entries ≡ asked.entries
  pub prefixes : wider.prefixes ≡ asked.prefixes

-- a match under another name
abbrev pub match_under : ListName → Match → Match
match_under name found = record found { name = name }

-- whether a match is one of a list
abbrev pub is_match_in : ListName → Match → Bool
is_match_in list found = same_name found.name list

-- those matches that are of a list, under a name
abbrev pub matches_of_list : List Match → ListName → ListName → List Match
matches_of_list found name list = map (match_under name) (filter (is_match_in list) found)

-- those matches that are of the list that answers for a name, under that name
abbrev pub matches_under : History → List Match → ListName → List Match
matches_under history found name = option_map_or (matches_of_list found name) (answering history name) []
