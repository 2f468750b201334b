use Rattle.lookup_messages.proofs.AskedMatches.{matches_asked, asked_matches}
use Rattle.lookup_messages.proofs.Counts.{as_often_as_asked}
use Rattle.lookup_messages.proofs.laws.lookups_match_what_is_asked.Goals as goal

pub returns-clause-matches : goal.returns-clause-matches
returns-clause-matches c has lists cache asked found = (matches_asked has lists cache asked found, asked_matches has lists cache asked found)

pub returns-clause-count : goal.returns-clause-count
returns-clause-count c = as_often_as_asked
