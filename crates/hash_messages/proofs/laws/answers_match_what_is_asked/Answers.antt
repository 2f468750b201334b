use Rattle.hash_messages.proofs.AskedMatches.{lists_rise, hashes_rise, matches_asked, asked_matches}
use Rattle.hash_messages.proofs.laws.answers_match_what_is_asked.Goals as goal

pub returns-clause-lists : goal.returns-clause-lists
returns-clause-lists c = lists_rise

pub returns-clause-hashes : goal.returns-clause-hashes
returns-clause-hashes c = hashes_rise

pub returns-clause-matches : goal.returns-clause-matches
returns-clause-matches c history cache asked found = (matches_asked history cache asked found, asked_matches history cache asked found)
