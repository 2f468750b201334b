use Rattle.std.proofs.Common.{List, ap, sym, ◌∙◌}
use Rattle.std.specs.Prelude.{count_by}
use Rattle.answering_lists.specs.Lists.{answered_names}
use Rattle.lookup_messages.specs.Lookups.{is_match, lists_looked_up}
use Rattle.lookup_messages.specs.declared.response.LookupMatch.{LookupMatch}
use Rattle.sb_lookup.specs.Lookups.{name_has_url}
use Rattle.sb_lookup.proofs.Served.{asked_alone, asked_distinct, matched, matched_alone, served}
use Rattle.sb_lookup.proofs.laws.served_lookups_match_full_hashes.Goals as goal

pub returns-clause-matches : goal.returns-clause-matches
returns-clause-matches c = λ history cache asked found.
    let law = c.lookups_match_what_is_asked.ensures.matches (name_has_url history) (answered_names history) cache asked found in
    (λ has. served history cache asked found (law.0 has), λ is. law.1 (matched c.answered_names_are_those_of_lists.ensures.names history cache asked found is))

pub returns-clause-count : goal.returns-clause-count
returns-clause-count c = λ history cache asked found is.
    ap (λ (matches : List LookupMatch). count_by (is_match found) matches) (sym (asked_alone (name_has_url history) (answered_names history) cache asked))
    ∙ c.lookups_match_what_is_asked.ensures.count (name_has_url history) (lists_looked_up (answered_names history) asked) cache asked found
    (asked_distinct c.answered_names_are_those_of_lists.ensures.order history asked) (matched_alone c.answered_names_are_those_of_lists.ensures.names history cache asked found is)
