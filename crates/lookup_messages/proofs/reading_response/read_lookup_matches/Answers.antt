use Rattle.lookup_messages.specs.Reading.{ReadsLookupResponse}
use Rattle.lookup_messages.specs.Faults.{fault_of_lookup_response}
use Rattle.lookup_messages.proofs.OneReading.{response_one}
use Rattle.lookup_messages.proofs.NoFault.{response_clean}
use Rattle.lookup_messages.proofs.Texts.{only_reading}
use Rattle.lookup_messages.proofs.reading_response.read_lookup_matches.Goals as goal

pub returns-clause-only : goal.returns-clause-only
returns-clause-only c =
    only_reading ReadsLookupResponse fault_of_lookup_response response_one response_clean c.args.text.now c.response_in.result c.response_in.ensures.ok c.response_in.ensures.err
