use Rattle.hash_messages.specs.Reading.{ReadsFindResponse}
use Rattle.hash_messages.specs.Faults.{fault_of_find_response}
use Rattle.hash_messages.proofs.OneReading.{response_one}
use Rattle.hash_messages.proofs.NoFault.{response_clean}
use Rattle.hash_messages.proofs.Texts.{only_reading}
use Rattle.hash_messages.proofs.reading_response.read_matches.Goals as goal

pub returns-clause-only : goal.returns-clause-only
returns-clause-only c =
    only_reading ReadsFindResponse fault_of_find_response response_one response_clean c.args.text.now c.response_in.result c.response_in.ensures.ok c.response_in.ensures.err
