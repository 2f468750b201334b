use Rattle.update_messages.specs.Reading.{ReadsResponse}
use Rattle.update_messages.specs.Faults.{fault_of_response}
use Rattle.update_messages.proofs.OneReading.{response_one}
use Rattle.update_messages.proofs.NoFault.{response_clean}
use Rattle.update_messages.proofs.Texts.{only_reading}
use Rattle.update_messages.proofs.reading_response.read_response.Goals as goal

pub returns-clause-only : goal.returns-clause-only
returns-clause-only c =
    only_reading ReadsResponse fault_of_response response_one response_clean c.args.text.now c.response_in.result c.response_in.ensures.ok c.response_in.ensures.err
