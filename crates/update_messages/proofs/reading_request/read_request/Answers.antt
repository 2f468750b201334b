use Rattle.update_messages.specs.Reading.{ReadsRequest}
use Rattle.update_messages.specs.Faults.{fault_of_request}
use Rattle.update_messages.proofs.OneReading.{request_one}
use Rattle.update_messages.proofs.NoFault.{request_clean}
use Rattle.update_messages.proofs.Texts.{only_reading}
use Rattle.update_messages.proofs.reading_request.read_request.Goals as goal

pub returns-clause-only : goal.returns-clause-only
returns-clause-only c =
    only_reading ReadsRequest fault_of_request request_one request_clean c.args.text.now c.request_in.result c.request_in.ensures.ok c.request_in.ensures.err
