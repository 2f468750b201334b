use Rattle.hash_messages.specs.Reading.{ReadsFindRequest}
use Rattle.hash_messages.specs.Faults.{fault_of_find_request}
use Rattle.hash_messages.proofs.OneReading.{request_one}
use Rattle.hash_messages.proofs.NoFault.{request_clean}
use Rattle.hash_messages.proofs.Texts.{only_reading}
use Rattle.hash_messages.proofs.reading_request.read_find.Goals as goal

pub returns-clause-only : goal.returns-clause-only
returns-clause-only c =
    only_reading ReadsFindRequest fault_of_find_request request_one request_clean c.args.text.now c.request_in.result c.request_in.ensures.ok c.request_in.ensures.err
