use Rattle.lookup_messages.specs.Reading.{ReadsLookup}
use Rattle.lookup_messages.specs.Faults.{fault_of_lookup}
use Rattle.lookup_messages.proofs.OneReading.{request_one}
use Rattle.lookup_messages.proofs.NoFault.{request_clean}
use Rattle.lookup_messages.proofs.Texts.{only_reading}
use Rattle.lookup_messages.proofs.reading_request.read_lookup.Goals as goal

pub returns-clause-only : goal.returns-clause-only
returns-clause-only c =
    only_reading ReadsLookup fault_of_lookup request_one request_clean c.args.text.now c.request_in.result c.request_in.ensures.ok c.request_in.ensures.err
