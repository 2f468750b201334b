use Rattle.proto_messages.proofs.LawFacts.{fetch_others, find_others}
use Rattle.proto_messages.proofs.laws.other_fields_change_nothing.Goals as goal

pub returns-clause-fetch : goal.returns-clause-fetch
returns-clause-fetch c = λ text other fields others a b is.
    let read = c.bytes_read_one_way.ensures.fields in
    fetch_others text other fields others ((read text fields).1 a) ((read other others).1 b) is

pub returns-clause-find : goal.returns-clause-find
returns-clause-find c = λ text other fields others a b is.
    let read = c.bytes_read_one_way.ensures.fields in
    find_others text other fields others ((read text fields).1 a) ((read other others).1 b) is
