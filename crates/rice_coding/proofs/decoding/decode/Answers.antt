use Rattle.rice_coding.proofs.DecodeFacts.{decoded_ok, decoded_err, is_decoded, fault_decoded, only_values, only_fault}
use Rattle.rice_coding.proofs.decoding.decode.Goals as goal

pub returns-clause-exact : goal.returns-clause-exact
returns-clause-exact c =
    let reader = c.in_ok-reader.reader in
    decoded_ok c.read_all.result _ c.in_ok-values.values reader.values reader.fault c.read_all.ensures.values c.in_ok-values.ensures c.read_all.ensures.whole c.in_ok-reader.ensures.decoding

pub returns-clause-exact_fault : goal.returns-clause-exact_fault
returns-clause-exact_fault c =
    let reader = c.in_ok-reader.reader in
    decoded_err c.read_all.result _ reader.values reader.fault c.read_all.ensures.fault c.in_ok-reader.ensures.decoding

pub returns-clause-only : goal.returns-clause-only
returns-clause-only c = λ values is within.
    only_values c.read_all.result _ values (returns-clause-exact c) (returns-clause-exact_fault c) (is_decoded c.args.coding.now c.args.limit values is within)

pub returns-clause-only_fault : goal.returns-clause-only_fault
returns-clause-only_fault c = λ fault is.
    only_fault c.read_all.result _ fault (returns-clause-exact c) (returns-clause-exact_fault c) (fault_decoded c.args.coding.now c.args.limit fault is)
