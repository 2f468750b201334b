use Rattle.rice_coding.proofs.DecodeFacts.{decoded_is, is_decoded, fault_is, fault_decoded, never_memory}
use Rattle.rice_coding.proofs.laws.decoding_goes_by_the_record.Goals as goal

pub returns : goal.returns
returns c = record {
  values = λ coding limit values. (decoded_is coding limit values, λ is. is_decoded coding limit values is.0 is.1);
  fault = λ coding limit fault. (fault_is coding limit fault, fault_decoded coding limit fault);
  no_memory = never_memory;
}
