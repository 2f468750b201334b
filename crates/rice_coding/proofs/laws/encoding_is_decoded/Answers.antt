use Rattle.rice_coding.proofs.DecodeFacts.{encoding_decoded}
use Rattle.rice_coding.proofs.laws.encoding_is_decoded.Goals as goal

pub returns : goal.returns
returns c = encoding_decoded
