use Rattle.sb_json.proofs.Encodings.{encoded_back}
use Rattle.sb_json.proofs.laws.encoded_bytes_read_again.Goals as goal

pub returns : goal.returns
returns c = encoded_back
