use Rattle.std.proofs.Common.{◌∙◌, sym}
use Rattle.sb_json.proofs.Encodings.{encoded_stays}
use Rattle.sb_json.proofs.encoded.base64_bytes.Goals as goal

pub returns-in-Some : goal.returns-in-Some
returns-in-Some c =
    sym c.in-Some.is ∙ c.in_ok-bytes.ensures.bytes
    ∙ encoded_stays c.args.text.now c.in-Some.bytes (rw c.in-Some.is at c.in_ok-bytes.ensures.exact)
