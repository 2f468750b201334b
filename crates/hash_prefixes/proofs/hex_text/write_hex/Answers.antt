use Rattle.std.proofs.Common.{◌≡◌, arith}
use Rattle.std.specs.String.{string_bytes}
use Rattle.std.proofs.lemmas.Result.{IfOk-at_ok}
use Rattle.hex.specs.Hex.{IsBytes, encode_lower, lower_digits}
use Rattle.hex.proofs.HexLemmas.{decode_of-encode_lower, length-encode_with}
use Rattle.hash_prefixes.proofs.hex_text.write_hex.Goals as goal

pub returns-clause-read_again : goal.returns-clause-read_again
returns-clause-read_again c =
    let bytes : IsBytes c.args.bytes.now = λ i. let fits = c.type_inv.bytes i in omega arith in
    let text : string_bytes c.in_ok-encode.field-0 ≡ encode_lower c.args.bytes.now = IfOk-at_ok _ c.in_ok-encode.was c.encode.ensures in
    rw (c.from_vec.ensures, c.into_bytes.ensures.value, text) (decode_of-encode_lower c.args.bytes.now bytes)

pub returns-clause-length : goal.returns-clause-length
returns-clause-length c =
    let text : string_bytes c.in_ok-encode.field-0 ≡ encode_lower c.args.bytes.now = IfOk-at_ok _ c.in_ok-encode.was c.encode.ensures in
    rw (c.from_vec.ensures, c.into_bytes.ensures.value, text) (length-encode_with lower_digits c.args.bytes.now)
