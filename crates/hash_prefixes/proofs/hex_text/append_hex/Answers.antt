use Rattle.std.proofs.Common.{◌≡◌, ◌++◌, sym, ◌∙◌, arith}
use Rattle.std.proofs.lemmas.List.{take-append-drop}
use Rattle.hex.specs.Hex.{IsBytes}
use Rattle.hex.proofs.HexLemmas.{decode_of-encode_lower}
use Rattle.hash_prefixes.proofs.HexFacts.{IsWritten-more, IsWritten-end, on_ok_at_ok}
use Rattle.hash_prefixes.proofs.hex_text.append_hex.Goals as goal

pub loop-rest-preserved : goal.loop-rest-preserved
loop-rest-preserved c =
    let split : c.split_at.result.0.now ++ c.split_at.result.1.now ≡ c.loop-rest.rest.now
    = rw (c.split_at.ensures.front, c.split_at.ensures.back) (take-append-drop c.min.result c.loop-rest.rest.now) in
    IsWritten-more c.args.out.now c.loop-rest.out c.args.bytes.now c.loop-rest.rest.now c.split_at.result.0.now c.split_at.result.1.now
    c.append_piece.new.out c.loop-rest.invariant split (on_ok_at_ok c.append_piece.result (sym c.is_err.ensures.value ∙ c.if-is_err.false) c.append_piece.ensures.ok)

pub returns-clause-ok : goal.returns-clause-ok
returns-clause-ok c =
    IsWritten-end c.args.out.now c.loop-rest.out c.args.bytes.now c.loop-rest.rest.now c.loop-rest.invariant
    (sym c.is_empty.ensures ∙ c.loop-rest-test.false)

pub returns-clause-read_again : goal.returns-clause-read_again
returns-clause-read_again c =
    let bytes : IsBytes c.args.bytes.now = λ i. let fits = c.type_inv.bytes i in omega arith in
    decode_of-encode_lower c.args.bytes.now bytes
