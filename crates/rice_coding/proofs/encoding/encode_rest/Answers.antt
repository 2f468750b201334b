use Rattle.std.proofs.Common.{◌≡◌, ◌<◌, ℕ, ◌∷◌, List, length, sym, ap, ◌∙◌, arith}
use Rattle.std.proofs.lemmas.Bool.Decides.{nat_tests}
use Rattle.std.proofs.lemmas.List.{nil_from_length}
use Rattle.rice_coding.specs.Codes.{differences}
use Rattle.rice_coding.specs.Encoding.{encoding_of}
use Rattle.rice_coding.proofs.EncodeFacts.{record_with, encoding_is, encoding_single, parameter_of_some, length-differences}
use Rattle.rice_coding.proofs.encoding.encode_rest.Goals as goal

pub returns-then-is_empty : goal.returns-then-is_empty
returns-then-is_empty c =
    let first = c.args.first in
    let none : length c.args.rest.now ≡ 0 = grind (arith, nat_tests, c.if-is_empty.ensures) in
    ap (λ (n : ℕ). record_with n 0 0 c.new.result) c.from.ensures
    ∙ encoding_single first c.new.result c.new.ensures
    ∙ ap (λ (rest : List ℕ). encoding_of (first ∷ rest)) (sym (nil_from_length c.args.rest.now none))

pub returns : goal.returns
returns c =
    let first = c.args.first in
    let rest = c.args.rest.now in
    let k = c.best_parameter-best.result.parameter in
    let coded = c.in_ok-write_codes.field-0 in
    let more : 0 < length rest = grind (arith, nat_tests, c.if-is_empty.ensures) in
    let some : 0 < length (differences first rest) = omega (arith, length-differences first rest) in
    ap (λ (n : ℕ). record_with n k (length rest) coded) c.from-2.ensures
    ∙ encoding_is first k rest coded (parameter_of_some (differences first rest) k some c.best_parameter-best.ensures.best) c.in_ok-write_codes.ensures
