use Rattle.std.proofs.Common.{◌≡◌, [], length, sym, subst, ap, ◌∙◌, arith}
use Rattle.std.specs.Prelude.{IfOk}
use Rattle.rice_coding.specs.declared.record.RiceRecord.{RiceRecord}
use Rattle.rice_coding.specs.Encoding.{encoding_of, StandsForOnly, HasBestParameter, HasZerosAfter}
use Rattle.rice_coding.specs.Rice.{AreInRange, IsRiceRecordOf}
use Rattle.rice_coding.proofs.BitFacts.{if_ok_then}
use Rattle.rice_coding.proofs.EncodeFacts.{encoding_laws, in_range, first_and_rest}
use Rattle.rice_coding.proofs.encoding.encode.Goals as goal

pub returns : goal.returns
returns c =
    let values = c.args.values.now in
    let fits : AreInRange values = in_range values (λ i. omega (arith, c.type_inv.values i)) in
    let laws = encoding_laws values c.requires.some c.requires.rising fits in
    let exact : IfOk c.encode_rest.result (λ coding. coding ≡ encoding_of values) =
    if_ok_then c.encode_rest.result c.encode_rest.ensures (λ coding is. is ∙ ap encoding_of (first_and_rest values c.requires.some)) in
    let so : (P : RiceRecord → Type 0) → P (encoding_of values) → IfOk c.encode_rest.result P = λ P law. if_ok_then c.encode_rest.result exact (λ coding is. subst P (sym is) law) in
    record {
      exact = exact;
      stands = so (λ coding. IsRiceRecordOf coding values) laws.0;
      alone = so (λ coding. StandsForOnly coding values) laws.1;
      parameter = so (λ coding. HasBestParameter coding values) laws.2;
      single = so (λ coding. length values ≡ 1 → (coding.parameter ≡ 0) × (coding.coded ≡ [])) laws.3;
      free = so (λ coding. HasZerosAfter coding values) laws.4;
    }
