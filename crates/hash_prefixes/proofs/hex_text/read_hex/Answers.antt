use Rattle.std.proofs.Common.{◌≡◌, ℕ, Some, Err, refl, sym, ap, ◌∙◌}
use Rattle.std.proofs.lemmas.Bool.{false≢true}
use Rattle.hash_prefixes.specs.declared.hex_text.HexFault.TheVariants.{Digit}
use Rattle.hash_prefixes.proofs.HexFacts.{decoded-Ok, decoded-Err, position-none}
use Rattle.hash_prefixes.proofs.hex_text.read_hex.Goals as goal

pub unreachable-requires : goal.unreachable-requires
unreachable-requires c =
    let bad = decoded-Err c.args.text.now c.decode_to_slice.new.out c.decode_to_slice.result c.in-Err.fault c.if-text-ne64.false c.in-Err.is c.decode_to_slice.ensures.value in
    c.in_default-fault.not-InvalidHexCharacter _ _ bad.named

pub returns-in_default-clause-succeeds : goal.returns-in_default-clause-succeeds
returns-in_default-clause-succeeds c =
    let digits = (decoded-Ok c.args.text.now c.decode_to_slice.new.out c.decode_to_slice.result c.in_default.field-0 c.if-text-ne64.false c.in_default.is c.decode_to_slice.ensures.value).1 in
    (λ _. (c.if-text-ne64.false, digits), λ _. refl)

pub returns-in_default-clause-digit : goal.returns-in_default-clause-digit
returns-in_default-clause-digit c at =
    let digits = (decoded-Ok c.args.text.now c.decode_to_slice.new.out c.decode_to_slice.result c.in_default.field-0 c.if-text-ne64.false c.in_default.is c.decode_to_slice.ensures.value).1 in
    (λ h. cc h, λ h. absurd (position-none c.args.text.now at digits h.1))

pub returns-clause-succeeds : goal.returns-clause-succeeds
returns-clause-succeeds c =
    let bad = decoded-Err c.args.text.now c.decode_to_slice.new.out c.decode_to_slice.result c.in-Err.fault c.if-text-ne64.false c.in-Err.is c.decode_to_slice.ensures.value in
    (λ h. absurd (false≢true h), λ h. absurd (false≢true (sym bad.no_digit ∙ h.1 bad.place 0 bad.within)))

pub returns-clause-digit : goal.returns-clause-digit
returns-clause-digit c at =
    let bad = decoded-Err c.args.text.now c.decode_to_slice.new.out c.decode_to_slice.result c.in-Err.fault c.if-text-ne64.false c.in-Err.is c.decode_to_slice.ensures.value in
    let place : c.in-InvalidHexCharacter.index ≡ bad.place = cc (sym c.in-InvalidHexCharacter.is ∙ bad.named) in (
      λ h. let same : c.in-InvalidHexCharacter.index ≡ at = cc h in (c.if-text-ne64.false, bad.first ∙ ap Some (sym place ∙ same)),
      λ h. let same : bad.place ≡ at = cc (sym bad.first ∙ h.1) in ap (λ (n : ℕ). Err (Digit n)) (place ∙ same),
    )
