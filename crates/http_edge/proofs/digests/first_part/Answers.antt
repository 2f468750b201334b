use Rattle.std.proofs.Common.{ℕ, List, ◌∷◌, ◌+◌, ◌∙◌, sym, ap, length, take, eqb, arith, length-drop}
use Rattle.std.specs.List.{slice_split}
use Rattle.std.proofs.lemmas.List.{take_rest}
use Rattle.http_edge.proofs.DigestFacts.{part_at, part_whole, none_so_far}
use Rattle.http_edge.proofs.digests.first_part.Goals as goal

pub returns-then-byte-eq44 : goal.returns-then-byte-eq44
returns-then-byte-eq44 c =
    let value = c.args.value.now in
    let i = c.loop-at.at in
    let rest = take_rest value (i + 1) in (
      part_at value i c.loop-at-test.true c.loop-at.invariant c.if-byte-eq44.true
          ∙ ap (λ (after : List ℕ). take i value ∷ slice_split (λ byte. eqb byte 44) after) (sym rest),
      omega (arith, ap length rest, length-drop (i + 1) value),
    )

pub loop-at-preserved : goal.loop-at-preserved
loop-at-preserved c = none_so_far c.args.value.now c.loop-at.at c.loop-at-test.true c.loop-at.invariant c.if-byte-eq44.false

pub returns : goal.returns
returns c = part_whole c.args.value.now c.loop-at.at c.loop-at-test.false c.loop-at.invariant
