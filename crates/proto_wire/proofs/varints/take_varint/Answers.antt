use Rattle.std.proofs.Common.{◌≡◌, ℕ, ◌+◌, ◌-◌, ◌*◌, ◌%◌, ◌<◌, ◌≤◌, List, drop, Ok, refl, sym, ap, ◌∙◌, arith}
use Rattle.std.proofs.lemmas.List.{take_rest}
use Rattle.proto_wire.specs.Reading.{last_below, varint_at, varint_in}
use Rattle.proto_wire.proofs.VarintFacts.{after_sevens, after_none, ends_here, goes_on, cut_here, is_last, is_not_last, worth_more, number_more}
use Rattle.proto_wire.proofs.varints.take_varint.Goals as goal

pub loop-i-init : goal.loop-i-init
unfolding varint_at
loop-i-init c = (omega arith, refl, omega arith, after_none (varint_in 10 c.args.place c.args.bytes.now))

pub returns-then-byte-lt128-clause-read : goal.returns-then-byte-lt128-clause-read
returns-then-byte-lt128-clause-read c =
    let l = c.loop-i in
    let bytes = c.args.bytes.now in
    let byte = c.from-byte.result in
    let below : byte < last_below (9 - l.i) = is_last l.i byte l.invariant.0 c.if-byte-lt128.true c.else-i-eq9.either in
    let same : l.number + l.worth * byte ≡ l.number + byte * l.worth = omega arith in
    l.invariant.3 ∙ ends_here c.args.place l.i l.number l.worth byte bytes c.loop-i-test.true l.invariant.0 c.from-byte.ensures below
    ∙ ap (λ (n : ℕ). Ok (n, drop (l.i + 1) bytes)) same
    ∙ ap (λ (rest : List ℕ). Ok (l.number + byte * l.worth, rest)) (sym (take_rest bytes (l.i + 1)))

pub loop-i-preserved : goal.loop-i-preserved
loop-i-preserved c =
    let l = c.loop-i in
    let byte = c.from-byte.result in
    let above : last_below (9 - l.i) ≤ byte = is_not_last l.i byte l.invariant.0 c.if-byte-lt128.false in
    let more : l.i + 1 ≤ 9 = grind (arith, c.else-i-eq9.either, c.if-byte-lt128.false, l.invariant.0) in
    let room : 9 - l.i ≡ 10 - (l.i + 1) = omega arith in (
      more,
      worth_more l.i l.worth l.invariant.1,
      number_more l.number l.worth byte l.invariant.2,
      l.invariant.3 ∙ goes_on c.args.place l.i l.number l.worth byte c.args.bytes.now c.loop-i-test.true l.invariant.0 c.from-byte.ensures above
          ∙ ap (λ (room : ℕ). after_sevens (l.number + byte % 128 * l.worth) (l.worth * 128) (varint_in room c.args.place (drop (l.i + 1) c.args.bytes.now))) room,
    )

pub returns-clause-fault : goal.returns-clause-fault
returns-clause-fault c =
    let l = c.loop-i in
    l.invariant.3 ∙ cut_here c.args.place l.i l.number l.worth c.args.bytes.now c.loop-i-test.false l.invariant.0
