use Rattle.std.proofs.Common.{◌≡◌, ◌<◌, length, true, ap, ◌∙◌, arith}
use Rattle.std.proofs.lemmas.List.{length-set}
use Rattle.url_checker.proofs.SizeFacts.{marked_one, marked_none, left_one, left_none}
use Rattle.url_checker.proofs.sizes.mark.Goals as goal
use Rattle.url_checker.proofs.sizes.mark.Goals.{then-own-size, else-own-size}

pub loop-size-init : goal.loop-size-init
loop-size-init c = record { marked = λ size below has. absurd (omega (arith, below)); left = λ size has. has; long = c.requires.long }

pub loop-size-preserved : goal.loop-size-preserved
loop-size-preserved c =
    let size = c.loop-size.size in
    let old = c.loop-size.marks in
    let new = c.if-own-size.marks in
    elim c.if-own-size.branch [
      | then-own-size w ↦
          let within : size < length old = omega (arith, c.loop-size.invariant.long) in
          record {
            marked = marked_one c.args.own.now old new size within w.marks-is c.loop-size.invariant.marked;
            left = left_one c.args.marks.now old new size within w.marks-is c.loop-size.invariant.left;
            long = ap length w.marks-is ∙ length-set old size true ∙ c.loop-size.invariant.long;
          }
      | else-own-size w ↦
          record {
            marked = marked_none c.args.own.now old new size w.if-own-size.false w.marks-is c.loop-size.invariant.marked;
            left = left_none c.args.marks.now old new w.marks-is c.loop-size.invariant.left;
            long = ap length w.marks-is ∙ c.loop-size.invariant.long;
          }
    ]

pub returns : goal.returns
returns c =
    let all : c.loop-size.size ≡ 33 = omega arith in
    record {
      marked = λ size below has. c.loop-size.invariant.marked size (omega (arith, all, below)) has;
      left = c.loop-size.invariant.left;
      long = c.loop-size.invariant.long;
    }
