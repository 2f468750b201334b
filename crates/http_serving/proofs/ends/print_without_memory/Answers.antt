use Rattle.std.proofs.Common.{◌≡◌, List, ℕ, ap, ◌∙◌, subst, decimal}
use Rattle.sb_outside.specs.Outside.{appended}
use Rattle.sb_outside.specs.Writing.{HasFront}
use Rattle.http_serving.proofs.Fronts.{pieces_of_line}
use Rattle.http_serving.proofs.ends.print_without_memory.Goals as goal

pub returns-in-Ok-clause-whole : goal.returns-in-Ok-clause-whole
returns-in-Ok-clause-whole g c =
    let digits : c.as_bytes-digits.result.now ≡ decimal c.args.number = cc (c.as_bytes-digits.ensures.value, c.format.ensures.text) in
    c.in-Ok.ensures.ok ∙ ap (appended (g.O.Sink.contents c.args.out.now)) (pieces_of_line c.args.number c.as_bytes-digits.result.now digits)

pub returns-in-Err-clause-cut : goal.returns-in-Err-clause-cut
returns-in-Err-clause-cut g c =
    let digits : c.as_bytes-digits.result.now ≡ decimal c.args.number = cc (c.as_bytes-digits.ensures.value, c.format.ensures.text) in
    subst (λ (text : List ℕ). HasFront (g.O.Sink.contents c.args.out.now) (g.O.Sink.contents c.write_three.new.out) text)
    (pieces_of_line c.args.number c.as_bytes-digits.result.now digits) c.in-Err.ensures.err
