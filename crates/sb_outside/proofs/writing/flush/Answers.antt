use Rattle.std.proofs.Common.{◌≢◌, ℕ, ◌<◌, List, [], length, ap, ◌∙◌, take, drop, arith, length-drop}
use Rattle.std.proofs.lemmas.List.{take-append-drop}
use Rattle.sb_outside.specs.Outside.{appended}
use Rattle.sb_outside.proofs.writing.flush.Goals as goal

-- what stands after a front that is shorter
rest-some : (n : ℕ) (text : List ℕ) → n < length text → drop n text ≢ []
rest-some n text within none = omega (arith, length-drop n text, ap length none)

pub returns-in-Err-clause-err : goal.returns-in-Err-clause-err
returns-in-Err-clause-err g c =
    let n = c.in-Err.ensures.err.0 in
    let text = c.args.buffer.now in
    let within : n < length text = omega (arith, c.in-Err.ensures.err.1, ap length c.as_slice.ensures) in
    record {
      taken = take n text;
      lost = drop n text;
      has = c.in-Err.ensures.err.2 ∙ ap (λ (bytes : List ℕ). appended (g.O.Sink.contents c.args.out.now) (take n bytes)) c.as_slice.ensures;
      rest = take-append-drop n text;
      missing = rest-some n text within;
    }
