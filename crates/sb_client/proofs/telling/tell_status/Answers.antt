use Rattle.std.proofs.Common.{List, inl, inr, ℕ, take, drop, refl, ap, ◌∙◌, length, arith}
use Rattle.std.proofs.lemmas.List.{take-append-drop}
use Rattle.sb_outside.specs.Outside.{appended}
use Rattle.input_lines.specs.Ways.{drop_some}
use Rattle.sb_client.proofs.telling.tell_status.Goals as goal

pub returns-in-Err-clause-tells : goal.returns-in-Err-clause-tells
returns-in-Err-clause-tells g c =
    let n = c.in-Err.ensures.err.0 in
    let text : List ℕ = c.args.text.now in
    let same = c.as_slice.ensures in
    inr (inl (
      refl,
      record {
        taken = take n text;
        lost = drop n text;
        has = c.in-Err.ensures.err.2 ∙ ap (λ (bytes : List ℕ). appended (g.O.Sink.contents c.args.out.now) (take n bytes)) same;
        rest = take-append-drop n text;
        missing = drop_some n text (omega (arith, c.in-Err.ensures.err.1, ap length same));
      },
    ))
