use Rattle.std.proofs.Common.{ℕ, List, inr, take, drop, ap, ◌∙◌, length, arith, map, string_bytes}
use Rattle.std.proofs.lemmas.List.{take-append-drop}
use Rattle.sb_outside.specs.Outside.{appended}
use Rattle.sb_client.specs.Usage.{usage_of}
use Rattle.input_lines.specs.Ways.{drop_some}
use Rattle.sb_client.proofs.usage.tell_usage.Goals as goal

pub returns-in-Err-clause-usage : goal.returns-in-Err-clause-usage
returns-in-Err-clause-usage g c =
    let n = c.in-Err.ensures.err.0 in
    let text : List ℕ = usage_of (map string_bytes c.args.words.now) in
    let same = c.as_bytes.ensures.value ∙ c.usage_in.ensures in
    inr (
      c.in-Err.ensures.failed,
      record {
        taken = take n text;
        lost = drop n text;
        has = c.in-Err.ensures.err.2 ∙ ap (λ (bytes : List ℕ). appended (g.O.Sink.contents c.args.out.now) (take n bytes)) same;
        rest = take-append-drop n text;
        missing = drop_some n text (omega (arith, c.in-Err.ensures.err.1, ap length same));
      },
    )
