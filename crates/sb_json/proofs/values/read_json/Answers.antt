use Rattle.std.proofs.Common.{inr, sym}
use Rattle.serde_json.specs.View.{view}
use Rattle.sb_json.proofs.JsonTexts.{json_value, no_json}
use Rattle.sb_json.proofs.values.read_json.Goals as goal

pub returns-in-Ok-clause-ok : goal.returns-in-Ok-clause-ok
returns-in-Ok-clause-ok c =
    json_value c.args.text.now (view c.in-Ok.value) (sym c.in_default.ensures) c.in-Ok.ensures.ok.0 c.in-Ok.ensures.ok.1

pub returns-in-Err-2-clause-err : goal.returns-in-Err-2-clause-err
returns-in-Err-2-clause-err c =
    inr (no_json c.args.text.now (sym c.in_default.ensures) (c.in-Err.ensures.err (λ is. cc (c.is_memory.ensures.1 is))))
