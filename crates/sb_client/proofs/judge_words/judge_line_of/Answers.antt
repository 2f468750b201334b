use Rattle.std.proofs.Common.{◌≡◌, ◌∙◌, sym, ap, Some, None, map, string_bytes}
use Rattle.std.specs.Prelude.{option_and_then}
use Rattle.sb_words.specs.CommandLine.{given_of}
use Rattle.sb_client.specs.Command.{judge_given, judge_shape}
use Rattle.sb_client.proofs.Commands.{ok_same}
use Rattle.sb_client.proofs.judge_words.judge_line_of.Goals as goal

pub returns-in-Ok-Some-clause-line : goal.returns-in-Ok-Some-clause-line
returns-in-Ok-Some-clause-line c =
    let given : c.in-Ok-Some.field-0 ≡ given_of judge_shape (map string_bytes c.args.words.now) = c.in-Ok-Some.ensures in
    let some : Some c.in-Ok-Some.given ≡ given_of judge_shape (map string_bytes c.args.words.now) = sym c.in-Ok-Some.field-0-is ∙ given in
    ok_same _ _ _ _ (ap (option_and_then judge_given) some) c.judge_line_in.ensures.line

pub returns-in-Ok-None-clause-line : goal.returns-in-Ok-None-clause-line
returns-in-Ok-None-clause-line c =
    let given : c.in-Ok-None.field-0 ≡ given_of judge_shape (map string_bytes c.args.words.now) = c.in-Ok-None.ensures in
    let none : None ≡ given_of judge_shape (map string_bytes c.args.words.now) = sym c.in-Ok-None.field-0-is ∙ given in
    ap (option_and_then judge_given) none
