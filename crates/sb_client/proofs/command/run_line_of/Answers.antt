use Rattle.std.proofs.Common.{◌≡◌, ◌∙◌, sym, ap, Some, None, map, string_bytes}
use Rattle.std.specs.Prelude.{option_and_then}
use Rattle.sb_words.specs.CommandLine.{given_of}
use Rattle.sb_client.specs.Command.{run_given, run_shape}
use Rattle.sb_client.proofs.Commands.{ok_same}
use Rattle.sb_client.proofs.command.run_line_of.Goals as goal

pub returns-in-Ok-Some : goal.returns-in-Ok-Some
returns-in-Ok-Some c =
    let given : c.in-Ok-Some.field-0 ≡ given_of run_shape (map string_bytes c.args.words.now) = c.in-Ok-Some.ensures in
    let some : Some c.in-Ok-Some.given ≡ given_of run_shape (map string_bytes c.args.words.now) = sym c.in-Ok-Some.field-0-is ∙ given in
    ok_same _ _ _ _ (ap (option_and_then run_given) some) c.run_line_in.ensures

pub returns-in-Ok-None : goal.returns-in-Ok-None
returns-in-Ok-None c =
    let given : c.in-Ok-None.field-0 ≡ given_of run_shape (map string_bytes c.args.words.now) = c.in-Ok-None.ensures in
    let none : None ≡ given_of run_shape (map string_bytes c.args.words.now) = sym c.in-Ok-None.field-0-is ∙ given in
    ap (option_and_then run_given) none
