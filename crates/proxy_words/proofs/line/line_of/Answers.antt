use Rattle.std.proofs.Common.{◌≡◌, ◌∙◌, sym, ap, Some, None, map, string_bytes}
use Rattle.std.specs.Prelude.{option_and_then}
use Rattle.std.proofs.lemmas.Result.{IfOk-weaker}
use Rattle.sb_words.specs.CommandLine.{given_of}
use Rattle.proxy_words.specs.ProxyLine.{proxy_given, proxy_shape}
use Rattle.proxy_words.proofs.line.line_of.Goals as goal

pub returns-in-Ok-Some : goal.returns-in-Ok-Some
returns-in-Ok-Some c =
    let given : c.in-Ok-Some.field-0 ≡ given_of proxy_shape (map string_bytes c.args.words.now) = c.in-Ok-Some.ensures in
    let some : Some c.in-Ok-Some.given ≡ given_of proxy_shape (map string_bytes c.args.words.now) = sym c.in-Ok-Some.field-0-is ∙ given in
    IfOk-weaker c.line_in.result _ _ (λ line is. is ∙ ap (option_and_then proxy_given) some) c.line_in.ensures

pub returns-in-Ok-None : goal.returns-in-Ok-None
returns-in-Ok-None c =
    let given : c.in-Ok-None.field-0 ≡ given_of proxy_shape (map string_bytes c.args.words.now) = c.in-Ok-None.ensures in
    let none : None ≡ given_of proxy_shape (map string_bytes c.args.words.now) = sym c.in-Ok-None.field-0-is ∙ given in
    ap (option_and_then proxy_given) none
