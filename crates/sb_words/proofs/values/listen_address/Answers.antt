use Rattle.std.proofs.Common.{◌∙◌, lit<}
use Rattle.std.proofs.lemmas.Str.Pattern.{strip_prefix_char}
use Rattle.sb_words.proofs.Addresses.{no_bracket, a_bracket}
use Rattle.sb_words.proofs.values.listen_address.Goals as goal

pub returns-in-Some : goal.returns-in-Some
returns-in-Some c =
    let cut = strip_prefix_char 91 c.args.text.now c.strip_prefix.result c.strip_prefix.ensures.cases (lit< tt) in
    c.bracketed_address.ensures ∙ a_bracket c.args.text.now c.in-Some.rest.now (rw c.in-Some.is at cut)

pub returns-in-None : goal.returns-in-None
returns-in-None c =
    let cut = strip_prefix_char 91 c.args.text.now c.strip_prefix.result c.strip_prefix.ensures.cases (lit< tt) in
    c.plain_address.ensures ∙ no_bracket c.args.text.now (rw c.in-None.is at cut)
