use Rattle.std.proofs.Common.{◌∙◌, lit<}
use Rattle.std.proofs.lemmas.Str.Pattern.{strip_prefix_char}
use Rattle.sb_words.proofs.Addresses.{no_port, a_port}
use Rattle.sb_words.proofs.values.port_after_colon.Goals as goal

pub returns-in-Some-clause-value : goal.returns-in-Some-clause-value
returns-in-Some-clause-value c =
    let cut = strip_prefix_char 58 c.args.text.now c.strip_prefix.result c.strip_prefix.ensures.cases (lit< tt) in
    c.number.ensures.value ∙ a_port c.args.text.now c.in-Some.port.now (rw c.in-Some.is at cut)

pub returns-in-None-clause-value : goal.returns-in-None-clause-value
returns-in-None-clause-value c =
    let cut = strip_prefix_char 58 c.args.text.now c.strip_prefix.result c.strip_prefix.ensures.cases (lit< tt) in
    no_port c.args.text.now (rw c.in-None.is at cut)
