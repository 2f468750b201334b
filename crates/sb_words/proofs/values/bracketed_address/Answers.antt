use Rattle.std.proofs.Common.{◌∙◌, lit<}
use Rattle.std.proofs.lemmas.Str.Pattern.{split_once_first}
use Rattle.sb_words.specs.Values.{is_closing, listening_in}
use Rattle.sb_words.proofs.Addresses.{no_mark, a_mark}
use Rattle.sb_words.proofs.values.bracketed_address.Goals as goal

pub returns-in_default : goal.returns-in_default
returns-in_default c =
    let cut = split_once_first 93 c.args.text.now c.split_once.result c.split_once.ensures.cases (lit< tt) in
    no_mark is_closing listening_in c.args.text.now (rw c.in_default.is at cut)

pub returns : goal.returns
returns c =
    let cut = split_once_first 93 c.args.text.now c.split_once.result c.split_once.ensures.cases (lit< tt) in
    let parts = rw c.in-Some.is at cut in
    c.ipv6_port.ensures ∙ a_mark is_closing listening_in c.args.text.now c.in-Some.host.now c.in-Some.rest.now parts.0 parts.1 parts.2
