use Rattle.std.proofs.Common.{rules, tests}
use Rattle.std.specs.Str.{chars}
use Rattle.std.proofs.lemmas.Iterator.{YieldsList-from_chars}
use Rattle.std.proofs.lemmas.Iterator.Search.{all_from_yields_List}
use Rattle.http_edge.specs.Exchanges.{is_in_line}
use Rattle.http_edge.proofs.Targets.{one_line_is}
use Rattle.http_edge.proofs.messages.is_one_line.Goals as goal

pub returns : goal.returns
returns c =
    let text = c.as_str.result.now in
    let all = all_from_yields_List is_in_line _ _ c.all.result c.all.ensures.ran (YieldsList-from_chars text c.as_str.utf8 cc) (λ x b q k. search (rules, tests)) in
    one_line_is c.all.result (chars text) c.args.text.now c.as_str.ensures all
