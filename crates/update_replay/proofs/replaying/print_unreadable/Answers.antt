use Rattle.input_lines.specs.Lines.{numbered}
use Rattle.std.proofs.Common.{◌++◌, codes}
use Rattle.sb_json.specs.Printed.{message_cause_text}
use Rattle.input_lines.specs.Ways.{front_none, some_back, numbered_some}
use Rattle.update_replay.proofs.replaying.print_unreadable.Goals as goal

pub returns-in-Err-clause-err : goal.returns-in-Err-clause-err
returns-in-Err-clause-err g c =
    let text = codes "unreadable " ++ message_cause_text c.args.fault.now in
    front_none (g.O.Sink.contents c.args.out.now) (c.args.page.now ++ numbered c.args.number text) (some_back c.args.page.now _ (numbered_some c.args.number text))
