use Rattle.std.proofs.Common.{◌++◌}
use Rattle.url_canon.specs.Canonical.{canonical_of}
use Rattle.sb_client.specs.Shown.{shown_lines}
use Rattle.input_lines.specs.Ways.{front_none, some_back}
use Rattle.sb_client.proofs.Shows.{shown_some}
use Rattle.sb_client.proofs.show.show_line.Goals as goal

pub returns-in_default-clause-err : goal.returns-in_default-clause-err
returns-in_default-clause-err g c =
    let text = shown_lines c.args.number (canonical_of c.args.line.now) in
    front_none (g.O.Sink.contents c.args.out.now) (c.args.page.now ++ text) (some_back c.args.page.now text (shown_some c.args.number (canonical_of c.args.line.now)))
