use Rattle.std.proofs.Common.{sym}
use Rattle.client_words.proofs.AskedOptions.{options_made}
use Rattle.client_words.proofs.options.options_in.Goals as goal

pub returns : goal.returns
returns c =
    let update = c.in_ok-max_update.ensures.limit in
    let database = c.in_ok-max_database.ensures.limit in
    let raw = c.has.ensures in
    options_made c.args.given.now.named _ (sym update) (sym database) (sym raw)
