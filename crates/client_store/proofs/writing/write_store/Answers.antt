use Rattle.std.proofs.Common.{◌≡◌, ap, ◌∙◌, rules}
use Rattle.client_store.specs.declared.format.Format.TheVariants.{EachSize}
use Rattle.client_store.specs.Store.{text_in}
use Rattle.client_store.specs.Reading.{store_reading}
use Rattle.client_store.proofs.Stores.{text_again}
use Rattle.client_store.proofs.writing.write_store.Goals as goal

pub returns-clause-read_again : goal.returns-clause-read_again
returns-clause-read_again c =
    let text : c.append.new.self ≡ text_in EachSize c.args.lists.now = search rules in
    ap store_reading text ∙ text_again EachSize c.args.lists.now c.in_ok-text.ensures.kept tt

pub returns-clause-store : goal.returns-clause-store
returns-clause-store c =
    let text : c.append.new.self ≡ text_in EachSize c.args.lists.now = search rules in
    record { format = EachSize; suits = tt; is = text }
