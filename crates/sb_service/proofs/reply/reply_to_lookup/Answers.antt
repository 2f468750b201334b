use Rattle.std.proofs.Common.{◌≡◌, List, ℕ, Result, Ok, Err, IfOk}
use Rattle.sb_model.specs.History.{History}
use Rattle.sb_model.specs.declared.memory.OutOfMemory.{OutOfMemory}
use Rattle.update_messages.specs.Reading.{IsTextOf}
use Rattle.lookup_messages.specs.Messages.{AskedUrls}
use Rattle.lookup_messages.specs.Reading.{ReadsLookup}
use Rattle.delta_server.specs.declared.answering.Settings.{Settings}
use Rattle.sb_service.specs.Answer.{IsReplyTo}
use Rattle.sb_service.specs.Connection.{lookups_text}
use Rattle.sb_service.specs.Printed.{reply_with, Reply}
use Rattle.sb_service.specs.declared.command.MessageKind.TheVariants.{Lookup}
use Rattle.sb_service.proofs.reply.reply_to_lookup.Goals as goal

-- the reply to a body that reads as a request
replied : (versions : History) (times : Settings) (body : List ℕ) (request : AskedUrls) (result : Result Reply OutOfMemory) → IsTextOf ReadsLookup body request
    → IfOk result (λ reply. reply ≡ reply_with (lookups_text versions times request)) → IfOk result (λ reply. IsReplyTo versions times Lookup body reply)
replied versions times body request (Err refused) reads is = tt
replied versions times body request (Ok reply) reads is = (Ok request, reads, is)

pub returns-in-Ok : goal.returns-in-Ok
returns-in-Ok c =
    replied c.args.history.now.versions c.args.settings.now c.args.body.now c.in-Ok.request c.reply_with_lookups.result c.in-Ok.ensures.ok
    c.reply_with_lookups.ensures
