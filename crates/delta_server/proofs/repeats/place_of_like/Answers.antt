use Rattle.std.proofs.Common.{ap, sym, ◌∙◌, map}
use Rattle.std.specs.Prelude.{slice_get}
use Rattle.sb_model.specs.History.{History, declares}
use Rattle.update_messages.specs.Answer.{declared_items, update_for}
use Rattle.update_messages.specs.Messages.{AskedList}
use Rattle.delta_server.specs.Tokens.{server_naming}
use Rattle.delta_server.proofs.RepeatFacts.{passing_at}
use Rattle.delta_server.proofs.repeats.place_of_like.Goals as goal

pub returns-then-ask_alike : goal.returns-then-ask_alike
returns-then-ask_alike c =
    let versions : History = c.args.history.now.versions in
    ap (slice_get (map (update_for versions (server_naming versions)) (declared_items versions c.args.before.now))) c.loop-other.invariant.place
    ∙ passing_at (λ (asked : AskedList). declares versions asked.name) (update_for versions (server_naming versions)) c.args.before.now c.loop-other.other-index
    c.other-item.result (update_for versions (server_naming versions) c.args.asked.now) c.loop-other-test.true c.other-item.is
    (ap (λ (asked : AskedList). declares versions asked.name) (sym c.other.view_is) ∙ sym c.is_declared.ensures ∙ c.if-not-is_declared.false)
    (c.ask_alike.ensures c.if-ask_alike.true versions)
