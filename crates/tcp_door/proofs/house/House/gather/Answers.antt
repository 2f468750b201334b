use Rattle.std.proofs.Common.{sym}
use Rattle.tcp_door.proofs.Served.{heard_settled}
use Rattle.tcp_door.proofs.Rounds.{heard_works}
use Rattle.tcp_door.proofs.house.House.gather.Goals as goal

pub returns-in-Ok : goal.returns-in-Ok
returns-in-Ok c =
    heard_works c.args.self.now.guests c.keep_heard.new.self.guests c.after_heard.new.self.guests c.args.slot c.in-Some.guest.now c.hear-heard.new.self
    (sym c.in-Some.ensures.value) (heard_settled c.in-Some.guest.now c.hear-heard.new.self c.hear-heard.ensures) c.keep_heard.ensures c.after_heard.ensures
