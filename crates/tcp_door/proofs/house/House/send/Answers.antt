use Rattle.std.proofs.Common.{sym}
use Rattle.tcp_door.proofs.Served.{sent_served}
use Rattle.tcp_door.proofs.Rounds.{sent_works}
use Rattle.tcp_door.proofs.house.House.send.Goals as goal

pub returns : goal.returns
returns c =
    sent_works c.args.self.now.guests c.settle.new.self.guests c.args.slot c.in-Some.guest.now c.send-sent.new.self
    (sym c.in-Some.ensures.value) (sent_served c.in-Some.guest.now c.send-sent.new.self c.send-sent.result c.send-sent.ensures.sent c.send-sent.ensures.same) c.settle.ensures
