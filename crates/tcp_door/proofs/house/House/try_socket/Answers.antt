use Rattle.tcp_door.proofs.Rounds.{works_settles}
use Rattle.tcp_door.proofs.house.House.try_socket.Goals as goal

pub returns-in-Sending : goal.returns-in-Sending
returns-in-Sending c = works_settles c.args.self.now.guests c.send.new.self.guests c.forget.new.self.guests c.args.slot c.send.ensures c.forget.ensures
