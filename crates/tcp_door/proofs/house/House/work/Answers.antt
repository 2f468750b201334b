use Rattle.tcp_door.proofs.Rounds.{works_settles}
use Rattle.tcp_door.proofs.house.House.work.Goals as goal

pub returns : goal.returns
returns c =
    let watched = works_settles c.args.self.now.guests c.try_socket.new.self.guests c.watch.new.self.guests c.args.slot c.try_socket.ensures c.watch.ensures in
    works_settles c.args.self.now.guests c.watch.new.self.guests c.line_up.new.self.guests c.args.slot watched c.line_up.ensures
