use Rattle.std.proofs.Common.{true, refl, sym, inl}
use Rattle.tcp_door.proofs.Rounds.{noted_works}
use Rattle.tcp_door.proofs.house.House.work_late.Goals as goal

pub returns : goal.returns
returns c =
    noted_works c.args.self.now.guests c.work.new.self.guests c.args.slot c.in-Some.guest.now (record c.in-Some.guest.now { can_read = true; can_write = true })
    (sym c.in-Some.ensures.value) (record { serial = refl; gathered = refl; answer = inl refl }) c.work.ensures
