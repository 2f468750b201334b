use Rattle.std.proofs.Common.{false, refl, sym, inl}
use Rattle.tcp_door.proofs.Rounds.{noted_works}
use Rattle.tcp_door.proofs.house.House.work_from_row.Goals as goal

pub returns : goal.returns
returns c =
    noted_works c.args.self.now.guests c.work.new.self.guests c.args.slot c.in-Some.guest.now (record c.in-Some.guest.now { is_in_row = false })
    (sym c.in-Some.ensures.value) (record { serial = refl; gathered = refl; answer = inl refl }) c.work.ensures
