use Rattle.std.proofs.Common.{length, ◌-◌, ◌≡◌, ◌≤◌, take}
use Rattle.sb_outside.specs.Outside.{appended}
use Rattle.sb_outside.proofs.traits.write_all.Given as goal

abbrev pub invariant-loop-taken : goal.invariant-loop-taken
invariant-loop-taken g l =
    record {
      within : l.taken ≤ length l.piece;
      kept : g.O.Sink.faults l.out ≡ g.O.Sink.faults l.initial.out;
      took : g.O.Sink.contents l.out ≡ appended (g.O.Sink.contents l.initial.out) (take l.taken l.piece);
      other : g.O.Sink.front l.out ≡ g.O.Sink.front l.initial.out;
    }

abbrev pub decreases-loop-taken : goal.decreases-loop-taken
decreases-loop-taken g l = length l.piece - l.taken
