use Rattle.std.proofs.Common.{◌≡◌, ◌-◌, ◌<◌, length}
use Rattle.sb_outside.specs.Outside.{GivesFront}
use Rattle.list_versions.proofs.pieces.read_first.Given as goal

abbrev pub invariant-first : goal.invariant-first
invariant-first g l = record {
  gives : GivesFront l.text (g.S.Source.left l.initial.source) (g.S.Source.left l.source);
  faults : g.S.Source.faults l.source ≡ g.S.Source.faults l.initial.source;
  other : g.S.Source.back l.source ≡ g.S.Source.back l.initial.source;
  buffer : 0 < length l.buffer;
}

abbrev pub decreases-first : goal.decreases-first
decreases-first g l = 129 - length l.text
