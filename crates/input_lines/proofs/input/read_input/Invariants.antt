use Rattle.std.proofs.Common.{◌≡◌, ◌-◌, ◌≤◌, length, vec_len}
use Rattle.std.specs.Prelude.{count_by}
use Rattle.sb_outside.specs.Outside.{GivesFront}
use Rattle.input_lines.specs.Lines.{is_newline, lines_of}
use Rattle.input_lines.proofs.input.read_input.Given as goal

abbrev pub invariant-loop-text : goal.invariant-loop-text
invariant-loop-text g l = record {
  gives : GivesFront l.text (g.S.Source.left l.initial.input) (g.S.Source.left l.input);
  faults : g.S.Source.faults l.input ≡ g.S.Source.faults l.initial.input;
  ended : l.ended ≡ count_by is_newline l.text;
  lines : length (lines_of l.text) ≤ 65536;
  buffer : vec_len l.buffer ≡ 262144;
}

abbrev pub decreases-loop-text : goal.decreases-loop-text
decreases-loop-text g l = 201326593 - length l.text
