use Rattle.std.proofs.Common.{ap, ◌∙◌, subst, map}
use Rattle.std.specs.List.{flat_map}
use Rattle.sb_outside.specs.Outside.{appended}
use Rattle.sb_outside.specs.Writing.{HasFront}
use Rattle.input_lines.specs.Lines.{lines_of}
use Rattle.update_replay.specs.Printed.{outcome_lines, list_lines, replay_text}
use Rattle.input_lines.specs.Ways.{front_none, way_longer, way_end, way_front}
use Rattle.update_replay.proofs.Replays.{text_some, whole_text, lines_front}
use Rattle.update_replay.proofs.replaying.replay_input.Goals as goal

pub returns-in_default-clause-err : goal.returns-in_default-clause-err
returns-in_default-clause-err g c = λ read reads.
    let readings = map read (lines_of c.args.input.now) in
    front_none (g.O.Sink.contents c.args.out.now) (replay_text c.args.names.now readings) (text_some c.args.names.now readings c.requires.some)

pub returns-in-Err-clause-err : goal.returns-in-Err-clause-err
returns-in-Err-clause-err g c = λ read reads.
    lines_front c.args.names.now c.in-Ok.lists (map read (lines_of c.args.input.now)) c.requires.some c.in-Ok.ensures (c.in-Err.ensures.err read reads)

pub returns-in-Ok-finish-clause-text : goal.returns-in-Ok-finish-clause-text
returns-in-Ok-finish-clause-text g c = λ read reads.
    let readings = map read (lines_of c.args.input.now) in
    let after = c.lists-2.result.now in
    let all = whole_text c.args.names.now c.in-Ok.lists after readings c.in-Ok.ensures (c.lists-2.ensures.value ∙ c.in-Ok-take_lines.ensures.lists read reads) in
    way_end _ _ (way_longer _ _ (flat_map list_lines after) (c.in-Ok-take_lines.ensures.text read reads)) c.in-Ok-finish.ensures.text
    ∙ ap (appended (g.O.Sink.contents c.args.out.now)) all

pub returns-clause-err : goal.returns-clause-err
returns-clause-err g c = λ read reads.
    let readings = map read (lines_of c.args.input.now) in
    let after = c.lists-2.result.now in
    let all = whole_text c.args.names.now c.in-Ok.lists after readings c.in-Ok.ensures (c.lists-2.ensures.value ∙ c.in-Ok-take_lines.ensures.lists read reads) in
    subst (HasFront (g.O.Sink.contents c.args.out.now) (g.O.Sink.contents c.finish.new.out)) all
    (way_front _ (outcome_lines 1 c.in-Ok.lists readings) (flat_map list_lines after) (c.in-Ok-take_lines.ensures.text read reads) c.in-Err-finish.ensures.err)
