use Rattle.std.proofs.Common.{rules, ◌≡◌, ap, ◌∙◌}
use Rattle.sb_model.specs.Time.{duration_of, duration_text}
use Rattle.sb_model.proofs.DurationTexts.{written_again}
use Rattle.sb_model.proofs.durations.write_duration.Goals as goal

pub returns-clause-read_again : goal.returns-clause-read_again
returns-clause-read_again c =
    let written : c.push.new.self ≡ duration_text c.args.duration = search rules in
    ap duration_of written ∙ written_again c.args.duration c.seconds.ensures.in_range
