use Rattle.http_serving.proofs.Keeping.{kept_written}
use Rattle.http_serving.proofs.kept.KeptAnswers.keep_written.Goals as goal

pub returns-in-Ok-keep-clause-kept : goal.returns-in-Ok-keep-clause-kept
returns-in-Ok-keep-clause-kept g c =
    kept_written g.M.Meaning.first c.args.asked.now c.args.meaning c.args.response c.args.text c.in-Ok.text c.args.self.now c.shared.new.self c.keep.new.self
    c.requires.text c.in-Ok.ensures.text c.in-Ok.ensures.same c.in-Ok-keep.ensures.kept
