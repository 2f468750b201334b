use Rattle.sb_round.proofs.OneBodies.{logs_have_one}
use Rattle.sb_round.proofs.laws.logs_have_one_list_of_bodies.Goals as goal

pub returns : goal.returns
returns c = logs_have_one c.one_body.ensures.session c.values_read_one_way.ensures.response c.values_read_or_have_a_fault.ensures.response
