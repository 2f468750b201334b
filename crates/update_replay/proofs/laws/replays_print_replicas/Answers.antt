use Rattle.update_replay.proofs.Headline.{prints_replicas}
use Rattle.update_replay.proofs.laws.replays_print_replicas.Goals as goal

pub returns : goal.returns
returns c = prints_replicas c.values_read_one_way.ensures.response c.values_read_or_have_a_fault.ensures.response c.replicas_stay.ensures
