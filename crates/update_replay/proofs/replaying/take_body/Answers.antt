use Rattle.update_replay.proofs.Replays.{results_count}
use Rattle.update_replay.proofs.replaying.take_body.Goals as goal

pub print_body-requires : goal.print_body-requires
print_body-requires g c = cc (results_count c.args.lists.now c.args.body.now.items, c.in-Ok.ensures.results, c.as_slice.ensures, c.as_slice-2.ensures, c.outcomes.view_is)
