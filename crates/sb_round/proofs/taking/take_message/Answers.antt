use Rattle.std.proofs.Common.{◌≡◌, length, ◌∙◌, ap, arith}
use Rattle.update_client.specs.Step.{results_of}
use Rattle.sb_round.proofs.Results.{result_count}
use Rattle.sb_round.proofs.taking.take_message.Goals as goal

pub push_named-requires : goal.push_named-requires
push_named-requires c =
    let results : c.into_vec.result.items ≡ results_of c.args.lists.now c.args.message.now.items = c.into_vec.ensures ∙ c.in_ok-results.ensures.results in
    let count : length c.into_vec.result.items ≡ length c.args.message.now.items =
    ap (λ rs. length rs) results ∙ result_count c.args.lists.now c.args.message.now.items in
    record {
      each = omega (arith, count, c.into_vec.result.ok, ap length c.as_slice.ensures);
      room = omega (arith, c.in_ok-taken.ensures.exact, ap length c.in_ok-taken.ensures.items, c.in_ok-taken.taken.ok, ap length c.as_slice.ensures);
    }
