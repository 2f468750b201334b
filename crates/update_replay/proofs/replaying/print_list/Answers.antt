use Rattle.std.proofs.Common.{ℕ, List, ◌++◌, ap, ◌∙◌, subst, append_assoc}
use Rattle.std.specs.List.{flat_map}
use Rattle.update_replay.specs.Printed.{prefix_line}
use Rattle.update_run.specs.Printed.{list_line}
use Rattle.sb_outside.specs.Writing.{HasFront}
use Rattle.input_lines.specs.Ways.{on_err, front_none, some_back, some_front}
use Rattle.update_replay.proofs.replaying.print_list.Goals as goal

pub returns-in_default-clause-err : goal.returns-in_default-clause-err
returns-in_default-clause-err g c =
    front_none (g.O.Sink.contents c.args.out.now) _
    (some_back c.args.page.now _ (some_front (list_line c.args.held.now) (flat_map prefix_line c.args.held.now.set) (λ e. cc)))

pub returns-clause-err : goal.returns-clause-err
returns-clause-err g c =
    let whole = ap (λ (page : List ℕ). page ++ flat_map prefix_line c.args.held.now.set) c.in-Ok.ensures.ok
    ∙ append_assoc c.args.page.now (list_line c.args.held.now) (flat_map prefix_line c.args.held.now.set) in
    on_err c.print_prefixes.result (subst (HasFront (g.O.Sink.contents c.args.out.now) (g.O.Sink.contents c.print_prefixes.new.out)) whole) c.print_prefixes.ensures.err
