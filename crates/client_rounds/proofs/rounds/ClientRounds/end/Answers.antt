use Rattle.std.proofs.Common.{◌≡◌, ℕ, Some, sym, subst, ◌∙◌}
use Rattle.std.specs.Prelude.{IfErr, OnOk}
use Rattle.client_rounds.specs.Ended.{StopsClientTelling}
use Rattle.client_rounds.specs.Rounds.{ClientSeen, HasKeptRounds}
use Rattle.client_rounds.proofs.KeptRounds.{ended_if, open_session, stopped_if}
use Rattle.sb_outside.specs.Outside.{appended}
use Rattle.sb_round.specs.Round.{round_state}
use Rattle.update_run.specs.Printed.{told_end}
use Rattle.update_run.specs.Saved.{keeping}
use Rattle.client_rounds.proofs.rounds.ClientRounds.end.Goals as goal

pub returns-clause-ended : goal.returns-clause-ended
returns-clause-ended g c start rounds has =
    let now : ClientSeen = record { state = round_state c.self.inside.lists c.self.inside.waits; over = c.self.inside.over; opened = c.self.inside.opened } in
    let line = g.N.Line.view c.args.line.now in
    let keeper = keeping (g.K.Keeper.handed c.args.keep.now) (g.K.Keeper.kept c.args.keep.now) in
    let inside : now.opened ≡ Some c.in-Some.opening = sym c.take.ensures.value ∙ c.in-Some.is in
    let seen : HasKeptRounds c.args.plan.now start rounds now line keeper = subst (λ (s : ClientSeen). HasKeptRounds c.args.plan.now start rounds s line keeper) (sym c.self.view_is) has in
    let made = c.in-Ok.ensures.made seen.between (open_session c.args.plan.now start rounds now line keeper c.in-Some.opening inside seen) in
    let text = subst (λ (n : ℕ). OnOk c.tell_and_save.result (g.O.Sink.contents c.tell_and_save.new.out ≡ appended (g.O.Sink.contents c.args.out.now) (told_end n c.take_answer.new.lists c.in-Ok.end))) c.from-number.ensures c.tell_and_save.ensures.text in
    rw (sym c.self.view_is, c.take.ensures.after) (ended_if c.rounds_go_on.ensures.one_more c.saves_go_on.ensures.more c.args.plan.now start rounds now line (g.N.Line.view c.take_answer.new.line)
    keeper (keeping (g.K.Keeper.handed c.tell_and_save.new.keep) (g.K.Keeper.kept c.tell_and_save.new.keep)) (round_state c.take_answer.new.lists c.take_answer.new.waits) c.in-Ok.end seen made
    c.tell_and_save.result (g.O.Sink.contents c.args.out.now) (g.O.Sink.contents c.tell_and_save.new.out)
    c.tell_and_save.ensures.told c.tell_and_save.ensures.saved text)

pub returns-clause-stopped : goal.returns-clause-stopped
returns-clause-stopped g c start rounds has =
    let now : ClientSeen = record { state = round_state c.self.inside.lists c.self.inside.waits; over = c.self.inside.over; opened = c.self.inside.opened } in
    let line = g.N.Line.view c.args.line.now in
    let keeper = keeping (g.K.Keeper.handed c.args.keep.now) (g.K.Keeper.kept c.args.keep.now) in
    let keeper' = keeping (g.K.Keeper.handed c.tell_and_save.new.keep) (g.K.Keeper.kept c.tell_and_save.new.keep) in
    let inside : now.opened ≡ Some c.in-Some.opening = sym c.take.ensures.value ∙ c.in-Some.is in
    let seen : HasKeptRounds c.args.plan.now start rounds now line keeper = subst (λ (s : ClientSeen). HasKeptRounds c.args.plan.now start rounds s line keeper) (sym c.self.view_is) has in
    let made = c.in-Ok.ensures.made seen.between (open_session c.args.plan.now start rounds now line keeper c.in-Some.opening inside seen) in
    let stops = subst (λ (n : ℕ). IfErr c.tell_and_save.result (λ why. StopsClientTelling why n c.in-Ok.end c.take_answer.new.lists keeper keeper' (g.O.Sink.contents c.args.out.now) (g.O.Sink.contents c.tell_and_save.new.out))) c.from-number.ensures c.tell_and_save.ensures.stopped in
    rw (sym c.self.view_is) (stopped_if c.rounds_go_on.ensures.one_more c.saves_go_on.ensures.more c.args.plan.now start rounds now line (g.N.Line.view c.take_answer.new.line)
    keeper keeper' (round_state c.take_answer.new.lists c.take_answer.new.waits) c.in-Ok.end seen made
    c.tell_and_save.result (g.O.Sink.contents c.args.out.now) (g.O.Sink.contents c.tell_and_save.new.out) stops)
