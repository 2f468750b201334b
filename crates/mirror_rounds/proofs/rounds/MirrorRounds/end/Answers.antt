use Rattle.std.proofs.Common.{◌≡◌, ℕ, Some, sym, subst, ◌∙◌}
use Rattle.std.specs.Prelude.{IfErr, OnOk}
use Rattle.mirror_rounds.specs.Ended.{StopsMirrorTelling}
use Rattle.mirror_rounds.specs.Rounds.{HasMadeRounds, MirrorSeen}
use Rattle.mirror_rounds.proofs.ItsPlaces.{its_places_after}
use Rattle.mirror_rounds.proofs.MadeRounds.{ended_if, open_session, stopped_if}
use Rattle.sb_outside.specs.Outside.{appended}
use Rattle.sb_round.specs.Round.{round_state}
use Rattle.update_run.specs.Printed.{told_end}
use Rattle.update_run.specs.Saved.{has_installed, keeping}
use Rattle.mirror_rounds.proofs.rounds.MirrorRounds.end.Goals as goal

pub invariant_of-self-2 : goal.invariant_of-self-2
invariant_of-self-2 g c =
    its_places_after c.tell_and_hold.result c.self.inside.lists c.take_answer.new.lists (has_installed c.in-Ok.end.taken) c.self.inside.mirror c.tell_and_hold.new.mirror c.self.inside.over
    c.self.invariant c.in-Ok.ensures.named c.tell_and_hold.ensures.held c.tell_and_hold.ensures.unheld

pub returns-clause-ended : goal.returns-clause-ended
returns-clause-ended g c start rounds has =
    let now : MirrorSeen = record { state = round_state c.self.inside.lists c.self.inside.waits; places = c.self.inside.mirror; over = c.self.inside.over; opened = c.self.inside.opened } in
    let line = g.N.Line.view c.args.line.now in
    let keeper = keeping (g.K.Keeper.handed c.args.keep.now) (g.K.Keeper.kept c.args.keep.now) in
    let inside : now.opened ≡ Some c.in-Some.opening = sym c.take.ensures.value ∙ c.in-Some.is in
    let seen : HasMadeRounds c.args.plan.now start rounds now line keeper = subst (λ (s : MirrorSeen). HasMadeRounds c.args.plan.now start rounds s line keeper) (sym c.self.view_is) has in
    let made = c.in-Ok.ensures.made seen.between (open_session c.args.plan.now start rounds now line keeper c.in-Some.opening inside seen) in
    let text = subst (λ (n : ℕ). OnOk c.tell_and_hold.result (g.O.Sink.contents c.tell_and_hold.new.out ≡ appended (g.O.Sink.contents c.args.out.now) (told_end n c.take_answer.new.lists c.in-Ok.end))) c.from-number.ensures c.tell_and_hold.ensures.text in
    rw (sym c.self.view_is, c.take.ensures.after) (ended_if c.rounds_go_on.ensures.one_more c.saves_go_on.ensures.more c.args.plan.now start rounds now line (g.N.Line.view c.take_answer.new.line)
    keeper (keeping (g.K.Keeper.handed c.tell_and_hold.new.keep) (g.K.Keeper.kept c.tell_and_hold.new.keep)) (round_state c.take_answer.new.lists c.take_answer.new.waits) c.in-Ok.end seen made
    c.tell_and_hold.new.mirror c.tell_and_hold.result (g.O.Sink.contents c.args.out.now) (g.O.Sink.contents c.tell_and_hold.new.out)
    c.tell_and_hold.ensures.told c.tell_and_hold.ensures.saved text c.tell_and_hold.ensures.held)

pub returns-clause-stopped : goal.returns-clause-stopped
returns-clause-stopped g c start rounds has =
    let now : MirrorSeen = record { state = round_state c.self.inside.lists c.self.inside.waits; places = c.self.inside.mirror; over = c.self.inside.over; opened = c.self.inside.opened } in
    let line = g.N.Line.view c.args.line.now in
    let keeper = keeping (g.K.Keeper.handed c.args.keep.now) (g.K.Keeper.kept c.args.keep.now) in
    let keeper' = keeping (g.K.Keeper.handed c.tell_and_hold.new.keep) (g.K.Keeper.kept c.tell_and_hold.new.keep) in
    let inside : now.opened ≡ Some c.in-Some.opening = sym c.take.ensures.value ∙ c.in-Some.is in
    let seen : HasMadeRounds c.args.plan.now start rounds now line keeper = subst (λ (s : MirrorSeen). HasMadeRounds c.args.plan.now start rounds s line keeper) (sym c.self.view_is) has in
    let made = c.in-Ok.ensures.made seen.between (open_session c.args.plan.now start rounds now line keeper c.in-Some.opening inside seen) in
    let stops = subst (λ (n : ℕ). IfErr c.tell_and_hold.result (λ why. StopsMirrorTelling why n c.in-Ok.end c.take_answer.new.lists keeper keeper' (g.O.Sink.contents c.args.out.now) (g.O.Sink.contents c.tell_and_hold.new.out))) c.from-number.ensures c.tell_and_hold.ensures.stopped in
    rw (sym c.self.view_is) (stopped_if c.rounds_go_on.ensures.one_more c.saves_go_on.ensures.more c.args.plan.now start rounds now line (g.N.Line.view c.take_answer.new.line)
    keeper keeper' (round_state c.take_answer.new.lists c.take_answer.new.waits) c.in-Ok.end seen made
    c.tell_and_hold.result (g.O.Sink.contents c.args.out.now) (g.O.Sink.contents c.tell_and_hold.new.out) stops)
