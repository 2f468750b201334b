use Rattle.std.proofs.Common.{ℕ, subst}
use Rattle.sb_outside.specs.Writing.{IsOnItsWay}
use Rattle.update_run.specs.Printed.{told_end}
use Rattle.update_run.proofs.rounding.make_round.Goals as goal

pub returns-in-Ok-tell_round-clause-took : goal.returns-in-Ok-tell_round-clause-took
returns-in-Ok-tell_round-clause-took g c = record {
  takes = record {
    written = c.requires.written;
    end = c.in-Ok.end;
    made = c.in-Ok.ensures.made;
    saved = c.in-Ok-tell_round.ensures.saved;
    text = subst (λ (n : ℕ). IsOnItsWay (g.O.Sink.contents c.args.out.now) (g.O.Sink.contents c.tell_round.new.out) c.tell_round.new.page (told_end n c.run_round.new.lists c.in-Ok.end)) c.from-number.ensures
        c.in-Ok-tell_round.ensures.text;
    refusal = c.has_refusal.ensures;
  };
  installed = c.has_installed.ensures;
}
