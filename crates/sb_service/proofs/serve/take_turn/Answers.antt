use Rattle.std.proofs.Common.{inl, inr, sym, subst}
use Rattle.http_serving.specs.Serving.{IsConnectionUntouched}
use Rattle.sb_service.specs.Kept.{AreKeptOf}
use Rattle.sb_service.proofs.Entries.{logged}
use Rattle.sb_service.proofs.Keeping.{kept_or_forgotten}
use Rattle.list_versions.specs.Journal.{Kept}
use Rattle.sb_service.specs.declared.stop.Stop.TheVariants as stop'
use Rattle.sb_service.proofs.Stops.{one_stop}
use Rattle.sb_service.proofs.Turns.{grown_on, held_on, held_turn, not_both, some_status, stops_as}
use Rattle.sb_service.proofs.serve.take_turn.Goals as goal
use Rattle.sb_service.proofs.serve.take_turn.Goals.{else-plan-via-then-plan+else-is_bad_journal, else-plan-via-else-plan}

pub returns-in-Ok-clause-looking : goal.returns-in-Ok-clause-looking
returns-in-Ok-clause-looking g c = λ before coming pieces opening taken fresh e.
    let grown = c.in-Ok.ensures.ok in
    grown_on _ _ c.serve_taken-stop.result _ _ (record {
      gained = grown.0;
      gives = grown.1;
      grows = grown.2;
      pieces = pieces;
      taken = rw c.serve_taken-stop.ensures.coming taken;
      told = c.serve_taken-stop.ensures.told before pieces opening fresh;
    }) (c.goes_on.ensures.ok _ e).1

pub returns-in-Ok-clause-stops : goal.returns-in-Ok-clause-stops
returns-in-Ok-clause-stops g c = λ before coming pieces opening taken fresh.
    let grown = c.in-Ok.ensures.ok in
    stops_as _ c.goes_on.result c.serve_taken-stop.result c.goes_on.ensures.err (λ other. inl (record {
      gained = grown.0;
      gives = grown.1;
      grows = grown.2;
      pieces = pieces;
      taken = rw c.serve_taken-stop.ensures.coming taken;
      told = c.serve_taken-stop.ensures.told before pieces opening fresh;
    }))

pub serve_taken-stop-requires : goal.serve_taken-stop-requires
serve_taken-stop-requires g c =
    let old = c.args.served.now.history in
    let new = c.grow_if_more.new.self in
    subst (AreKeptOf new.versions c.args.plan.now.settings) (sym c.forget_if.ensures)
    (kept_or_forgotten old.versions new.versions c.args.plan.now.settings c.args.served.now.kept c.in-Ok.grown c.in-Ok.ensures.versions.0 c.requires)

pub serve_taken-stop-requires-then-is_bad_journal : goal.serve_taken-stop-requires-then-is_bad_journal
serve_taken-stop-requires-then-is_bad_journal g c =
    subst (λ (k : Kept). AreKeptOf k.versions c.args.plan.now.settings c.args.served.now.kept) (sym c.in-Err.ensures.same) c.requires

pub returns-then-is_bad_journal-clause-holding : goal.returns-then-is_bad_journal-clause-holding
returns-then-is_bad_journal-clause-holding g c = λ before coming pieces opening taken fresh e.
    let stop = c.in-Err.ensures.fault in (
      c.if-plan.true,
      held_on _ _ c.serve_taken-stop-then-is_bad_journal.result _ _
          (held_turn _ _ c.serve_taken-stop-then-is_bad_journal.result c.refuse-stop.result c.in-Err.fault _ _ (g.O.Sink.contents c.refuse-stop.new.out) stop.0 stop.1 pieces stop.2 stop.3
          c.refuse-stop.ensures.refusal (c.is_bad_journal.ensures.bad c.if-is_bad_journal.true) c.in-Err.ensures.same (rw c.serve_taken-stop-then-is_bad_journal.ensures.coming taken)
          (c.serve_taken-stop-then-is_bad_journal.ensures.told before pieces opening fresh))
          (c.goes_on-then-is_bad_journal.ensures.ok _ e).1,
    )

pub returns-then-is_bad_journal-clause-stops : goal.returns-then-is_bad_journal-clause-stops
returns-then-is_bad_journal-clause-stops g c = λ before coming pieces opening taken fresh.
    let stop = c.in-Err.ensures.fault in
    stops_as _ c.goes_on-then-is_bad_journal.result c.serve_taken-stop-then-is_bad_journal.result c.goes_on-then-is_bad_journal.ensures.err (λ other. inr (inr (
      c.if-plan.true,
      some_status c.serve_taken-stop-then-is_bad_journal.result other,
      held_turn _ _ c.serve_taken-stop-then-is_bad_journal.result c.refuse-stop.result c.in-Err.fault _ _ (g.O.Sink.contents c.refuse-stop.new.out) stop.0 stop.1 pieces stop.2 stop.3
          c.refuse-stop.ensures.refusal (c.is_bad_journal.ensures.bad c.if-is_bad_journal.true) c.in-Err.ensures.same (rw c.serve_taken-stop-then-is_bad_journal.ensures.coming taken)
          (c.serve_taken-stop-then-is_bad_journal.ensures.told before pieces opening fresh),
    )))

pub returns-else-plan-clause-stops : goal.returns-else-plan-clause-stops
returns-else-plan-clause-stops g c = λ before coming pieces opening taken fresh.
    let stop = c.in-Err.ensures.fault in
    inr (inl (record {
      gained = stop.0;
      ended = stop.1;
      gives = stop.2;
      fault = c.in-Err.fault;
      because = stop.3;
      refusal = c.refuse-stop.ensures.refusal;
      other = λ on seven. elim c.else-plan.branch [
        | else-plan-via-then-plan+else-is_bad_journal w ↦ w.is_bad_journal.ensures.other w.if-is_bad_journal.false (one_stop c.refuse-stop.result stop'.BadJournal seven)
        | else-plan-via-else-plan w ↦ not_both _ on w.if-plan.false
      ];
      pieces = pieces;
      taken = rw c.give_back.ensures.coming taken;
      logged = logged IsConnectionUntouched before _ _ _ opening (c.give_back.ensures.untouched pieces fresh);
    }))
