use Rattle.std.proofs.Common.{ap, refl, sym, ◌∙◌, Ok}
use Rattle.sb_service.specs.declared.stop.Stop.TheVariants as stop
use Rattle.sb_service.specs.Stops.{status_of}
use Rattle.sb_service.proofs.Stops.{not_of_answer, one_ending, one_stop}
use Rattle.sb_service.proofs.service.run_command.Goals as goal

pub returns-in-Ok-clause-counts : goal.returns-in-Ok-clause-counts
returns-in-Ok-clause-counts g c = record {
  read = λ e. c.in-Ok.ensures.failed (ap Ok (one_stop c.in-Ok.stop stop.ReadFault (sym c.status_of.ensures ∙ e)));
  read_kept = λ no. c.in-Ok.ensures.read_kept (λ e. no (c.status_of.ensures ∙ ap status_of (one_ending _ _ e)));
  written = λ e. c.in-Ok.ensures.output_failed (ap Ok (one_stop c.in-Ok.stop stop.WriteFault (sym c.status_of.ensures ∙ e)));
  written_kept = λ no other. c.in-Ok.ensures.output_kept (λ e. no (c.status_of.ensures ∙ ap status_of (one_ending _ _ e)));
  door_failed = λ e. absurd ((not_of_answer c.in-Ok.stop c.in-Ok.ensures.ends).2 (sym c.status_of.ensures ∙ e));
  door_kept = λ no. refl;
}
