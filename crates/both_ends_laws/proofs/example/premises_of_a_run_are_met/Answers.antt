use Rattle.std.proofs.Common.{[], ◌∷◌, ap}
use Rattle.update_client.specs.Held.{Held}
use Rattle.both_ends_laws.proofs.Message.{body_reads}
use Rattle.both_ends_laws.proofs.Premises.{first_installed, meets}
use Rattle.both_ends_laws.proofs.example.premises_of_a_run_are_met.Goals as goal

pub returns-clause-met : goal.returns-clause-met
returns-clause-met c =
    meets (record {
      formed = c.premises_are_met.ensures.formed;
      naming = c.premises_are_met.ensures.naming;
      honest = c.premises_are_met.ensures.honest;
      apart = c.premises_are_met.ensures.apart;
    })
    c.passes.ensures
    (body_reads c.written_values_read_again.ensures.response c.written_values_read_again.ensures.response_depth c.written_texts_are_counted.ensures.counts c.written_texts_are_counted.ensures.clear)

pub returns-clause-installed : goal.returns-clause-installed
returns-clause-installed c = ap (λ (held : Held). held ∷ []) first_installed
