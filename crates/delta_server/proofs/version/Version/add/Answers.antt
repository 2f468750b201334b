use Rattle.std.proofs.Common.{◌≡◌, List, [], ◌∷◌, ◌++◌, refl, sym, subst}
use Rattle.sb_model.specs.declared.history.Added.{Added}
use Rattle.sb_model.specs.History.{prefix_of, without_hash}
use Rattle.delta_server.specs.Counts.{Gains}
use Rattle.delta_server.proofs.EntryFacts.{gains_push}
use Rattle.delta_server.proofs.version.Version.add.Goals as goal

pub returns-clause-ok : goal.returns-clause-ok
returns-clause-ok c = λ entries stands.
    let added : Added = c.args.added.now in
    let left : List Added = without_hash entries added.hash in
    let own : prefix_of added ≡ c.prefix-prefix.result = sym c.prefix-prefix.ensures in
    let knows = c.in_ok-gone.ensures.knows entries added refl own stands.knows in
    record {
      knows = knows;
      counts = c.in_ok-enter.ensures.ok left (left ++ added ∷ []) (subst (Gains left (left ++ added ∷ [])) own (gains_push left added))
          (c.in_ok-gone.ensures.few (left ++ added ∷ []) knows)
          (c.in_ok-leave_if.ensures.ok entries added.hash stands.knows.apart (c.in_ok-gone.ensures.prefix entries stands.knows) stands.counts);
    }
