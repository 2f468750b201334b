-- What honest rounds save.
use Rattle.std.proofs.Common.{ℕ, List, [], ◌∷◌, map}
use Rattle.std.specs.Prelude.{All, Option}
use Rattle.std.proofs.lemmas.List.Elements.{All-nil}
use Rattle.sb_model.specs.History.{History, IsWellFormed}
use Rattle.sb_model.specs.Naming.{Naming}
use Rattle.sb_model.specs.declared.names.ListName.{ListName}
use Rattle.update_messages.specs.Messages.{UpdatedList}
use Rattle.update_client.specs.Held.{Held}
use Rattle.sb_round.specs.Law.{KeepsReplicas as StaysReplicas}
use Rattle.sb_round.specs.Round.{Round}
use Rattle.sb_round.specs.Rounds.{round_updates}
use Rattle.update_run.specs.Opening.{first_lists}
use Rattle.update_run.specs.Saved.{saved_lists}
use Rattle.client_laws.specs.Runs.{SavesReplicas, StoresBeginRuns}
use Rattle.client_laws.specs.Met.{AreHonestRounds}
use Rattle.client_laws.specs.Replicas.{AreReplicasOf, IsKeptSafely}
use Rattle.client_laws.proofs.Names.{NamesGo, first_named}
use Rattle.client_laws.proofs.Saved.{all_saved}

module _ (stays : (lists : List Held) (bodies : List (List UpdatedList)) → StaysReplicas lists bodies) (begin : StoresBeginRuns) (names_go : NamesGo) where
  of_rounds : (history : History) (token_at : Naming) (names : List ListName) (kept : Option (List ℕ)) (rounds : List Round)
      → IsWellFormed history → IsKeptSafely history token_at kept → AreHonestRounds history token_at (first_lists names kept) rounds
      → All (AreReplicasOf history token_at names) (saved_lists (first_lists names kept) rounds)
  of_rounds history token_at names kept [] formed safe honest = All-nil (AreReplicasOf history token_at names)
  of_rounds history token_at names kept (round ∷ rounds) formed safe (naming, honest, apart) =
      let lists = first_lists names kept in
      let all = round ∷ rounds in
      all_saved history token_at names lists all (first_named names_go names kept)
      (stays lists (map round_updates all) history token_at formed naming (begin history token_at kept names safe) honest apart)

  pub saves_replicas : SavesReplicas
  saves_replicas = of_rounds
