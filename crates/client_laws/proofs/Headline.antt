-- The headline of one run, wherever it stopped.
use Rattle.std.proofs.Common.{◌≡◌, ℕ, List, [], ◌∷◌, ◌++◌, Bool, true, length, take, map, refl, sym, ap, subst, ◌∙◌, inl, inr, append-nil}
use Rattle.std.specs.Prelude.{All, Option, Some, Ok, Err}
use Rattle.std.proofs.lemmas.List.{length-map}
use Rattle.std.proofs.lemmas.List.Elements.{All-nil}
use Rattle.sb_model.specs.History.{History}
use Rattle.sb_model.specs.Naming.{Naming}
use Rattle.sb_outside.specs.Outside.{IfTold}
use Rattle.sb_outside.specs.declared.links.Session.{Session}
use Rattle.update_messages.specs.Messages.{UpdatedList}
use Rattle.update_client.specs.Held.{Held}
use Rattle.update_client.specs.Replica.{AreReplicas}
use Rattle.timed_sessions.specs.Told.{Outside, with_more}
use Rattle.sb_round.specs.Collision.{candidates_of, HasNoCollision}
use Rattle.sb_round.specs.Honest.{IsHonest}
use Rattle.sb_round.specs.Law.{KeepsReplicas as StaysReplicas}
use Rattle.sb_round.specs.Round.{Round, BreaksOff}
use Rattle.sb_round.specs.Run.{lists_after}
use Rattle.sb_round.specs.Rounds.{round_updates, round_entry, RoundsAreTheirSessions}
use Rattle.sb_round.specs.Sessions.{AreBodiesOf, HasOneListOfBodies}
use Rattle.update_run.specs.Opening.{first_lists}
use Rattle.update_run.specs.Run.{Seen, HasMade, IsLoaded, IsRun, HasNotBegun, StopsAtSave, StopsAfter, BreaksOffAfter, RunEnding, EndsRun}
use Rattle.update_run.specs.Saved.{HasSaved, MayLackLast, ReadsAgain, saved_lists}
use Rattle.update_run.specs.declared.plan.Plan.{Plan}
use Rattle.update_run.specs.declared.stop.RunStop.{RunStop}
use Rattle.update_run.specs.declared.stop.RunStop.TheVariants as stop
use Rattle.client_laws.specs.Runs.{HoldsOfRuns}
use Rattle.client_laws.specs.Met.{MeetsHonest}
use Rattle.client_laws.specs.Replicas.{AreReplicasOf, HandsReplicas, KeepsSafely, TellsReplicas}
use Rattle.client_laws.specs.Rows.{lacks_memory, HoldsReplicas, IsHeadline}
use Rattle.client_laws.proofs.Logs.{told_itself, told_nothing, told_both, logged_are, all_taken, last_not_taken, taken_are}
use Rattle.client_laws.proofs.Names.{NamesGo, first_named}
use Rattle.client_laws.proofs.Saved.{CutsAreNotRead, ReadTextsAreStores, StayReplicas, all_saved, last_are, some_of, hands_saved, hands_torn}

module _ (stays : (lists : List Held) (bodies : List (List UpdatedList)) → StaysReplicas lists bodies) (theirs : RoundsAreTheirSessions) (one : HasOneListOfBodies)
    (cuts : CutsAreNotRead) (reads : ReadTextsAreStores) (names_go : NamesGo) (plan : Plan)
  where
    -- ---- the rounds of a run, as the log tells them

    entries : (kept : Option (List ℕ)) (rounds : List Round) (before middle : Outside) → HasMade plan kept rounds before middle
        → IfTold middle.log (with_more before.log (map round_entry rounds))
    entries kept rounds before middle made =
        let law = theirs (first_lists plan.names kept) made.waits plan.options plan.target plan.need_digest rounds made.made.are in
        let rest = subst (λ more. IfTold middle.log (with_more made.opened.log more)) law.0 made.made.told.log in
        told_both before.log made.opened.log middle.log [] (map round_entry rounds) made.opens.told.log rest

    counted : (rounds : List Round) → length rounds ≡ length (map round_entry rounds)
    counted rounds = sym (length-map rounds round_entry)

    with_none : (kept : Option (List ℕ)) (rounds : List Round) (before middle : Outside) → HasMade plan kept rounds before middle
        → IfTold middle.log (with_more before.log (map round_entry rounds ++ []))
    with_none kept rounds before middle made =
        subst (λ more. IfTold middle.log (with_more before.log more)) (sym (append-nil (map round_entry rounds))) (entries kept rounds before middle made)

    with_one : (kept : Option (List ℕ)) (rounds : List Round) (before middle after : Outside) (last : Session) → HasMade plan kept rounds before middle
        → IfTold after.log (with_more middle.log (last ∷ [])) → IfTold after.log (with_more before.log (map round_entry rounds ++ last ∷ []))
    with_one kept rounds before middle after last made told =
        told_both before.log middle.log after.log (map round_entry rounds) (last ∷ []) (entries kept rounds before middle made) told

    -- ---- where their bodies are honest

    module _ (history : History) (token_at : Naming) (before after : Seen) where
      same_kept : (kept text : Option (List ℕ)) → before.keeper.kept ≡ Some text → IsLoaded kept before.keeper.kept → text ≡ kept
      same_kept kept text known loaded = sym (subst (λ all. IsLoaded kept all) known loaded)

      stay : (kept : Option (List ℕ)) (rounds : List Round) (middle : Outside) (more : List Session) → IsLoaded kept before.keeper.kept
          → HasMade plan kept rounds before.outside middle → IfTold after.outside.log (with_more before.outside.log (map round_entry rounds ++ more))
          → MeetsHonest history token_at plan (length rounds) before after → StayReplicas history token_at (first_lists plan.names kept) rounds
      stay kept rounds middle more loaded made told meets =
          let server = meets.server in
          let same : server.kept ≡ kept = same_kept kept server.kept server.known loaded in
          let law = theirs (first_lists plan.names kept) made.waits plan.options plan.target plan.need_digest rounds made.made.are in
          let sessions : server.sessions ≡ map round_entry rounds ++ more = logged_are server.sessions (map round_entry rounds ++ more) before.outside.log after.outside.log server.log told in
          let bodies : take (length rounds) server.bodies ≡ map round_updates rounds =
          taken_are one plan.need_digest (map round_entry rounds) more (map round_updates rounds) server.bodies (length rounds) (counted rounds) law.1
          (subst (λ all. AreBodiesOf plan.need_digest all server.bodies) sessions server.are)
          in
          let honest : IsHonest history token_at (first_lists plan.names kept) (map round_updates rounds) =
          subst (λ all. IsHonest history token_at (first_lists plan.names kept) all) bodies
          (subst (λ text. IsHonest history token_at (first_lists plan.names text) (take (length rounds) server.bodies)) same server.honest)
          in
          let apart : HasNoCollision history (candidates_of (first_lists plan.names kept) (map round_updates rounds)) =
          subst (λ all. HasNoCollision history (candidates_of (first_lists plan.names kept) all)) bodies
          (subst (λ text. HasNoCollision history (candidates_of (first_lists plan.names text) (take (length rounds) server.bodies))) same server.no_collision)
          in
          stays (first_lists plan.names kept) (map round_updates rounds) history token_at server.well_formed server.names_versions
          (subst (λ text. AreReplicas history token_at (first_lists plan.names text)) same meets.replicas) honest apart

      -- all that rounds save
      saved_are : (kept : Option (List ℕ)) (rounds : List Round) → StayReplicas history token_at (first_lists plan.names kept) rounds
          → All (AreReplicasOf history token_at plan.names) (saved_lists (first_lists plan.names kept) rounds)
      saved_are kept rounds stay = all_saved history token_at plan.names (first_lists plan.names kept) rounds (first_named names_go plan.names kept) stay

      hands_some : (kept : Option (List ℕ)) (rounds : List Round) (stores : List (List Held)) → StayReplicas history token_at (first_lists plan.names kept) rounds
          → MayLackLast (saved_lists (first_lists plan.names kept) rounds) stores → HasSaved stores before.keeper after.keeper
          → HandsReplicas history token_at plan before after × KeepsSafely history token_at before after
      hands_some kept rounds stores stay most saved =
          hands_saved history token_at plan before after stores
          (some_of history token_at plan.names (saved_lists (first_lists plan.names kept) rounds) stores most (saved_are kept rounds stay)) saved

      tells : (refused : Bool) (run : IsRun plan refused before after) → MeetsHonest history token_at plan (length run.rounds) before after
          → StayReplicas history token_at (first_lists plan.names run.kept) run.rounds → TellsReplicas history token_at plan before after
      tells refused run meets stay = record {
        kept = run.kept;
        known = meets.server.known ∙ ap (λ text. Some text) (same_kept run.kept meets.server.kept meets.server.known run.loaded);
        rounds = run.rounds;
        all = run.all;
        made = run.made;
        lists = lists_after (first_lists plan.names run.kept) (map round_updates run.rounds);
        are = refl;
        replicas = last_are history token_at plan.names (first_lists plan.names run.kept) run.rounds (first_named names_go plan.names run.kept) stay;
        text = run.text;
      }

    -- ---- how a run ends

    whole : (refused : Bool) (before after : Seen) → IsRun plan refused before after → IsHeadline plan (Ok refused) before after
    whole refused before after run =
        let told = entries run.kept run.rounds before.outside after.outside run.made in
        let told_with = with_none run.kept run.rounds before.outside after.outside run.made in
        record {
          taken = length run.rounds;
          some = all_taken (lacks_memory (Ok refused)) (length run.rounds) before.outside.log after.outside.log (map round_entry run.rounds) (counted run.rounds) told;
          holds = λ history token_at meets.
              let through = stay history token_at before after run.kept run.rounds after.outside [] run.loaded run.made told_with meets in
              let hands = hands_some history token_at before after run.kept run.rounds (saved_lists (first_lists plan.names run.kept) run.rounds) through (inl refl) run.saved in
              record { hands = hands.0; keeps = hands.1; tells = tells history token_at before after refused run meets through };
        }

    not_begun : (why : RunStop) (before after : Seen) → HasNotBegun before after → IsHeadline plan (Err why) before after
    not_begun why before after same =
        subst (λ later. IsHeadline plan (Err why) before later) (sym same) (record {
          taken = 0;
          some = all_taken (lacks_memory (Err why)) 0 before.outside.log before.outside.log [] refl (told_nothing before.outside.log);
          holds = λ history token_at meets.
              let nothing : HasSaved [] before.keeper before.keeper = record { handed = told_nothing before.keeper.handed; keeps = told_itself before.keeper.kept; reads = All-nil ReadsAgain } in
              let hands = hands_saved history token_at plan before before [] (All-nil (AreReplicasOf history token_at plan.names)) nothing in
              record { hands = hands.0; keeps = hands.1; tells = tt };
        })

    after_rounds : (why : RunStop) (before after : Seen) → StopsAfter plan before after → IsHeadline plan (Err why) before after
    after_rounds why before after stops =
        let told = entries stops.kept stops.rounds before.outside after.outside stops.made in
        let told_with = with_none stops.kept stops.rounds before.outside after.outside stops.made in
        record {
          taken = length stops.rounds;
          some = all_taken (lacks_memory (Err why)) (length stops.rounds) before.outside.log after.outside.log (map round_entry stops.rounds) (counted stops.rounds) told;
          holds = λ history token_at meets.
              let through = stay history token_at before after stops.kept stops.rounds after.outside [] stops.loaded stops.made told_with meets in
              let hands = hands_some history token_at before after stops.kept stops.rounds stops.stores through stops.most stops.saved in
              record { hands = hands.0; keeps = hands.1; tells = tt };
        }

    at_save : (before after : Seen) → StopsAtSave plan before after → IsHeadline plan (Err stop.KeepFault) before after
    at_save before after stops =
        let told = entries stops.kept stops.rounds before.outside after.outside stops.made in
        let told_with = with_none stops.kept stops.rounds before.outside after.outside stops.made in
        record {
          taken = length stops.rounds;
          some = all_taken (lacks_memory (Err stop.KeepFault)) (length stops.rounds) before.outside.log after.outside.log (map round_entry stops.rounds) (counted stops.rounds) told;
          holds = λ history token_at meets.
              let through = stay history token_at before after stops.kept stops.rounds after.outside [] stops.loaded stops.made told_with meets in
              let replicas = subst (λ all. All (AreReplicasOf history token_at plan.names) all) stops.saves (saved_are history token_at before after stops.kept stops.rounds through) in
              let hands = hands_torn history token_at cuts reads plan before after stops.between stops.earlier stops.last replicas stops.saved stops.fails in
              record { hands = hands.0; keeps = hands.1; tells = tt };
        }

    in_round : (before after : Seen) → BreaksOffAfter plan before after → IsHeadline plan (Err stop.OutOfMemory) before after
    in_round before after stops = either stops.breaks
      where
        holds_with : (more : List Session) → IfTold after.outside.log (with_more before.outside.log (map round_entry stops.rounds ++ more))
            → (history : History) (token_at : Naming) → MeetsHonest history token_at plan (length stops.rounds) before after
            → HoldsReplicas history token_at plan (Err stop.OutOfMemory) before after
        holds_with more told history token_at meets =
            let through = stay history token_at before after stops.kept stops.rounds stops.between more stops.loaded stops.made told meets in
            let hands = hands_some history token_at before after stops.kept stops.rounds (saved_lists (first_lists plan.names stops.kept) stops.rounds) through (inl refl) stops.saved in
            record { hands = hands.0; keeps = hands.1; tells = tt }

        either : BreaksOff stops.made.lists stops.made.waits_now plan.options plan.target stops.between after.outside → IsHeadline plan (Err stop.OutOfMemory) before after
        either (inl same) =
            let told = subst (λ (later : Outside). IfTold later.log (with_more before.outside.log (map round_entry stops.rounds))) (sym same) (entries stops.kept stops.rounds before.outside stops.between stops.made) in
            let told_with = subst (λ more. IfTold after.outside.log (with_more before.outside.log more)) (sym (append-nil (map round_entry stops.rounds))) told in
            record {
              taken = length stops.rounds;
              some = all_taken true (length stops.rounds) before.outside.log after.outside.log (map round_entry stops.rounds) (counted stops.rounds) told;
              holds = holds_with [] told_with;
            }
        either (inr held) =
            let told = with_one stops.kept stops.rounds before.outside stops.between after.outside held.session.entry stops.made held.told.log in
            record {
              taken = length stops.rounds;
              some = last_not_taken true (length stops.rounds) before.outside.log after.outside.log (map round_entry stops.rounds) held.session.entry refl (counted stops.rounds) told;
              holds = holds_with (held.session.entry ∷ []) told;
            }

    ends : (ending : RunEnding) (before after : Seen) → EndsRun plan ending before after → IsHeadline plan ending before after
    ends (Ok refused) before after run = whole refused before after run
    ends (Err stop.WriteFault) before after stops = after_rounds stop.WriteFault before after stops
    ends (Err stop.KeepFault) before after (inl same) = not_begun stop.KeepFault before after same
    ends (Err stop.KeepFault) before after (inr stops) = at_save before after stops
    ends (Err stop.OutOfMemory) before after (inl same) = not_begun stop.OutOfMemory before after same
    ends (Err stop.OutOfMemory) before after (inr (inl stops)) = after_rounds stop.OutOfMemory before after stops
    ends (Err stop.OutOfMemory) before after (inr (inr stops)) = in_round before after stops

pub holds_of_runs : ((lists : List Held) (bodies : List (List UpdatedList)) → StaysReplicas lists bodies) → RoundsAreTheirSessions → HasOneListOfBodies
    → CutsAreNotRead → ReadTextsAreStores → NamesGo → HoldsOfRuns
holds_of_runs stays theirs one cuts reads names_go plan ending before after run = ends stays theirs one cuts reads names_go plan ending before after run
