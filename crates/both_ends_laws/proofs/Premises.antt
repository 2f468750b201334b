-- The example meets the premises of the headline of runs, and the update of its first session is held in the end.
use Rattle.std.proofs.Common.{◌≡◌, ℕ, inl, List, [], ◌∷◌, ◌++◌, true, refl, subst, None, Ok, Err}
use Rattle.std.specs.Prelude.{Contains}
use Rattle.std.proofs.lemmas.List.{append-nil}
use Rattle.std.proofs.lemmas.List.Elements.{Contains-append_left}
use Rattle.sha2.specs.Sha256.{compress, digest_bytes, first_words, hash_after, rounds, schedule, sha256}
use Rattle.rice_coding.specs.Bits.{byte_bits}
use Rattle.rice_coding.specs.Reading.{delta_at, reading}
use Rattle.rice_coding.specs.Decoding.{decoding_of}
use Rattle.sb_model.specs.History.{IsWellFormed}
use Rattle.sb_model.specs.Naming.{IsNaming}
use Rattle.http_edge.specs.Law.{PassesAsWritten}
use Rattle.http_edge.specs.Outcomes.{BytesOutcome}
use Rattle.http_edge.specs.declared.faults.ExchangeFault.TheVariants.{Link}
use Rattle.http_edge.specs.declared.messages.Allow.TheVariants.{Post}
use Rattle.http_edge.specs.declared.messages.MediaType.TheVariants.{Json}
use Rattle.http_edge.specs.declared.messages.Target.{Target}
use Rattle.update_messages.specs.Messages.{UpdatedList}
use Rattle.update_messages.specs.Reading.{IsTextOf, ReadsResponse}
use Rattle.update_client.specs.Held.{Held, nothing_held, nothing_held_of}
use Rattle.update_client.specs.Step.{list_step}
use Rattle.update_client.specs.declared.options.FetchOptions.{FetchOptions}
use Rattle.sb_round.specs.Collision.{candidates_of, candidates_of_updates, HasNoCollision, IsSetOfRun, Proposed, Served}
use Rattle.sb_round.specs.Honest.{IsHonest}
use Rattle.sb_round.specs.Sessions.{IsBodyOf}
use Rattle.sb_round.specs.declared.rounds.RoundFault.TheVariants.{Exchange}
use Rattle.client_laws.specs.Met.{MeetsHonest}
use Rattle.update_replay.specs.Readings.{bodies_of}
use Rattle.update_replay.specs.Example.{example_name, example_history, example_tokens, example_readings, example_whole_update}
use Rattle.both_ends_laws.specs.Example.{example_plan, example_message, example_body, answered_session, lost_session, example_sessions, example_bodies, example_before, example_after, held_at_end}
use Rattle.both_ends_laws.proofs.Message.{body_is_short}

-- ---- what the sessions brought

passed : ((body : List ℕ) → PassesAsWritten body) → BytesOutcome true answered_session.received true (Ok example_body)
passed passes =
    subst (λ (received : List ℕ). BytesOutcome true received true (Ok example_body)) (append-nil answered_session.received)
    (passes example_body body_is_short (record { allow = Post; media = Json }) [] true true)

answered : ((body : List ℕ) → PassesAsWritten body) → IsTextOf ReadsResponse example_body example_message → IsBodyOf true answered_session (example_whole_update ∷ [])
answered passes reads = record { outcome = Ok example_body; decides = passed passes; answer = Ok example_message; answers = reads; is = refl }

lost : IsBodyOf true lost_session []
lost = record { outcome = Err Link; decides = refl; answer = Err (Exchange Link); answers = refl; is = refl }

-- ---- a front of the bodies of the replay

abbrev first_lists_are : List Held
first_lists_are = nothing_held_of (example_name ∷ [])

abbrev replayed : List (List UpdatedList)
replayed = bodies_of example_readings

honest_front : IsHonest example_history example_tokens first_lists_are replayed → IsHonest example_history example_tokens first_lists_are example_bodies
honest_front h = (h.0, (tt, tt))

-- the sets that the first body proposes
abbrev first_candidates : List (List (List ℕ))
first_candidates = candidates_of_updates first_lists_are (example_whole_update ∷ [])

of_more : (more : List (List (List ℕ))) (set : List (List ℕ)) → IsSetOfRun example_history (first_candidates ++ []) set → IsSetOfRun example_history (first_candidates ++ more) set
of_more more set (Proposed there) =
    Proposed (Contains-append_left first_candidates more set (subst (λ (sets : List (List (List ℕ))). Contains sets set) (append-nil first_candidates) there))
of_more more set (Served list version declared within is) = Served list version declared within is

apart_front : HasNoCollision example_history (candidates_of first_lists_are replayed) → HasNoCollision example_history (candidates_of first_lists_are example_bodies)
apart_front apart a b of_a of_b =
    apart a b (of_more _ a of_a) (of_more _ b of_b)

-- ---- what is held in the end

-- what the update says, the digest of its set, and so the list after it
pub first_installed : list_step (nothing_held example_name) example_whole_update ≡ held_at_end
unfolding decoding_of reading delta_at byte_bits first_words schedule rounds compress hash_after digest_bytes sha256
first_installed = refl

-- ---- the premises

-- what is known of the replay's example
pub record Replay : Type 0 where
  pub formed : IsWellFormed example_history
  pub naming : IsNaming example_history example_tokens
  pub honest : IsHonest example_history example_tokens first_lists_are replayed
  pub apart : HasNoCollision example_history (candidates_of first_lists_are replayed)

pub meets : Replay → ((body : List ℕ) → PassesAsWritten body) → IsTextOf ReadsResponse example_body example_message
    → (options : FetchOptions) (target : Target) → MeetsHonest example_history example_tokens (example_plan options target) 2 example_before example_after
meets replay passes reads options target = record {
  server = record {
    well_formed = replay.formed;
    names_versions = replay.naming;
    kept = None;
    known = refl;
    sessions = example_sessions;
    log = record { earlier = []; was = refl; is = refl };
    bodies = example_bodies;
    are = (answered passes reads, (lost, tt));
    honest = honest_front replay.honest;
    no_collision = apart_front replay.apart;
  };
  replicas = (inl (record { token = refl; set = refl }), tt);
}
