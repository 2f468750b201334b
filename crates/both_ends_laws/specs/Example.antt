-- A small run that meets every premise of the headline of runs: the server and the whole update of the small replay, and two sessions of a link's
-- log. The premises do not speak of what was sent, the clock, the dice, the keeper after the run and the output: what stands there means nothing.
use Rattle.std.specs.Prelude.{ℕ, true, false, List, [], ◌∷◌, Some, None}
use Rattle.sb_model.specs.declared.time.Moment.{Moment}
use Rattle.sb_outside.specs.declared.links.Kind.TheVariants.{Update}
use Rattle.sb_outside.specs.declared.links.Session.{Session}
use Rattle.http_edge.specs.Responses.{response_text}
use Rattle.http_edge.specs.declared.messages.Allow.TheVariants.{Post}
use Rattle.http_edge.specs.declared.messages.MediaType.TheVariants.{Json}
use Rattle.http_edge.specs.declared.messages.Status.TheVariants.{Success}
use Rattle.http_edge.specs.declared.messages.Target.{Target}
use Rattle.update_messages.specs.Messages.{UpdatedList}
use Rattle.update_messages.specs.Writing.{spelling_of_response}
use Rattle.update_messages.specs.declared.response.FetchResponse.{FetchResponse}
use Rattle.update_client.specs.Held.{Held}
use Rattle.update_client.specs.declared.options.FetchOptions.{FetchOptions}
use Rattle.update_run.specs.Run.{Seen, seen}
use Rattle.update_run.specs.Saved.{keeping}
use Rattle.update_run.specs.declared.plan.Plan.{Plan}
use Rattle.timed_sessions.specs.Told.{outside}
use Rattle.update_replay.specs.Example.{example_name, first_set, example_whole_update}

-- ---- what the client is to do

-- to keep the server's list up to date for two rounds, with any options, whoever is asked; each body needs its digest
abbrev pub example_plan : FetchOptions → Target → Plan
example_plan options target = record { names = example_name ∷ []; rounds = 2; options = options; target = target; need_digest = true }

-- ---- what was received

-- the message of the first session: the whole update to the first version
abbrev pub example_message : FetchResponse
example_message = record { items = example_whole_update ∷ []; wait = 0 }

-- its one spelling
abbrev pub example_body : List ℕ
example_body = spelling_of_response example_message

-- the moment at which each session is begun and closed
abbrev pub example_moment : Moment
example_moment = record { 0 = 0 }

-- The first session received the response of status 200 with this body, whole.
abbrev pub answered_session : Session
answered_session = record {
  kind = Update;
  begun = example_moment;
  began = true;
  sent = [];
  received = response_text Success (record { allow = Post; media = Json }) example_body;
  ended = true;
  failed = false;
  closed = Some example_moment;
}

-- The second failed, and brought nothing.
abbrev pub lost_session : Session
lost_session = record { kind = Update; begun = example_moment; began = true; sent = []; received = []; ended = false; failed = true; closed = Some example_moment }

-- the link's log after the run
abbrev pub example_sessions : List Session
example_sessions = answered_session ∷ lost_session ∷ []

-- the updates that they brought
abbrev pub example_bodies : List (List UpdatedList)
example_bodies = (example_whole_update ∷ []) ∷ [] ∷ []

-- ---- what is seen

-- the link tells these sessions and so many faults, and nothing is kept
abbrev pub seen_with : List Session → ℕ → Seen
seen_with sessions faults = seen (outside (Some sessions) (Some []) (Some []) (Some []) faults) (keeping (Some []) (Some None)) (Some [])

abbrev pub example_before : Seen
example_before = seen_with [] 0

abbrev pub example_after : Seen
example_after = seen_with example_sessions 1

-- the list as it is held in the end
abbrev pub held_at_end : Held
held_at_end = record { name = example_name; token = 1 ∷ []; set = first_set; resync = false }
