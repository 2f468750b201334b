use Rattle.std.proofs.Common.{[], ◌∷◌, refl, arith}
use Rattle.mirror_laws.specs.Example.{chain_history, chain_naming, chain_of_two, held_beside_server, held_by_client}
use Rattle.mirror_laws.proofs.ExampleFacts.{came_through, client_token_there, is_chain, leads_up}
use Rattle.mirror_laws.proofs.example.premises_of_a_chain_are_met.Goals as goal

pub returns-clause-naming : goal.returns-clause-naming
returns-clause-naming c = c.tokens_name_versions.ensures chain_history (omega arith) (omega arith)

pub returns-clause-chain : goal.returns-clause-chain
returns-clause-chain c = is_chain

pub returns-clause-came : goal.returns-clause-came
returns-clause-came c = came_through

pub returns-clause-leads : goal.returns-clause-leads
returns-clause-leads c = leads_up

pub returns-clause-server : goal.returns-clause-server
returns-clause-server c =
    c.chains_lead_to_the_server.ensures.server chain_history chain_naming chain_of_two (held_by_client ∷ []) held_by_client held_beside_server is_chain came_through
    (0, omega arith, refl) client_token_there leads_up
