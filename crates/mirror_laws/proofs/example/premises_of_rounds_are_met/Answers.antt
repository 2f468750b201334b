use Rattle.std.proofs.Common.{[], arith}
use Rattle.mirror_places.specs.Tokens.{mirror_token}
use Rattle.mirror_laws.specs.Example.{chain_history, chain_list, chain_naming, first_mirror, nothing_yet, rounds_below, second_mirror}
use Rattle.mirror_laws.proofs.ExampleFacts.{begins_with_nothing, first_is_chain, mirror_token_there, server_token_there}
use Rattle.mirror_laws.proofs.ExampleRounds.{are_rounds, can_be, fetched, nothing_is_held, places_are}
use Rattle.mirror_laws.proofs.example.premises_of_rounds_are_met.Goals as goal

pub returns-clause-first : goal.returns-clause-first
returns-clause-first c = can_be 2 (chain_naming chain_list 1) (omega arith)

pub returns-clause-second : goal.returns-clause-second
returns-clause-second c = can_be 3 (mirror_token 2 chain_list 1) (omega arith)

pub returns-clause-client : goal.returns-clause-client
returns-clause-client c = nothing_is_held

pub returns-clause-begins : goal.returns-clause-begins
returns-clause-begins c = begins_with_nothing 2 first_mirror.places

pub returns-clause-rounds : goal.returns-clause-rounds
returns-clause-rounds c = are_rounds 2 (chain_naming chain_list 1) server_token_there

pub returns-clause-places : goal.returns-clause-places
returns-clause-places c session word = places_are 2 (chain_naming chain_list 1) c.updates_lead_to_their_sets.ensures session word 3

pub returns-clause-after : goal.returns-clause-after
returns-clause-after c session word = fetched 3 (mirror_token 2 chain_list 1) c.updates_lead_to_their_sets.ensures session word

pub returns-clause-chain : goal.returns-clause-chain
returns-clause-chain c session word =
    c.rounds_make_chains.ensures.further chain_history chain_naming first_mirror [] 3 nothing_yet (rounds_below first_mirror session word) first_is_chain
    (can_be 2 (chain_naming chain_list 1) (omega arith)) nothing_is_held (begins_with_nothing 2 first_mirror.places) (are_rounds 2 (chain_naming chain_list 1) server_token_there session word)

pub returns-clause-follows : goal.returns-clause-follows
returns-clause-follows c session word =
    c.rounds_follow_mirrors.ensures second_mirror nothing_yet (rounds_below second_mirror session word) (can_be 3 (mirror_token 2 chain_list 1) (omega arith))
    nothing_is_held (begins_with_nothing 3 second_mirror.places) (are_rounds 3 (mirror_token 2 chain_list 1) mirror_token_there session word)
