-- The example meets the premises of the law of chains.
use Rattle.std.proofs.Common.{ℕ, inl, inr, List, [], ◌∷◌, refl, arith}
use Rattle.std.specs.Prelude.{All, IsTrue}
use Rattle.std.proofs.lemmas.List.Elements.{All-cons, All-nil}
use Rattle.update_client.specs.Held.{Held, has_token, nothing_held}
use Rattle.update_client.specs.Replica.{AreReplicas, IsAtVersion, IsEmptyList}
use Rattle.delta_server.specs.Tokens.{server_token}
use Rattle.mirror_places.specs.Replica.{IsAtPlace, IsMirrorReplica}
use Rattle.mirror_places.specs.Tokens.{mirror_token}
use Rattle.mirror_laws.specs.Chains.{CameThrough, IsChain, LeadsUp}
use Rattle.mirror_laws.specs.Example.{chain_history, chain_list, chain_naming, chain_of_two, first_mirror, held_below_mirror, held_beside_server, held_by_client, nothing_yet, second_mirror}
use Rattle.mirror_laws.specs.Mirrors.{AreOfMirror}

-- ---- tokens

pub server_token_there : IsTrue (has_token held_beside_server)
unfolding server_token
server_token_there = refl

pub mirror_token_there : IsTrue (has_token held_below_mirror)
unfolding mirror_token
mirror_token_there = refl

pub client_token_there : IsTrue (has_token held_by_client)
unfolding mirror_token
client_token_there = refl

-- ---- what each held

server_at : IsAtVersion chain_history chain_naming held_beside_server
server_at = record { version = 1; within = omega arith; declared = refl; token = refl; set = refl }

first_at : IsAtPlace 2 first_mirror.places held_below_mirror
first_at = record {
  place = 1;
  lists = held_beside_server ∷ [];
  there = refl;
  own = held_beside_server;
  named = refl;
  token = refl;
  set = refl;
  fetched = server_token_there;
}

second_at : IsAtPlace 3 second_mirror.places held_by_client
second_at = record {
  place = 1;
  lists = held_below_mirror ∷ [];
  there = refl;
  own = held_below_mirror;
  named = refl;
  token = refl;
  set = refl;
  fetched = mirror_token_there;
}

nothing_there : IsEmptyList (nothing_held chain_list)
nothing_there = record { token = refl; set = refl }

-- ---- the premises

all_one : {X : Type 0} (P : X → Type 0) (x : X) → P x → All P (x ∷ [])
all_one P x is = All-cons P x [] is (All-nil P)

abbrev OfFirst : Held → Type 0
OfFirst = IsMirrorReplica 2 first_mirror.places

abbrev OfSecond : Held → Type 0
OfSecond = IsMirrorReplica 3 second_mirror.places

pub begins_with_nothing : (epoch : ℕ) (places : List (List Held)) → All (IsMirrorReplica epoch places) nothing_yet
begins_with_nothing epoch places = all_one (IsMirrorReplica epoch places) (nothing_held chain_list) (inl nothing_there)

pub first_is_chain : IsChain chain_history chain_naming (first_mirror ∷ [])
first_is_chain = (
  All-cons (AreReplicas chain_history chain_naming) nothing_yet ((held_beside_server ∷ []) ∷ []) (inl nothing_there, tt)
      (all_one (AreReplicas chain_history chain_naming) (held_beside_server ∷ []) (inr server_at, tt)),
  tt,
)

pub is_chain : IsChain chain_history chain_naming chain_of_two
is_chain = (
  All-cons (AreOfMirror first_mirror) nothing_yet ((held_below_mirror ∷ []) ∷ []) (begins_with_nothing 2 first_mirror.places)
      (all_one (AreOfMirror first_mirror) (held_below_mirror ∷ []) (all_one OfFirst held_below_mirror (inr first_at))),
  first_is_chain,
)

pub came_through : CameThrough chain_history chain_naming chain_of_two (held_by_client ∷ [])
came_through = all_one OfSecond held_by_client (inr second_at)

pub leads_up : LeadsUp chain_of_two held_by_client held_beside_server
unfolding second_at first_at
leads_up = (second_at, (first_at, refl))
