-- Held lists lead up a chain, from mirror to mirror.
use Rattle.std.proofs.Common.{◌≡◌, ℕ, zero, suc, ◌<◌, inl, inr, List, [], ◌∷◌, true, length, get_or, refl, sym, ap, subst, ◌∙◌, arith}
use Rattle.std.specs.Prelude.{Contains, IsTrue, nat_le, not, slice_get, ◌↔◌}
use Rattle.std.proofs.lemmas.Option.{same_Some, slice_get_within}
use Rattle.std.proofs.lemmas.List.Elements.{All-cons, All-contains, All-head, All-tail}
use Rattle.sb_model.specs.declared.names.ListName.{ListName}
use Rattle.sb_model.specs.History.{History, declares, prefixes_at}
use Rattle.sb_model.specs.Names.{same_name}
use Rattle.sb_model.specs.Naming.{IsNaming, Naming}
use Rattle.update_client.specs.Held.{Held, has_token}
use Rattle.update_client.specs.Replica.{AreReplicas, IsReplicaOf}
use Rattle.update_client.specs.Step.{list_named}
use Rattle.mirror_places.specs.Replica.{IsAtPlace, IsMirrorReplica}
use Rattle.mirror_laws.specs.Chains.{CameThrough, ChainsHaveATop, ChainsLeadToTheServer, FirstMirrorsAreChains, FurtherMirrorsAreChains, IsChain, IsServersBy, LeadsUp, ListsWithoutATokenAreEmpty, TopsAreOne}
use Rattle.mirror_laws.specs.Mirrors.{AreOfMirror, IsMirrorHistory, MirrorHistory, PlacesAreReplicas, RoundsFollowMirrors}
use Rattle.mirror_laws.proofs.Elements.{all_at, found_by}
use Rattle.mirror_laws.proofs.StrangerFacts.{TokensName, no_token_is_empty}

-- two names are one exactly if they have the same codes
abbrev pub NamesGoByCodes : Type 0
NamesGoByCodes = (a b : ListName) → IsTrue (same_name a b) ↔ (a ≡ b)

-- no list has a token and has none
no_token : (held : Held) → held.token ≡ [] → IsTrue (has_token held) → ⊥
no_token held empty some =
    let is : not (nat_le 0 0) ≡ true = sym (ap (λ (token : List ℕ). not (nat_le (length token) 0)) empty) ∙ some in
    cc

module _ (history : History) (token_at : Naming) where
  -- ---- one list of those that came through

  abbrev OneCameThrough : List MirrorHistory → Held → Type 0
  OneCameThrough [] held = IsReplicaOf history token_at held
  OneCameThrough (mirror ∷ above) held = IsMirrorReplica mirror.epoch mirror.places held

  replica_at : (lists : List Held) → AreReplicas history token_at lists → (k : ℕ) (d : Held) → k < length lists → IsReplicaOf history token_at (get_or lists k d)
  replica_at [] all k d below = absurd (omega (arith, below))
  replica_at (held ∷ lists) all zero d below = all.0
  replica_at (held ∷ lists) all (suc k) d below = replica_at lists all.1 k d (omega (arith, below))

  one_of : (chain : List MirrorHistory) (lists : List Held) (held : Held) → CameThrough history token_at chain lists → Contains lists held → OneCameThrough chain held
  one_of [] lists held all there = subst (IsReplicaOf history token_at) there.2 (replica_at lists all there.0 held there.1)
  one_of (mirror ∷ above) lists held all there = All-contains (IsMirrorReplica mirror.epoch mirror.places) lists held all there

  -- what stands at the place that a list names
  own_came : (mirror : MirrorHistory) (above : List MirrorHistory) (held : Held) → IsChain history token_at (mirror ∷ above) → (at : IsAtPlace mirror.epoch mirror.places held)
      → OneCameThrough above at.own
  own_came mirror above held chain at =
      one_of above at.lists at.own (all_at (CameThrough history token_at above) mirror.places at.place at.lists chain.0 at.there)
      (found_by (λ (one : Held). same_name one.name held.name) at.lists at.own at.named).0

  -- ---- up the chain

  leads : (chain : List MirrorHistory) (held : Held) → IsChain history token_at chain → OneCameThrough chain held → IsTrue (has_token held) → (top : Held) × LeadsUp chain held top
  leads [] held chain came some = (held, refl)
  leads (mirror ∷ above) held chain (inl empty) some = absurd (no_token held empty.token some)
  leads (mirror ∷ above) held chain (inr at) some =
      let further = leads above at.own chain.1 (own_came mirror above held chain at) at.fetched in
      (further.0, (at, further.1))

  module _ (by_codes : NamesGoByCodes) where
    servers : (chain : List MirrorHistory) (held top : Held) → IsChain history token_at chain → OneCameThrough chain held → IsTrue (has_token held) → LeadsUp chain held top
        → IsServersBy history token_at held top
    servers [] held top chain (inl empty) some same = absurd (no_token held empty.token some)
    servers [] held top chain (inr at) some same = record {
      name = ap (λ (one : Held). one.name) same;
      version = at.version;
      within = at.within;
      declared = at.declared;
      token = ap (λ (one : Held). one.token) same ∙ at.token;
      set = at.set;
    }
    servers (mirror ∷ above) held top chain came some (at, further) =
        let own : IsServersBy history token_at at.own top = servers above at.own top chain.1 (own_came mirror above held chain at) at.fetched further in
        let named : at.own.name ≡ held.name = (by_codes at.own.name held.name).0 (found_by (λ (one : Held). same_name one.name held.name) at.lists at.own at.named).1 in
        record {
          name = own.name ∙ named;
          version = own.version;
          within = own.within;
          declared = subst (λ (n : ListName). IsTrue (declares history n)) named own.declared;
          token = own.token ∙ ap (λ (n : ListName). token_at n own.version) named;
          set = at.set ∙ own.set ∙ ap (λ (n : ListName). prefixes_at history n own.version) named;
        }

  empty_without : (chain : List MirrorHistory) (held : Held) → IsNaming history token_at → OneCameThrough chain held → held.token ≡ [] → held.set ≡ []
  empty_without [] held naming (inl empty) none = empty.set
  empty_without [] held naming (inr at) none =
      let long : length held.token ≡ length (token_at held.name at.version) = ap (λ (token : List ℕ). length token) at.token in
      let short : length held.token ≡ 0 = ap (λ (token : List ℕ). length token) none in
      absurd (omega (arith, long, short, naming.some held.name at.version at.declared at.within))
  empty_without (mirror ∷ above) held naming (inl empty) none = empty.set
  empty_without (mirror ∷ above) held naming (inr at) none = absurd (no_token_is_empty mirror.epoch held.name at.place (sym at.token ∙ none))

pub have_a_top : ChainsHaveATop
have_a_top history token_at chain lists held is came there some = leads history token_at chain held is (one_of history token_at chain lists held came there) some

pub lead_to_the_server : NamesGoByCodes → ChainsLeadToTheServer
lead_to_the_server by_codes history token_at chain lists held top is came there some up =
    servers history token_at by_codes chain held top is (one_of history token_at chain lists held came there) some up

pub without_a_token : ListsWithoutATokenAreEmpty
without_a_token history token_at chain lists held naming came there none =
    empty_without history token_at chain held naming (one_of history token_at chain lists held came there) none

-- ---- one list at the top

module _ (tokens : TokensName) where
  one_place : (mirror : MirrorHistory) (held : Held) → IsMirrorHistory mirror → (at other : IsAtPlace mirror.epoch mirror.places held) → at.own ≡ other.own
  one_place mirror held is at other =
      let here = slice_get_within mirror.places at.place at.lists at.there in
      let there = slice_get_within mirror.places other.place other.lists other.there in
      let place : at.place ≡ other.place =
      (tokens mirror.epoch is.fits).place held.name at.place other.place (omega (arith, here, is.stands.few)) (omega (arith, there, is.stands.few))
      (sym at.token ∙ other.token) in
      let lists : at.lists ≡ other.lists =
      same_Some at.lists other.lists (sym at.there ∙ ap (λ k. slice_get mirror.places k) place ∙ other.there) in
      same_Some at.own other.own (sym at.named ∙ ap (list_named held.name) lists ∙ other.named)

  pub tops_are_one : TopsAreOne
  tops_are_one [] held top other are up another = up ∙ sym another
  tops_are_one (mirror ∷ above) held top other are (at, up) (at', up') =
      tops_are_one above at.own top other (All-tail IsMirrorHistory mirror above are) up
      (subst (λ (own : Held). LeadsUp above own other) (sym (one_place mirror held (All-head IsMirrorHistory mirror above are) at at')) up')

-- ---- how chains come to be

pub first_mirrors : PlacesAreReplicas → FirstMirrorsAreChains
first_mirrors places history token_at epoch lists rounds formed replicas honest = (places history token_at lists rounds formed replicas honest, tt)

pub further_mirrors : RoundsFollowMirrors → FurtherMirrorsAreChains
further_mirrors follow history token_at nearest above epoch lists rounds chain is held all items =
    let through = follow nearest lists rounds is held all items in
    (All-cons (AreOfMirror nearest) lists _ all through.saved, chain)
