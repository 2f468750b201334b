-- Chains of mirrors, each of which takes its lists from the next. The last one takes them from a list server. Of some mirrors in a row the
-- nearest to a client comes first.
use Rattle.std.specs.Prelude.{◌≡◌, ◌≤◌, ℕ, List, [], ◌∷◌, All, Contains, IsTrue, ⊤}
use Rattle.sb_model.specs.History.{History, IsWellFormed, declares, prefixes_at, version_count}
use Rattle.sb_model.specs.Naming.{IsNaming, Naming}
use Rattle.sb_round.specs.Round.{Round}
use Rattle.update_client.specs.Held.{AreHeldLists, Held, has_token}
use Rattle.update_client.specs.Replica.{AreReplicas}
use Rattle.client_laws.specs.Met.{AreHonestRounds}
use Rattle.mirror_places.specs.Replica.{IsAtPlace}
use Rattle.mirror_laws.specs.Mirrors.{AreMirrorRounds, AreOfMirror, IsMirrorHistory, MirrorHistory, mirror_after}

-- Lists came through some mirrors in a row: they are those of the nearest mirror, and with no mirror they are replicas of the server's.
abbrev pub CameThrough : History → Naming → List MirrorHistory → List Held → Type 0
CameThrough history token_at [] lists = AreReplicas history token_at lists
CameThrough history token_at (mirror ∷ above) lists = AreOfMirror mirror lists

-- Mirrors are a chain below a server: the lists at each place of each mirror came through those above it.
abbrev pub IsChain : History → Naming → List MirrorHistory → Type 0
IsChain history token_at [] = ⊤
IsChain history token_at (mirror ∷ above) = All (CameThrough history token_at above) mirror.places × IsChain history token_at above

-- ---- up a chain

-- A held list leads up a chain to the one at its top. With no mirror it is that one itself. Its token names a place of the nearest mirror, and
-- the list of its name there leads further.
abbrev pub LeadsUp : List MirrorHistory → (held top : Held) → Type 0
LeadsUp [] held top = top ≡ held
LeadsUp (mirror ∷ above) held top = (at : IsAtPlace mirror.epoch mirror.places held) × LeadsUp above at.own top

-- A held list is exactly the server's at the version that the token of the list at the top names.
pub record IsServersBy (history : History) (token_at : Naming) (held top : Held) : Type 0 where
  pub name : top.name ≡ held.name
  pub version : ℕ
  pub within : version ≤ version_count history
  pub declared : IsTrue (declares history held.name)
  pub token : top.token ≡ token_at held.name version
  pub set : held.set ≡ prefixes_at history held.name version

-- Each list that a client of a chain holds under a token leads up to one.
abbrev pub ChainsHaveATop : Type 0
ChainsHaveATop =
    (history : History) (token_at : Naming) (chain : List MirrorHistory) (lists : List Held) (held : Held)
    → IsChain history token_at chain → CameThrough history token_at chain lists → Contains lists held → IsTrue (has_token held)
    → (top : Held) × LeadsUp chain held top

-- It is the server's by the one to which it leads.
abbrev pub ChainsLeadToTheServer : Type 0
ChainsLeadToTheServer =
    (history : History) (token_at : Naming) (chain : List MirrorHistory) (lists : List Held) (held top : Held)
    → IsChain history token_at chain → CameThrough history token_at chain lists → Contains lists held → IsTrue (has_token held)
    → LeadsUp chain held top → IsServersBy history token_at held top

-- No list leads up to two, by mirrors that can have come to this.
abbrev pub TopsAreOne : Type 0
TopsAreOne =
    (chain : List MirrorHistory) (held top other : Held) → All IsMirrorHistory chain → LeadsUp chain held top → LeadsUp chain held other
    → top ≡ other

-- One without a token is empty.
abbrev pub ListsWithoutATokenAreEmpty : Type 0
ListsWithoutATokenAreEmpty =
    (history : History) (token_at : Naming) (chain : List MirrorHistory) (lists : List Held) (held : Held) → IsNaming history token_at
    → CameThrough history token_at chain lists → Contains lists held → held.token ≡ [] → held.set ≡ []

-- ---- how chains come to be

-- A mirror whose rounds met an honest server is a chain, if it began with replicas.
abbrev pub FirstMirrorsAreChains : Type 0
FirstMirrorsAreChains =
    (history : History) (token_at : Naming) (epoch : ℕ) (lists : List Held) (rounds : List Round) → IsWellFormed history
    → AreReplicas history token_at lists → AreHonestRounds history token_at lists rounds
    → IsChain history token_at (mirror_after epoch lists rounds ∷ [])

-- A mirror below the nearest one of a chain makes the chain longer, if it began with that mirror's lists and its rounds installed what that
-- mirror answered.
abbrev pub FurtherMirrorsAreChains : Type 0
FurtherMirrorsAreChains =
    (history : History) (token_at : Naming) (nearest : MirrorHistory) (above : List MirrorHistory) (epoch : ℕ) (lists : List Held) (rounds : List Round)
    → IsChain history token_at (nearest ∷ above) → IsMirrorHistory nearest → AreHeldLists lists → AreOfMirror nearest lists
    → AreMirrorRounds nearest lists rounds → IsChain history token_at (mirror_after epoch lists rounds ∷ nearest ∷ above)
