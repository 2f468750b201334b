-- What a mirror came to, and the rounds of those who take their lists from it, or from a list server.
use Rattle.std.specs.Prelude.{◌≡◌, ◌<◌, ◌^◌, ℕ, List, [], ◌∷◌, map, All, ⊤}
use Rattle.sb_model.specs.History.{History, IsWellFormed}
use Rattle.sb_model.specs.Naming.{Naming}
use Rattle.update_client.specs.Held.{AreHeldLists, Held}
use Rattle.update_client.specs.Replica.{AreReplicas}
use Rattle.sb_round.specs.Round.{Round, lists_after_round}
use Rattle.sb_round.specs.Rounds.{round_updates}
use Rattle.sb_round.specs.Run.{lists_after}
use Rattle.update_run.specs.Saved.{saved_lists}
use Rattle.client_laws.specs.Met.{AreHonestRounds}
use Rattle.mirror_places.specs.Places.{Places, StandsForPlaces}
use Rattle.mirror_places.specs.Replica.{AreMirrorItems, HaveByteSets, IsMirrorReplica}
use Rattle.mirror_rounds.specs.Rounds.{lists_at_places}

-- What a mirror came to: its epoch, and the lists at all its places so far.
pub record MirrorHistory : Type 0 where
  pub epoch : ℕ
  pub places : List (List Held)

-- A mirror can have come to this: its epoch is a number of 64 bits, it stands for these places, and their sets are of bytes.
pub record IsMirrorHistory (mirror : MirrorHistory) : Type 0 where
  pub fits : mirror.epoch < 2 ^ 64
  pub kept : Places
  pub own : kept.epoch ≡ mirror.epoch
  pub stands : StandsForPlaces kept mirror.places
  pub bytes : HaveByteSets mirror.places

-- what a mirror of this epoch came to that began with these lists and made these rounds
abbrev pub mirror_after : ℕ → List Held → List Round → MirrorHistory
mirror_after epoch lists rounds = record { epoch = epoch; places = lists_at_places lists rounds }

-- Lists are a mirror's: each is empty without a token, or is the mirror's at the place that its token names.
abbrev pub AreOfMirror : MirrorHistory → List Held → Type 0
AreOfMirror mirror lists = All (IsMirrorReplica mirror.epoch mirror.places) lists

-- ---- below a mirror

-- Each update of these rounds that is installed where it meets the lists is an item that the mirror answered, at any of its places. Of others
-- nothing is said: they may be damaged, or another server's, and sessions may bring nothing.
abbrev pub AreMirrorRounds : MirrorHistory → (lists : List Held) → List Round → Type 0
AreMirrorRounds mirror lists [] = ⊤
AreMirrorRounds mirror lists (round ∷ rounds) =
    AreMirrorItems mirror.epoch mirror.places lists (round_updates round) × AreMirrorRounds mirror (lists_after_round lists round) rounds

-- After rounds a client holds a mirror's lists, and each set of lists that it saved was the mirror's.
pub record HoldsOfMirror (mirror : MirrorHistory) (lists : List Held) (rounds : List Round) : Type 0 where
  pub after : AreOfMirror mirror (lists_after lists (map round_updates rounds))
  pub saved : All (AreOfMirror mirror) (saved_lists lists rounds)

-- From a mirror's lists, through rounds whose installed updates are the mirror's, a client comes to the mirror's lists.
abbrev pub RoundsFollowMirrors : Type 0
RoundsFollowMirrors =
    (mirror : MirrorHistory) (lists : List Held) (rounds : List Round) → IsMirrorHistory mirror → AreHeldLists lists
    → AreOfMirror mirror lists → AreMirrorRounds mirror lists rounds → HoldsOfMirror mirror lists rounds

-- ---- below a list server

-- From replicas, through honest rounds: the lists at each place of a mirror are replicas.
abbrev pub PlacesAreReplicas : Type 0
PlacesAreReplicas =
    (history : History) (token_at : Naming) (lists : List Held) (rounds : List Round) → IsWellFormed history
    → AreReplicas history token_at lists → AreHonestRounds history token_at lists rounds
    → All (AreReplicas history token_at) (lists_at_places lists rounds)
