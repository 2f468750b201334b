-- Checks of lines on the publications that a seat knows, and the lines of each of several seats.
use Rattle.std.specs.Prelude.{◌≡◌, ◌≢◌, ℕ, suc, ◌+◌, ◌*◌, ◌≤◌, List, length, slice_get, Option, Some}
use Rattle.url_canon.specs.Canonical.{canonical_of}
use Rattle.url_canon.specs.declared.fault.UrlFault.{UrlFault}
use Rattle.url_canon.specs.declared.fault.UrlFault.TheVariants.{OutOfMemory}
use Rattle.std.specs.Prelude.{Err}
use Rattle.update_client.specs.Held.{Held}
use Rattle.snapshot_publish.specs.Publications.{Publications, Publication, IsPrefixOf}
use Rattle.atomic_table.specs.Seated.{TableId}
use Rattle.snapshot_publish.specs.Publishing.{Seated, IsOf}
use Rattle.url_checker.specs.Checking.{IsFindingOf}
use Rattle.url_checker.specs.Hits.{AreAskable}
use Rattle.url_checker.specs.declared.findings.Finding.{Finding}
use Rattle.url_checker.specs.declared.findings.Checked.{Checked}
use Rattle.url_checker.specs.declared.findings.Checked.TheVariants.{Found, Refused}

-- ---- the check of a line

-- The finding is what the lists of the publication whose number it has have of the line, and one request can ask for its hits.
pub record IsFoundOn (all : Publications) (line : List ℕ) (finding : Finding) : Type 0 where
  pub lists : List Held
  pub there : slice_get all finding.number ≡ Some lists
  pub is : IsFindingOf lists finding.number line finding
  pub askable : AreAskable finding.hits

-- The line has no canonical form, for this fault, and memory was not refused.
pub record IsRefusedFor (line : List ℕ) (fault : UrlFault) : Type 0 where
  pub fault_is : canonical_of line ≡ Err fault
  pub not_memory : fault ≢ OutOfMemory

-- the check of a line on some publications
abbrev pub IsCheckOf : Publications → List ℕ → Checked → Type 0
IsCheckOf all line (Found finding) = IsFoundOn all line finding
IsCheckOf all line (Refused fault) = IsRefusedFor line fault

-- the check of a line on one publication
abbrev pub IsCheckOn : Publication → List ℕ → Checked → Type 0
IsCheckOn one line (Found finding) = IsFindingOf one.lists one.number line finding × AreAskable finding.hits
IsCheckOn one line (Refused fault) = IsRefusedFor line fault

-- the publication is the one of its number
abbrev pub Shows : Publications → Publication → Type 0
Shows all one = slice_get all one.number ≡ Some one.lists

-- The finding is what the last publication has of the line.
pub record IsLastFinding (all : Publications) (line : List ℕ) (finding : Finding) : Type 0 where
  pub last : suc finding.number ≡ length all
  pub found : IsFoundOn all line finding

-- ---- the lines of a seat

-- of some items, the one of a seat's line: where there are so many seats, the lines of a seat are that of its place, and from there on
-- each after so many
abbrev pub of_seat : {X : Type 0} → List X → ℕ → ℕ → ℕ → Option X
of_seat items seats place turn = slice_get items (place + turn * seats)

-- a line is one of a seat
abbrev pub IsOfSeat : ℕ → ℕ → ℕ → Type 0
IsOfSeat seats place index = (turn : ℕ) × (index ≡ place + turn * seats)

-- the numbers of findings never fall from one turn to a later one
abbrev pub NeverFall : (ℕ → Option Checked) → Type 0
NeverFall checks = (turn turn' : ℕ) (first later : Finding) → turn ≤ turn' → checks turn ≡ Some (Found first) → checks turn' ≡ Some (Found later) → first.number ≤ later.number

-- The checks of a seat's lines on some publications, turn by turn.
pub record AreSeatChecks (all : Publications) (lines : ℕ → Option (List ℕ)) (checks : ℕ → Option Checked) : Type 0 where
  pub each : (turn : ℕ) (line : List ℕ) (check : Checked) → lines turn ≡ Some line → checks turn ≡ Some check → IsCheckOf all line check
  pub never_fall : NeverFall checks

-- The checks of lines: one for each, and those of each seat's lines on the publications that the seat knows.
pub record AreChecks (seats : List Seated) (lines : List (List ℕ)) (checks : List Checked) : Type 0 where
  pub count : length checks ≡ length lines
  pub each : (place : ℕ) (seat : Seated) → slice_get seats place ≡ Some seat
      → AreSeatChecks seat.list (of_seat lines (length seats) place) (of_seat checks (length seats) place)

-- ---- seats before and after

-- A seat later on: its publications begin with those that it knew.
pub record GoesOn (earlier later : Seated) : Type 0 where
  pub place : later.place ≡ earlier.place
  pub same_box : later.box ≡ earlier.box
  pub list : IsPrefixOf earlier.list later.list

-- The same seats later on, in order.
pub record GoOn (earlier later : List Seated) : Type 0 where
  pub count : length later ≡ length earlier
  pub each : (place : ℕ) (seat seat' : Seated) → slice_get earlier place ≡ Some seat → slice_get later place ≡ Some seat' → GoesOn seat seat'

-- each seat is one of those of a publisher with these boxes
abbrev pub AreSeatsOf : List TableId → List Seated → Type 0
AreSeatsOf boxes seats = (place : ℕ) (seat : Seated) → slice_get seats place ≡ Some seat → IsOf boxes seat

-- Seats later on are of the same publisher.
abbrev pub SeatsRemain : Type 0
SeatsRemain = (boxes : List TableId) (earlier later : List Seated) → AreSeatsOf boxes earlier → GoOn earlier later → AreSeatsOf boxes later
