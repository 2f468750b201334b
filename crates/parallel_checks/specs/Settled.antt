-- Checks once the publisher has ended: each names a publication that is kept.
use Rattle.std.specs.Prelude.{◌≡◌, ℕ, suc, true, List, length, slice_get, Option, Some}
use Rattle.snapshot_publish.specs.Publications.{Publications, Publication, IsPublicationKept}
use Rattle.snapshot_publish.specs.Publishing.{Seated}
use Rattle.url_checker.specs.declared.findings.Checked.{Checked}
use Rattle.url_checker.specs.declared.findings.Checked.TheVariants.{Found, Refused}
use Rattle.parallel_checks.specs.Checks.{AreSeatChecks, IsCheckOn, of_seat}
use Rattle.parallel_checks.specs.declared.running.CheckRun.{CheckRun}

-- the publication that a check names, if it names one, is kept
abbrev pub NamesKeptPublication : Publications → Checked → Type 0
NamesKeptPublication all (Found finding) = IsPublicationKept all finding.number
NamesKeptPublication all (Refused fault) = Unit {0}

-- those of all checks of a seat are
abbrev pub NameKeptPublications : Publications → (ℕ → Option Checked) → Type 0
NameKeptPublications all checks = (turn : ℕ) (check : Checked) → checks turn ≡ Some check → NamesKeptPublication all check

-- each check of a seat is that of its line on this publication
abbrev pub AreAnew : Publication → (ℕ → Option (List ℕ)) → (ℕ → Option Checked) → Type 0
AreAnew one lines checks = (turn : ℕ) (line : List ℕ) (check : Checked) → lines turn ≡ Some line → checks turn ≡ Some check → IsCheckOn one line check

-- The checks of a seat may stand: the seat has looked and knows as many publications as there are, and those that its checks name are kept.
pub record MayStand (all : Publications) (seat : Seated) (checks : ℕ → Option Checked) : Type 0 where
  pub looked : seat.looked ≡ true
  pub whole : length seat.list ≡ length all
  pub kept : NameKeptPublications all checks

-- the check, if it is a finding, is one on the last publication
abbrev pub IsOnLast : Publications → Checked → Type 0
IsOnLast all (Found finding) = suc finding.number ≡ length all
IsOnLast all (Refused fault) = Unit {0}

-- The checks of a seat's lines, before and after they were settled on these publications.
pub record AreSettled (all : Publications) (seat : Seated) (lines : ℕ → Option (List ℕ)) (before after : ℕ → Option Checked) : Type 0 where
  pub are : AreSeatChecks all lines after
  pub kept : NameKeptPublications all after
  pub stand : MayStand all seat before → (turn : ℕ) → after turn ≡ before turn
  pub anew : (MayStand all seat before → ⊥) → (turn : ℕ) (check : Checked) → after turn ≡ Some check → IsOnLast all check

-- A settled run: a check for each line, and those of each seat are settled.
pub record IsSettledRun (all : Publications) (run : CheckRun) (lines : List (List ℕ)) (settled : CheckRun) : Type 0 where
  pub count : length settled.checks ≡ length lines
  pub each : (place : ℕ) (seat : Seated) → slice_get settled.seats place ≡ Some seat
      → AreSettled all seat (of_seat lines (length run.seats) place) (of_seat run.checks (length run.seats) place) (of_seat settled.checks (length run.seats) place)
