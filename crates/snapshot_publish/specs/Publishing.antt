-- What contracts see of a publisher, of its notes, and of a seat.
use Rattle.std.specs.Prelude.{◌≡◌, ℕ, Bool, List, [], ◌∷◌, slice_get, Some}
use Rattle.atomic_table.specs.Seated.{TableId}
use Rattle.snapshot_publish.specs.Publications.{Publications}
use Rattle.snapshot_publish.specs.declared.view.View.{View}

-- A publisher: the boxes of its seats, its publications, and whether it failed to publish.
pub record Publishing : Type 0 where
  pub boxes : List TableId
  pub list : Publications
  pub failed : Bool

-- A note of a publisher: the boxes of its seats, and its publications when it told.
pub record Noted : Type 0 where
  pub boxes : List TableId
  pub list : Publications

-- A seat: its place among the seats of its publisher, its box, the publications that it knows, whether it looked since it learnt last, and
-- whether it failed to show a publication.
pub record Seated : Type 0 where
  pub place : ℕ
  pub box : TableId
  pub list : Publications
  pub looked : Bool
  pub failed : Bool

-- The seat is one of those of a publisher with these boxes: both are of one start.
abbrev pub IsOf : List TableId → Seated → Type 0
IsOf boxes seat = slice_get boxes seat.place ≡ Some seat.box

-- ---- the ends of boxes

-- One end of a box: which box it is, and what is known at this end.
pub record Known : Type 0 where
  pub box : TableId
  pub view : View

-- What is told to one seat.
pub record Told : Type 0 where
  pub box : TableId
  pub list : Publications

-- the publications at the first end
abbrev pub publications_at_first : List Known → Publications
publications_at_first [] = []
publications_at_first (first ∷ more) = first.view.list

-- the publications that the first letter tells
abbrev pub list_told : List Told → Publications
list_told [] = []
list_told (first ∷ more) = first.list

abbrev pub box_of : Known → TableId
box_of known = known.box

abbrev pub box_told : Told → TableId
box_told told = told.box

-- what is told at an end
abbrev pub told_at : Known → Told
told_at known = record { box = known.box; list = known.view.list }
