-- What a publisher, its notes and a seat keep to.
use Rattle.std.specs.Prelude.{◌≡◌, ℕ, ◌<◌, true, false, suc, List, [], ◌∷◌, ◌++◌, length, map, slice_get, All, Option, Some, IfSome}
use Rattle.atomic_table.specs.Seated.{TableId}
use Rattle.update_client.specs.Held.{Held}
use Rattle.snapshot_publish.specs.Publications.{Publication, IsLastOf, kept_end}
use Rattle.snapshot_publish.specs.Publishing.{Known, Told, Seated, IsOf, publications_at_first, list_told, box_of}
use Rattle.snapshot_publish.specs.Rule.{publishing}
use Rattle.snapshot_publish.specs.declared.view.View.{View}

-- A seat holds the last publication that it knows, unless it failed.
pub record IsSeat (v : View) (held : Option Publication) : Type 0 where
  pub holds : IfSome held (IsLastOf v.list)

-- At each end the publisher knows the same publications, of which it keeps the newest.
pub record IsPublisher (ends : List Known) (kept : List Publication) (last : ℕ) : Type 0 where
  pub some : 0 < length ends
  pub each : All (λ known. known.view ≡ publishing (publications_at_first ends)) ends
  pub count : suc last ≡ length (publications_at_first ends)
  pub kept_is : kept ≡ kept_end (publications_at_first ends)

-- Each seat is told the same.
pub record IsNote (told : List Told) : Type 0 where
  pub each : All (λ one. one.list ≡ list_told told) told

-- ---- deliveries

-- the end after the delivery of a publication
abbrev pub delivered : Publication → Known → Known
delivered next known = record { box = known.box; view = publishing (known.view.list ++ next.lists ∷ []) }

-- the publication is the next one at the publisher's end
abbrev pub MayDeliver : Publication → Known → Type 0
MayDeliver next known = (known.view.publishes ≡ true) × (next.number ≡ length known.view.list)

-- ---- the start

-- A seat that has just been made, at its place: it knows the publication of these lists alone.
pub record IsFirst (boxes : List TableId) (lists : List Held) (place : ℕ) (seat : Seated) : Type 0 where
  pub one : IsOf boxes seat
  pub place_is : seat.place ≡ place
  pub list : seat.list ≡ lists ∷ []
  pub not_looked : seat.looked ≡ false
  pub whole : seat.failed ≡ false

-- as many ends and seats as were asked for, each seat at its place
pub record AreEnds (count : ℕ) (lists : List Held) (ends : List Known) (seats : List Seated) : Type 0 where
  pub ends_are : length ends ≡ count
  pub seats_are : length seats ≡ count
  pub known : All (λ known. known.view ≡ publishing (lists ∷ [])) ends
  pub firsts : (place : ℕ) (seat : Seated) → slice_get seats place ≡ Some seat → IsFirst (map box_of ends) lists place seat
