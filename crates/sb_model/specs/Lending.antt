-- What a row ends as, where a `&mut` to its items is returned.
use Rattle.std.specs.Prelude.{ℕ, List, ◌++◌, length, take, drop, slice_set}
use Rattle.std.specs.Borrow.{Lends, follows, Fml, RattleType, MutBor, Array}
use Rattle.std.specs.declared.slice.IterMut.{IterMut}
use Rattle.std.specs.Slice.Iter.{iter_mut_name}
use Rattle.sb_model.specs.contracts.row.Row.{the_row}

-- the items that are shown last, as many as there were
abbrev pub refilled : {A : Type 0} → List A → List A → List A
refilled old items = take (length old) (items ++ drop (length items) old)

module _ (T : RattleType) (row : MutBor (List T.Denot)) where
  -- the item at a place is the last value written through the reference
  abbrev pub LendsItem : ℕ → MutBor T.Denot → Fml
  LendsItem i r = Lends (the_row T) T row r (slice_set row.now i)

  -- the items are those that the slice shows last
  abbrev pub LendsItems : MutBor (List T.Denot) → Fml
  LendsItems r = Lends (the_row T) (Array T 0) row r (refilled row.now)

  -- the same where the items went to an iterator
  abbrev pub LendsEach : IterMut T.Denot → Fml
  LendsEach it = follows (the_row T) (Array T 0) row.ghost_name (iter_mut_name it) (refilled row.now)
