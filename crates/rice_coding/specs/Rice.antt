-- Which values a Rice record stands for, and what is wrong with one that stands for none
-- (`RiceDeltaEncoding` of the Safe Browsing Update API, version 4).
use Rattle.std.specs.Prelude.{◌≡◌, ℕ, ◌+◌, ◌-◌, ◌^◌, ◌<◌, ◌≤◌, ◌⊎◌, Bool, List, [], ◌∷◌, ◌++◌, length, min, Option, Some, None}
use Rattle.std.specs.List.{AllByRecursion}
use Rattle.rice_coding.specs.declared.record.RiceRecord.{RiceRecord}
use Rattle.rice_coding.specs.declared.fault.RiceFault.{RiceFault}
use Rattle.rice_coding.specs.declared.fault.RiceFault.TheVariants.{Parameter, CountLimit, Ended, Range, LeftOver, OutOfMemory}
use Rattle.rice_coding.specs.Bits.{bits_of}
use Rattle.rice_coding.specs.Codes.{code, codes, running_sums}

-- The first values of a record, and the bits that are left after their codes: the bits begin with the codes of
-- the differences of the values, of which the first is the record's.
pub record BeginsWith (r : RiceRecord) (values : List ℕ) (left : List Bool) : Type 0 where
  pub deltas : List ℕ
  pub sums : values ≡ r.first ∷ running_sums r.first deltas
  pub bits : bits_of r.coded ≡ codes r.parameter deltas ++ left

-- numbers of 32 bits
abbrev pub AreInRange : List ℕ → Type 0
AreInRange values = AllByRecursion (λ value. value < 2 ^ 32) values

-- the parameter is 2 to 28, or nothing is coded
abbrev pub HasParameter : RiceRecord → Type 0
HasParameter r = (r.count ≡ 0) ⊎ ((2 ≤ r.parameter) × (r.parameter ≤ 28))

-- The record stands for the values: it has one more than it counts, each of 32 bits, and fewer than 8 bits are
-- left after their codes.
pub record IsRiceRecordOf (r : RiceRecord) (values : List ℕ) : Type 0 where
  pub parameter : HasParameter r
  pub count : length values ≡ r.count + 1
  pub range : AreInRange values
  pub left : List Bool
  pub bits : BeginsWith r values left
  pub free : length left < 8

-- no code stands at the front of the bits, since they end before one does
abbrev pub HasNoCode : ℕ → List Bool → Type 0
HasNoCode parameter bits = (delta : ℕ) (left : List Bool) → bits ≡ code parameter delta ++ left → ⊥

-- A record whose reading can begin, for at most `limit` values.
pub record CanBegin (r : RiceRecord) (limit : ℕ) : Type 0 where
  pub parameter : HasParameter r
  pub count : r.count + 1 ≤ limit
  pub first : r.first < 2 ^ 32

-- The fault for which no value is read: the parameter first, then the count, then the first value.
abbrev pub IsFirstFault : RiceRecord → ℕ → RiceFault → Type 0
IsFirstFault r limit (Parameter k) = (k ≡ r.parameter) × (0 < r.count) × ((k < 2) ⊎ (28 < k))
IsFirstFault r limit (CountLimit n) = HasParameter r × (n ≡ r.count + 1) × (limit < n)
IsFirstFault r limit (Range entry) = HasParameter r × (r.count + 1 ≤ limit) × (entry ≡ 0) × (2 ^ 32 ≤ r.first)
IsFirstFault r limit (Ended entry) = ⊥
IsFirstFault r limit (LeftOver bits) = ⊥
IsFirstFault r limit OutOfMemory = ⊥

-- The fault after these values, which are the first of the record. The entries count from 0.
--   Ended     the code of the next entry is not whole
--   Range     the value of the next entry is above 32 bits
--   LeftOver  all values were read, and this many bits are left, 8 or more; from 2 ^ 64 - 1 on the number stands still
abbrev pub IsFaultAfter : RiceRecord → List ℕ → RiceFault → Type 0
IsFaultAfter r values (Parameter k) = ⊥
IsFaultAfter r values (CountLimit n) = ⊥
IsFaultAfter r values (Ended entry) =
    (entry ≡ length values) × (entry ≤ r.count) × (left : List Bool) × BeginsWith r values left × HasNoCode r.parameter left
IsFaultAfter r values (Range entry) =
    (entry ≡ length values) × (entry ≤ r.count) × (value : ℕ) × (left : List Bool) × BeginsWith r (values ++ value ∷ []) left × (2 ^ 32 ≤ value)
IsFaultAfter r values (LeftOver bits) =
    (length values ≡ r.count + 1) × (left : List Bool) × BeginsWith r values left × (8 ≤ length left) × (bits ≡ min (length left) (2 ^ 64 - 1))
IsFaultAfter r values OutOfMemory = ⊥

-- What reading a record gives: the values, and then the end or a fault.
abbrev pub IsReadingOf : RiceRecord → List ℕ → Option RiceFault → Type 0
IsReadingOf r values None = IsRiceRecordOf r values
IsReadingOf r values (Some fault) = AreInRange values × IsFaultAfter r values fault

-- The fault of a record that stands for no list of at most `limit` values.
abbrev pub IsFaultOf : RiceRecord → ℕ → RiceFault → Type 0
IsFaultOf r limit fault = IsFirstFault r limit fault ⊎ (CanBegin r limit × (values : List ℕ) × AreInRange values × IsFaultAfter r values fault)
