-- What a record is decoded to is what it stands for, or its fault.
use Rattle.std.proofs.Common.{◌≡◌, ◌≢◌, ◌⊎◌, inl, inr, ℕ, ◌+◌, ◌^◌, ◌<◌, ◌≤◌, Bool, true, false, cond, ◌&&◌, ◌||◌, ltb, nat_le, List, [], ◌∷◌, ◌++◌, length, Option, Some, None, Result, Ok, Err, refl, sym, ap, ◌∙◌, subst, arith}
use Rattle.std.proofs.lemmas.Bool.Decides.{nat_tests}
use Rattle.std.specs.Prelude.{IfOk, IfErr, OnOk, IsErrAnd, MatchResult}
use Rattle.std.specs.List.Sorted.{IsStrictlyIncreasing}
use Rattle.rice_coding.specs.declared.record.RiceRecord.{RiceRecord}
use Rattle.rice_coding.specs.declared.fault.RiceFault.{RiceFault}
use Rattle.rice_coding.specs.declared.fault.RiceFault.TheVariants.{Parameter, CountLimit, Ended, Range, LeftOver, OutOfMemory}
use Rattle.rice_coding.specs.Codes.{running_sums}
use Rattle.rice_coding.specs.Decoding.{decoding_of, outcome_of, reading_of, has_wrong_parameter}
use Rattle.rice_coding.specs.Encoding.{encoding_of}
use Rattle.rice_coding.specs.Rice.{AreInRange, HasParameter, CanBegin, IsRiceRecordOf, IsReadingOf, IsFirstFault, IsFaultOf}
use Rattle.rice_coding.proofs.ReadingFacts.{reading_is, reading_only}
use Rattle.rice_coding.proofs.EncodeFacts.{encoding_laws}

-- ---- whether a reading can begin
right_parameter : (r : RiceRecord) (some low high : Bool) → ltb 0 r.count ≡ some → ltb r.parameter 2 ≡ low → ltb 28 r.parameter ≡ high
    → (some && (low || high)) ≡ false → HasParameter r
right_parameter r false low high count under over e = inl (grind (arith, nat_tests))
right_parameter r true true high count under over e = absurd (cc)
right_parameter r true false true count under over e = absurd (cc)
right_parameter r true false false count under over e = inr (grind (arith, nat_tests), grind (arith, nat_tests))

wrong_parameter : (r : RiceRecord) (some low high : Bool) → ltb 0 r.count ≡ some → ltb r.parameter 2 ≡ low → ltb 28 r.parameter ≡ high
    → (some && (low || high)) ≡ true → (0 < r.count) × ((r.parameter < 2) ⊎ (28 < r.parameter))
wrong_parameter r false low high count under over e = absurd (cc)
wrong_parameter r true true high count under over e = (grind (arith, nat_tests), inl (grind (arith, nat_tests)))
wrong_parameter r true false true count under over e = (grind (arith, nat_tests), inr (grind (arith, nat_tests)))
wrong_parameter r true false false count under over e = absurd (cc)

-- a record is decoded to a first fault, or its reading begins
abbrev pub Begins : RiceRecord → ℕ → Type 0
Begins r limit = CanBegin r limit × (decoding_of r limit ≡ outcome_of (reading_of r).values (reading_of r).fault)

abbrev pub IsRefused : RiceRecord → ℕ → Type 0
IsRefused r limit = (fault : RiceFault) × IsFirstFault r limit fault × (decoding_of r limit ≡ Err fault)

pub begins_or_refused : (r : RiceRecord) (limit : ℕ) → Begins r limit ⊎ IsRefused r limit
unfolding decoding_of
begins_or_refused r limit = go (has_wrong_parameter r) (ltb limit (r.count + 1)) (nat_le (2 ^ 32) r.first) refl refl refl where
  so : (a b c : Bool) → has_wrong_parameter r ≡ a → ltb limit (r.count + 1) ≡ b → nat_le (2 ^ 32) r.first ≡ c
      → decoding_of r limit ≡ cond a (Err (Parameter r.parameter)) (cond b (Err (CountLimit (r.count + 1))) (cond c (Err (Range 0)) (outcome_of (reading_of r).values (reading_of r).fault)))
  so a b c first second third = rw (sym first, sym second, sym third) refl

  go : (a b c : Bool) → has_wrong_parameter r ≡ a → ltb limit (r.count + 1) ≡ b → nat_le (2 ^ 32) r.first ≡ c → Begins r limit ⊎ IsRefused r limit
  go true b c first second third =
      let wrong = wrong_parameter r _ _ _ refl refl refl first in
      inr (Parameter r.parameter, (refl, wrong.0, wrong.1), so true b c first second third)
  go false true c first second third =
      inr (CountLimit (r.count + 1), (right_parameter r _ _ _ refl refl refl first, refl, grind (arith, nat_tests)), so false true c first second third)
  go false false true first second third =
      inr (Range 0, (right_parameter r _ _ _ refl refl refl first, grind (arith, nat_tests), refl, grind (arith, nat_tests)), so false false true first second third)
  go false false false first second third =
      inl (record { parameter = right_parameter r _ _ _ refl refl refl first; count = grind (arith, nat_tests); first = grind (arith, nat_tests) }, so false false false first second third)

-- never both
not_wrong : (r : RiceRecord) (k : ℕ) → HasParameter r → k ≡ r.parameter → 0 < r.count → (k < 2) ⊎ (28 < k) → ⊥
not_wrong r k (inl none) is some wrong = omega (arith, none, some)
not_wrong r k (inr right) is some (inl low) = omega (arith, right.0, is, low)
not_wrong r k (inr right) is some (inr high) = omega (arith, right.1, is, high)

not_both : (r : RiceRecord) (limit : ℕ) (fault : RiceFault) → CanBegin r limit → IsFirstFault r limit fault → ⊥
not_both r limit (Parameter k) begins first = not_wrong r k begins.parameter first.0 first.1 first.2
not_both r limit (CountLimit n) begins first = omega (arith, begins.count, first.1, first.2)
not_both r limit (Range entry) begins first = omega (arith, begins.first, first.3)
not_both r limit (Ended entry) begins first = first
not_both r limit (LeftOver bits) begins first = first
not_both r limit OutOfMemory begins first = first

first_only : (r : RiceRecord) (limit : ℕ) (f g : RiceFault) → IsFirstFault r limit f → IsFirstFault r limit g → f ≡ g
first_only r limit (Ended entry) g is so = absurd is
first_only r limit (LeftOver bits) g is so = absurd is
first_only r limit OutOfMemory g is so = absurd is
first_only r limit f (Ended entry) is so = absurd so
first_only r limit f (LeftOver bits) is so = absurd so
first_only r limit f OutOfMemory is so = absurd so
first_only r limit (Parameter k) (Parameter j) is so = ap Parameter (is.0 ∙ sym so.0)
first_only r limit (Parameter k) (CountLimit n) is so = absurd (not_wrong r k so.0 is.0 is.1 is.2)
first_only r limit (Parameter k) (Range entry) is so = absurd (not_wrong r k so.0 is.0 is.1 is.2)
first_only r limit (CountLimit n) (Parameter k) is so = absurd (not_wrong r k is.0 so.0 so.1 so.2)
first_only r limit (CountLimit n) (CountLimit m) is so = ap CountLimit (is.1 ∙ sym so.1)
first_only r limit (CountLimit n) (Range entry) is so = absurd (omega (arith, is.1, is.2, so.1))
first_only r limit (Range entry) (Parameter k) is so = absurd (not_wrong r k is.0 so.0 so.1 so.2)
first_only r limit (Range entry) (CountLimit n) is so = absurd (omega (arith, so.1, so.2, is.1))
first_only r limit (Range entry) (Range other) is so = ap Range (is.2 ∙ sym so.2)

pub decoding_first : (r : RiceRecord) (limit : ℕ) (fault : RiceFault) → IsFirstFault r limit fault → decoding_of r limit ≡ Err fault
decoding_first r limit fault first = elim (begins_or_refused r limit) [
  | inl begins ↦ absurd (not_both r limit fault begins.0 first)
  | inr refused ↦ refused.2 ∙ ap Err (first_only r limit refused.0 fault refused.1 first)
]

pub decoding_begins : (r : RiceRecord) (limit : ℕ) → CanBegin r limit → decoding_of r limit ≡ outcome_of (reading_of r).values (reading_of r).fault
decoding_begins r limit begins = elim (begins_or_refused r limit) [
  | inl known ↦ known.1
  | inr refused ↦ absurd (not_both r limit refused.0 begins refused.1)
]

-- ---- what it comes to
outcome_ok : (values all : List ℕ) (fault : Option RiceFault) → outcome_of values fault ≡ Ok all → (fault ≡ None) × (values ≡ all)
outcome_ok values all None e = (refl, (let same : values ≡ all = cc in same))
outcome_ok values all (Some f) e = absurd (cc)

outcome_err : (values : List ℕ) (fault : Option RiceFault) (f : RiceFault) → outcome_of values fault ≡ Err f → fault ≡ Some f
outcome_err values None f e = absurd (cc)
outcome_err values (Some g) f e = let same : g ≡ f = cc in ap Some same

pub decoded_is : (r : RiceRecord) (limit : ℕ) (values : List ℕ) → decoding_of r limit ≡ Ok values → IsRiceRecordOf r values × (length values ≤ limit)
decoded_is r limit values e = elim (begins_or_refused r limit) [
  | inl begins ↦
      let last = outcome_ok (reading_of r).values values (reading_of r).fault (sym begins.1 ∙ e) in
      let known : IsReadingOf r (reading_of r).values (reading_of r).fault = reading_is r begins.0.parameter begins.0.first in
      let is : IsRiceRecordOf r values = subst (λ values. IsRiceRecordOf r values) last.1 (subst (λ fault. IsReadingOf r (reading_of r).values fault) last.0 known) in
      (is, omega (arith, is.count, begins.0.count))
  | inr refused ↦ (let never : Err refused.0 ≡ Ok values = sym refused.2 ∙ e in absurd (cc))
]

pub is_decoded : (r : RiceRecord) (limit : ℕ) (values : List ℕ) → IsRiceRecordOf r values → length values ≤ limit → decoding_of r limit ≡ Ok values
is_decoded r limit values is within =
    let front : AreInRange (r.first ∷ running_sums r.first is.bits.deltas) = subst AreInRange is.bits.sums is.range in
    let begins : CanBegin r limit = record { parameter = is.parameter; count = omega (arith, is.count); first = front.0 } in
    let only = reading_only r begins.first values None is in
    decoding_begins r limit begins ∙ ap (outcome_of (reading_of r).values) (sym only.1) ∙ ap Ok (sym only.0)

pub fault_is : (r : RiceRecord) (limit : ℕ) (fault : RiceFault) → decoding_of r limit ≡ Err fault → IsFaultOf r limit fault
fault_is r limit fault e = elim (begins_or_refused r limit) [
  | inl begins ↦
      let last = outcome_err (reading_of r).values (reading_of r).fault fault (sym begins.1 ∙ e) in
      let known : IsReadingOf r (reading_of r).values (reading_of r).fault = reading_is r begins.0.parameter begins.0.first in
      let is : IsReadingOf r (reading_of r).values (Some fault) = subst (λ fault. IsReadingOf r (reading_of r).values fault) last known in
      inr (begins.0, (reading_of r).values, is.0, is.1)
  | inr refused ↦
      let both : Err refused.0 ≡ Err fault = sym refused.2 ∙ e in
      let same : refused.0 ≡ fault = cc in
      inl (subst (λ fault. IsFirstFault r limit fault) same refused.1)
]

pub fault_decoded : (r : RiceRecord) (limit : ℕ) (fault : RiceFault) → IsFaultOf r limit fault → decoding_of r limit ≡ Err fault
fault_decoded r limit fault (inl first) = decoding_first r limit fault first
fault_decoded r limit fault (inr later) =
    let only = reading_only r later.0.first later.1 (Some fault) (later.2, later.3) in
    decoding_begins r limit later.0 ∙ ap (outcome_of (reading_of r).values) (sym only.1)

pub never_memory : (r : RiceRecord) (limit : ℕ) → decoding_of r limit ≢ Err OutOfMemory
never_memory r limit = λ e. elim (fault_is r limit OutOfMemory e) [
  | inl first ↦ first
  | inr later ↦ later.3
]

pub encoding_decoded : (values : List ℕ) (limit : ℕ) → IsStrictlyIncreasing values → AreInRange values → 0 < length values → length values ≤ limit
    → decoding_of (encoding_of values) limit ≡ Ok values
encoding_decoded values limit rising fits some within = is_decoded (encoding_of values) limit values (encoding_laws values some rising fits).0 within

-- ---- what `decode` answers
pub decoded_ok : (result decoding : Result (List ℕ) RiceFault) (front given : List ℕ) (fault : Option RiceFault) → IfOk result (λ all. all ≡ front ++ given) → front ≡ []
    → OnOk result (fault ≡ None) → decoding ≡ outcome_of given fault → IfOk result (λ values. decoding ≡ Ok values)
decoded_ok (Ok all) decoding front given fault whole empty end is =
    is ∙ ap (outcome_of given) end ∙ ap Ok (sym (whole ∙ ap (λ (front : List ℕ). front ++ given) empty))
decoded_ok (Err f) decoding front given fault whole empty end is = tt

pub decoded_err : (result decoding : Result (List ℕ) RiceFault) (given : List ℕ) (fault : Option RiceFault) → IfErr result (λ f. (f ≡ OutOfMemory) ⊎ (fault ≡ Some f))
    → decoding ≡ outcome_of given fault → IfErr result (λ f. (f ≡ OutOfMemory) ⊎ (decoding ≡ Err f))
decoded_err (Ok all) decoding given fault stopped is = tt
decoded_err (Err f) decoding given fault (inl memory) is = inl memory
decoded_err (Err f) decoding given fault (inr stopped) is = inr (is ∙ ap (outcome_of given) stopped)

pub only_values : (result decoding : Result (List ℕ) RiceFault) (values : List ℕ) → IfOk result (λ given. decoding ≡ Ok given)
    → IfErr result (λ f. (f ≡ OutOfMemory) ⊎ (decoding ≡ Err f)) → decoding ≡ Ok values → MatchResult result (λ given. given ≡ values) (λ f. f ≡ OutOfMemory)
only_values (Ok given) decoding values is fault known = let same : Ok given ≡ Ok values = sym is ∙ known in cc
only_values (Err f) decoding values is (inl memory) known = memory
only_values (Err f) decoding values is (inr fault) known = let never : Err f ≡ Ok values = sym fault ∙ known in absurd (cc)

pub only_fault : (result decoding : Result (List ℕ) RiceFault) (fault : RiceFault) → IfOk result (λ given. decoding ≡ Ok given)
    → IfErr result (λ f. (f ≡ OutOfMemory) ⊎ (decoding ≡ Err f)) → decoding ≡ Err fault → IsErrAnd result (λ f. (f ≡ OutOfMemory) ⊎ (f ≡ fault))
only_fault (Ok given) decoding fault is stopped known = let never : Ok given ≡ Err fault = sym is ∙ known in absurd (cc)
only_fault (Err f) decoding fault is (inl memory) known = inl memory
only_fault (Err f) decoding fault is (inr stopped) known = inr (let same : Err f ≡ Err fault = sym stopped ∙ known in let e : f ≡ fault = cc in e)
