-- What the reading of a record gives is what the definitions say, and nothing else is.
use Rattle.std.proofs.Common.{◌≡◌, ℕ, zero, suc, ◌+◌, ◌-◌, ◌^◌, ◌<◌, ◌≤◌, min, Bool, true, false, cond, ltb, List, [], ◌∷◌, ◌++◌, length, Option, Some, None, refl, sym, ap, ◌∙◌, arith}
use Rattle.std.proofs.lemmas.Bool.Decides.{nat_tests}
use Rattle.std.proofs.lemmas.List.{append_assoc}
use Rattle.rice_coding.specs.declared.record.RiceRecord.{RiceRecord}
use Rattle.rice_coding.specs.declared.fault.RiceFault.{RiceFault}
use Rattle.rice_coding.specs.declared.fault.RiceFault.TheVariants.{Parameter, CountLimit, Ended, Range, LeftOver, OutOfMemory}
use Rattle.rice_coding.specs.Bits.{bits_of}
use Rattle.rice_coding.specs.Codes.{code, codes, running_sums}
use Rattle.rice_coding.specs.Reading.{Reading, delta_at, reading, reading_step, with_value, stopped, end_after_codes}
use Rattle.rice_coding.specs.Rice.{BeginsWith, AreInRange, HasParameter, HasNoCode, IsReadingOf}
use Rattle.rice_coding.proofs.CodeFacts.{delta_at-code, code_of_delta_at, no_code, delta_at-no_code}

-- The bits begin with the codes by which the values follow one another.
pub record Follows (parameter value : ℕ) (bits : List Bool) (values : List ℕ) (left : List Bool) : Type 0 where
  pub deltas : List ℕ
  pub sums : values ≡ running_sums value deltas
  pub coded : bits ≡ codes parameter deltas ++ left

-- These are the values of so many codes until their end or a fault.
abbrev pub Stops : ℕ → ℕ → ℕ → ℕ → List Bool → List ℕ → Option RiceFault → Type 0
Stops k n e v bits values None = (length values ≡ n) × (left : List Bool) × Follows k v bits values left × (length left < 8)
Stops k n e v bits values (Some (Parameter p)) = ⊥
Stops k n e v bits values (Some (CountLimit p)) = ⊥
Stops k n e v bits values (Some (Ended entry)) =
    (entry ≡ e + length values) × (length values < n) × (left : List Bool) × Follows k v bits values left × HasNoCode k left
Stops k n e v bits values (Some (Range entry)) =
    (entry ≡ e + length values) × (length values < n) × (value : ℕ) × (left : List Bool) × Follows k v bits (values ++ value ∷ []) left × (2 ^ 32 ≤ value)
Stops k n e v bits values (Some (LeftOver over)) =
    (length values ≡ n) × (left : List Bool) × Follows k v bits values left × (8 ≤ length left) × (over ≡ min (length left) (2 ^ 64 - 1))
Stops k n e v bits values (Some OutOfMemory) = ⊥

Follows-none : (k v : ℕ) (bits : List Bool) → Follows k v bits [] bits
Follows-none k v bits = record { deltas = []; sums = refl; coded = refl }

Follows-more : (k v d : ℕ) (bits rest left : List Bool) (values : List ℕ) → delta_at k bits ≡ Some (d, rest) → Follows k (v + d) rest values left → Follows k v bits ((v + d) ∷ values) left
Follows-more k v d bits rest left values is f = record {
  deltas = d ∷ f.deltas;
  sums = ap (λ (values : List ℕ). (v + d) ∷ values) f.sums;
  coded = code_of_delta_at k d bits rest is ∙ ap (λ (bits : List Bool). code k d ++ bits) f.coded ∙ sym (append_assoc (code k d) (codes k f.deltas) left);
}

Follows-less : (k v w : ℕ) (bits left : List Bool) (values : List ℕ) → Follows k v bits (w ∷ values) left
    → (d : ℕ) × (w ≡ v + d) × (rest : List Bool) × (delta_at k bits ≡ Some (d, rest)) × Follows k w rest values left
Follows-less k v w bits left values f = go f.deltas f.sums f.coded where
  go : (deltas : List ℕ) → w ∷ values ≡ running_sums v deltas → bits ≡ codes k deltas ++ left
      → (d : ℕ) × (w ≡ v + d) × (rest : List Bool) × (delta_at k bits ≡ Some (d, rest)) × Follows k w rest values left
  go [] sums coded = absurd (cc)
  go (d ∷ deltas) sums coded =
      let first : w ≡ v + d = cc in
      let rest_sums : values ≡ running_sums (v + d) deltas = cc in
      let shape : bits ≡ code k d ++ (codes k deltas ++ left) = coded ∙ append_assoc (code k d) (codes k deltas) left in (
        d,
        first,
        codes k deltas ++ left,
        ap (delta_at k) shape ∙ delta_at-code k d (codes k deltas ++ left),
        record { deltas = deltas; sums = rest_sums ∙ ap (λ (n : ℕ). running_sums n deltas) (sym first); coded = refl },
      )

-- one value more in front
Stops-more : (k n e v d : ℕ) (bits rest : List Bool) (values : List ℕ) (fault : Option RiceFault) → delta_at k bits ≡ Some (d, rest)
    → Stops k n (e + 1) (v + d) rest values fault → Stops k (suc n) e v bits ((v + d) ∷ values) fault
Stops-more k n e v d bits rest values None is s = (ap suc s.0, s.1, Follows-more k v d bits rest s.1 values is s.2, s.3)
Stops-more k n e v d bits rest values (Some (Parameter p)) is s = s
Stops-more k n e v d bits rest values (Some (CountLimit p)) is s = s
Stops-more k n e v d bits rest values (Some (Ended entry)) is s =
    (omega (arith, s.0), omega (arith, s.1), s.2, Follows-more k v d bits rest s.2 values is s.3, s.4)
Stops-more k n e v d bits rest values (Some (Range entry)) is s =
    (omega (arith, s.0), omega (arith, s.1), s.2, s.3, Follows-more k v d bits rest s.3 (values ++ s.2 ∷ []) is s.4, s.5)
Stops-more k n e v d bits rest values (Some (LeftOver over)) is s = (ap suc s.0, s.1, Follows-more k v d bits rest s.1 values is s.2, s.3, s.4)
Stops-more k n e v d bits rest values (Some OutOfMemory) is s = s

-- What is read is so.
abbrev pub IsSound : ℕ → ℕ → ℕ → ℕ → List Bool → Reading → Type 0
IsSound k n e v bits r = AreInRange r.values × Stops k n e v bits r.values r.fault

sound_end : (k e v : ℕ) (bits : List Bool) (test : Bool) → ltb (length bits) 8 ≡ test → IsSound k 0 e v bits (stopped (cond test None (Some (LeftOver (min (length bits) (2 ^ 64 - 1))))))
sound_end k e v bits true short =
    let few : length bits < 8 = grind (arith, nat_tests) in
    (tt, (refl, bits, Follows-none k v bits, few))
sound_end k e v bits false long =
    let many : 8 ≤ length bits = grind (arith, nat_tests) in
    (tt, (refl, bits, Follows-none k v bits, many, refl))

sound_found : (k n e v d : ℕ) (bits rest : List Bool) (r : Reading) (test : Bool) → delta_at k bits ≡ Some (d, rest) → ltb (v + d) (2 ^ 32) ≡ test
    → IsSound k n (e + 1) (v + d) rest r → IsSound k (suc n) e v bits (cond test (with_value (v + d) r) (stopped (Some (Range e))))
sound_found k n e v d bits rest r true is below s =
    let within : v + d < 2 ^ 32 = grind (arith, nat_tests) in
    ((within, s.0), Stops-more k n e v d bits rest r.values r.fault is s.1)
sound_found k n e v d bits rest r false is above s =
    let beyond : 2 ^ 32 ≤ v + d = grind (arith, nat_tests) in
    (tt, (omega arith, omega arith, v + d, rest, Follows-more k v d bits rest rest [] is (Follows-none k (v + d) rest), beyond))

pub sound : (k n e v : ℕ) (bits : List Bool) → IsSound k n e v bits (reading k n e v bits)
unfolding reading
sound k zero e v bits = sound_end k e v bits (ltb (length bits) 8) refl
sound k (suc n) e v bits = go (delta_at k bits) refl (λ d rest. sound k n (e + 1) (v + d) rest) where
  go : (found : Option (ℕ × List Bool)) → delta_at k bits ≡ found → ((d : ℕ) (rest : List Bool) → IsSound k n (e + 1) (v + d) rest (reading k n (e + 1) (v + d) rest))
      → IsSound k (suc n) e v bits (reading_step (reading k n (e + 1)) e v found)
  go None is again = (tt, (omega arith, omega arith, bits, Follows-none k v bits, no_code k bits is))
  go (Some (d, rest)) is again = sound_found k n e v d bits rest (reading k n (e + 1) (v + d) rest) (ltb (v + d) (2 ^ 32)) is refl (again d rest)

-- ---- and nothing else is
abbrev pub gives : List ℕ → Option RiceFault → Reading
gives values fault = record { values = values; fault = fault }

-- one value less
Stops-less : (k n e v w : ℕ) (bits : List Bool) (values : List ℕ) (fault : Option RiceFault) → Stops k (suc n) e v bits (w ∷ values) fault
    → (d : ℕ) × (w ≡ v + d) × (rest : List Bool) × (delta_at k bits ≡ Some (d, rest)) × Stops k n (e + 1) w rest values fault
Stops-less k n e v w bits values None s =
    let less = Follows-less k v w bits s.1 values s.2 in
    (less.0, less.1, less.2, less.3, (omega (arith, s.0), s.1, less.4, s.3))
Stops-less k n e v w bits values (Some (Parameter p)) s = absurd s
Stops-less k n e v w bits values (Some (CountLimit p)) s = absurd s
Stops-less k n e v w bits values (Some (Ended entry)) s =
    let less = Follows-less k v w bits s.2 values s.3 in
    (less.0, less.1, less.2, less.3, (omega (arith, s.0), omega (arith, s.1), s.2, less.4, s.4))
Stops-less k n e v w bits values (Some (Range entry)) s =
    let less = Follows-less k v w bits s.3 (values ++ s.2 ∷ []) s.4 in
    (less.0, less.1, less.2, less.3, (omega (arith, s.0), omega (arith, s.1), s.2, s.3, less.4, s.5))
Stops-less k n e v w bits values (Some (LeftOver over)) s =
    let less = Follows-less k v w bits s.1 values s.2 in
    (less.0, less.1, less.2, less.3, (omega (arith, s.0), s.1, less.4, s.3, s.4))
Stops-less k n e v w bits values (Some OutOfMemory) s = absurd s

Stops-length : (k n e v : ℕ) (bits : List Bool) (values : List ℕ) (fault : Option RiceFault) → Stops k n e v bits values fault → length values ≤ n
Stops-length k n e v bits values None s = omega (arith, s.0)
Stops-length k n e v bits values (Some (Parameter p)) s = absurd s
Stops-length k n e v bits values (Some (CountLimit p)) s = absurd s
Stops-length k n e v bits values (Some (Ended entry)) s = omega (arith, s.1)
Stops-length k n e v bits values (Some (Range entry)) s = omega (arith, s.1)
Stops-length k n e v bits values (Some (LeftOver over)) s = omega (arith, s.0)
Stops-length k n e v bits values (Some OutOfMemory) s = absurd s

Follows-left : (k v : ℕ) (bits left : List Bool) → Follows k v bits [] left → bits ≡ left
Follows-left k v bits left f = go f.deltas f.sums f.coded where
  go : (deltas : List ℕ) → [] ≡ running_sums v deltas → bits ≡ codes k deltas ++ left → bits ≡ left
  go [] sums coded = coded
  go (d ∷ deltas) sums coded = absurd (cc)

end_of-short : (bits : List Bool) → length bits < 8 → end_after_codes bits ≡ None
end_of-short bits few =
    let test : ltb (length bits) 8 ≡ true = grind (arith, nat_tests) in
    rw test refl

end_of-long : (bits : List Bool) → 8 ≤ length bits → end_after_codes bits ≡ Some (LeftOver (min (length bits) (2 ^ 64 - 1)))
end_of-long bits many =
    let test : ltb (length bits) 8 ≡ false = grind (arith, nat_tests) in
    rw test refl

-- with no value more
complete_none : (k n e v : ℕ) (bits : List Bool) (fault : Option RiceFault) → Stops k n e v bits [] fault → reading k n e v bits ≡ gives [] fault
unfolding reading
complete_none k zero e v bits None s =
    let same : bits ≡ s.1 = Follows-left k v bits s.1 s.2 in
    ap stopped (ap end_after_codes same ∙ end_of-short s.1 s.3)
complete_none k (suc n) e v bits None s = absurd (omega (arith, s.0))
complete_none k n e v bits (Some (Parameter p)) s = absurd s
complete_none k n e v bits (Some (CountLimit p)) s = absurd s
complete_none k zero e v bits (Some (Ended entry)) s = absurd (omega (arith, s.1))
complete_none k (suc n) e v bits (Some (Ended entry)) s =
    let same : bits ≡ s.2 = Follows-left k v bits s.2 s.3 in
    let none : delta_at k bits ≡ None = ap (delta_at k) same ∙ delta_at-no_code k s.2 s.4 in
    let here : e ≡ entry = omega (arith, s.0) in
    ap (reading_step (reading k n (e + 1)) e v) none ∙ ap (λ (entry : ℕ). stopped (Some (Ended entry))) here
complete_none k zero e v bits (Some (Range entry)) s = absurd (omega (arith, s.1))
complete_none k (suc n) e v bits (Some (Range entry)) s =
    let less = Follows-less k v s.2 bits s.3 [] s.4 in
    let here : e ≡ entry = omega (arith, s.0) in
    let test : ltb (v + less.0) (2 ^ 32) ≡ false = (let beyond : 2 ^ 32 ≤ v + less.0 = omega (arith, less.1, s.5) in grind (arith, nat_tests)) in
    ap (reading_step (reading k n (e + 1)) e v) less.3
    ∙ ap (λ (b : Bool). cond b (with_value (v + less.0) (reading k n (e + 1) (v + less.0) less.2)) (stopped (Some (Range e)))) test
    ∙ ap (λ (entry : ℕ). stopped (Some (Range entry))) here
complete_none k zero e v bits (Some (LeftOver over)) s =
    let same : bits ≡ s.1 = Follows-left k v bits s.1 s.2 in
    ap stopped (ap end_after_codes same ∙ end_of-long s.1 s.3 ∙ ap (λ (n : ℕ). Some (LeftOver n)) (sym s.4))
complete_none k (suc n) e v bits (Some (LeftOver over)) s = absurd (omega (arith, s.0))
complete_none k n e v bits (Some OutOfMemory) s = absurd s

pub complete : (k n e v : ℕ) (bits : List Bool) (values : List ℕ) (fault : Option RiceFault) → AreInRange values → Stops k n e v bits values fault → reading k n e v bits ≡ gives values fault
unfolding reading
complete k n e v bits [] fault within s = complete_none k n e v bits fault s
complete k zero e v bits (w ∷ values) fault within s = absurd (omega (arith, Stops-length k zero e v bits (w ∷ values) fault s))
complete k (suc n) e v bits (w ∷ values) fault within s =
    let less = Stops-less k n e v w bits values fault s in
    let test : ltb (v + less.0) (2 ^ 32) ≡ true = (let below : v + less.0 < 2 ^ 32 = omega (arith, less.1, within.0) in grind (arith, nat_tests)) in
    let rest : reading k n (e + 1) w less.2 ≡ gives values fault = complete k n (e + 1) w less.2 values fault within.1 less.4 in
    ap (reading_step (reading k n (e + 1)) e v) less.3
    ∙ ap (λ (b : Bool). cond b (with_value (v + less.0) (reading k n (e + 1) (v + less.0) less.2)) (stopped (Some (Range e)))) test
    ∙ ap (λ (u : ℕ). with_value u (reading k n (e + 1) u less.2)) (sym less.1)
    ∙ ap (with_value w) rest

-- ---- the same of a whole record
to_front : (r : RiceRecord) (values : List ℕ) (left : List Bool) → Follows r.parameter r.first (bits_of r.coded) values left → BeginsWith r (r.first ∷ values) left
to_front r values left f = record { deltas = f.deltas; sums = ap (λ (values : List ℕ). r.first ∷ values) f.sums; bits = f.coded }

-- what a reading after the first value gives is what the record stands for, or its fault
pub to_record : (r : RiceRecord) (values : List ℕ) (fault : Option RiceFault) → HasParameter r → r.first < 2 ^ 32 → AreInRange values
    → Stops r.parameter r.count 1 r.first (bits_of r.coded) values fault → IsReadingOf r (r.first ∷ values) fault
to_record r values None allowed first within s = record {
  parameter = allowed;
  count = omega (arith, s.0);
  range = (first, within);
  left = s.1;
  bits = to_front r values s.1 s.2;
  free = s.3;
}
to_record r values (Some (Parameter p)) allowed first within s = absurd s
to_record r values (Some (CountLimit p)) allowed first within s = absurd s
to_record r values (Some (Ended entry)) allowed first within s =
    ((first, within), (omega (arith, s.0), omega (arith, s.0, s.1), s.2, to_front r values s.2 s.3, s.4))
to_record r values (Some (Range entry)) allowed first within s =
    ((first, within), (omega (arith, s.0), omega (arith, s.0, s.1), s.2, s.3, to_front r (values ++ s.2 ∷ []) s.3 s.4, s.5))
to_record r values (Some (LeftOver over)) allowed first within s =
    ((first, within), (omega (arith, s.0), s.1, to_front r values s.1 s.2, s.3, s.4))
to_record r values (Some OutOfMemory) allowed first within s = absurd s

from_front : (r : RiceRecord) (value : ℕ) (values : List ℕ) (left : List Bool) → BeginsWith r (value ∷ values) left
    → (value ≡ r.first) × Follows r.parameter r.first (bits_of r.coded) values left
from_front r value values left b =
    let sums : value ∷ values ≡ r.first ∷ running_sums r.first b.deltas = b.sums in
    let first : value ≡ r.first = cc in
    let rest : values ≡ running_sums r.first b.deltas = cc in
    (first, record { deltas = b.deltas; sums = rest; coded = b.bits })

no_front : (r : RiceRecord) (left : List Bool) → BeginsWith r [] left → ⊥
no_front r left b = let sums : [] ≡ r.first ∷ running_sums r.first b.deltas = b.sums in cc

pub from_record : (r : RiceRecord) (values : List ℕ) (fault : Option RiceFault) → r.first < 2 ^ 32 → IsReadingOf r values fault
    → (rest : List ℕ) × (values ≡ r.first ∷ rest) × AreInRange rest × Stops r.parameter r.count 1 r.first (bits_of r.coded) rest fault
from_record r [] None first s = absurd (no_front r s.left s.bits)
from_record r (value ∷ values) None first s =
    let front = from_front r value values s.left s.bits in
    (values, ap (λ (v : ℕ). v ∷ values) front.0, s.range.1, (omega (arith, s.count), s.left, front.1, s.free))
from_record r values (Some (Parameter p)) first s = absurd s.1
from_record r values (Some (CountLimit p)) first s = absurd s.1
from_record r [] (Some (Ended entry)) first s = absurd (no_front r s.1.2 s.1.3)
from_record r (value ∷ values) (Some (Ended entry)) first s =
    let front = from_front r value values s.1.2 s.1.3 in
    (values, ap (λ (v : ℕ). v ∷ values) front.0, s.0.1, (omega (arith, s.1.0), omega (arith, s.1.0, s.1.1), s.1.2, front.1, s.1.4))
from_record r [] (Some (Range entry)) first s =
    let front = from_front r s.1.2 [] s.1.3 s.1.4 in
    absurd (omega (arith, front.0, s.1.5))
from_record r (value ∷ values) (Some (Range entry)) first s =
    let front = from_front r value (values ++ s.1.2 ∷ []) s.1.3 s.1.4 in
    (values, ap (λ (v : ℕ). v ∷ values) front.0, s.0.1, (omega (arith, s.1.0), omega (arith, s.1.0, s.1.1), s.1.2, s.1.3, front.1, s.1.5))
from_record r [] (Some (LeftOver over)) first s = absurd (no_front r s.1.1 s.1.2)
from_record r (value ∷ values) (Some (LeftOver over)) first s =
    let front = from_front r value values s.1.1 s.1.2 in
    (values, ap (λ (v : ℕ). v ∷ values) front.0, s.0.1, (omega (arith, s.1.0), s.1.1, front.1, s.1.3, s.1.4))
from_record r values (Some OutOfMemory) first s = absurd s.1

-- the reading of a record, and that it is the only one
pub reading_is : (r : RiceRecord) → HasParameter r → r.first < 2 ^ 32
    → IsReadingOf r (r.first ∷ (reading r.parameter r.count 1 r.first (bits_of r.coded)).values) (reading r.parameter r.count 1 r.first (bits_of r.coded)).fault
reading_is r allowed first =
    let s = sound r.parameter r.count 1 r.first (bits_of r.coded) in
    to_record r _ _ allowed first s.0 s.1

pub reading_only : (r : RiceRecord) → r.first < 2 ^ 32 → (values : List ℕ) (fault : Option RiceFault) → IsReadingOf r values fault
    → (values ≡ r.first ∷ (reading r.parameter r.count 1 r.first (bits_of r.coded)).values) × (fault ≡ (reading r.parameter r.count 1 r.first (bits_of r.coded)).fault)
reading_only r first values fault s =
    let known = from_record r values fault first s in
    let same : reading r.parameter r.count 1 r.first (bits_of r.coded) ≡ gives known.0 fault = complete r.parameter r.count 1 r.first (bits_of r.coded) known.0 fault known.2 known.3 in
    (known.1 ∙ ap (λ (g : Reading). r.first ∷ g.values) (sym same), ap (λ (g : Reading). g.fault) (sym same))
