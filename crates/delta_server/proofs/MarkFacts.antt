-- Counts of places where stretches begin and stop.
use Rattle.std.proofs.Common.{◌≡◌, ℕ, ◌+◌, ◌-◌, ◌^◌, ◌<◌, ◌≤◌, inl, inr, Bool, true, false, List, length, take, get_or, set, replicate, sym, ap, ◌∙◌, arith, get_or-set_same, get_or-set_other}
use Rattle.std.specs.Prelude.{◌&&◌, nat_le, nat_lt, min, sum, if◌then◌else◌}
use Rattle.std.proofs.lemmas.Bool.{cases_lt, cases_eq, lt-ltb, le-leb, le-ltb, lt-leb, and_left, and_right}
use Rattle.std.proofs.lemmas.List.{take-set-le, take-replicate, length-take, length-replicate, get_or-take, get_or-replicate, get_or_past}
use Rattle.std.proofs.Math.Seq.{take-set-lt}
use Rattle.std.proofs.lemmas.List.Folds.{sum_by-replicate}
use Rattle.std.proofs.lemmas.List.Sums.{sum_by-set, sum_by_more}
use Rattle.delta_server.specs.declared.marks.Marks.{Marks}
use Rattle.delta_server.specs.Sweeping.{TellsCounts}
use Rattle.delta_server.proofs.ShownFacts.{both_true}

-- ---- one more at a place

pub raised : (xs : List ℕ) (place count : ℕ) → place < length xs
    → sum (take count (set xs place (get_or xs place 0 + 1))) ≡ sum (take count xs) + (if nat_lt place count then 1 else 0)
raised xs place count within = elim (cases_lt place count) [ inl less ↦ inside less | inr past ↦ outside past ]
  where
    inside : place < count → sum (take count (set xs place (get_or xs place 0 + 1))) ≡ sum (take count xs) + (if nat_lt place count then 1 else 0)
    inside less =
        let there : place < length (take count xs) = omega (arith, length-take {A = ℕ}) in
        let own : get_or (take count xs) place 0 ≡ get_or xs place 0 = get_or-take count xs place 0 less in
        let more = sum_by-set (λ n. n) (take count xs) place (get_or xs place 0 + 1) 0 there in
        ap sum (take-set-lt count xs place (get_or xs place 0 + 1) less)
        ∙ (let one : sum (set (take count xs) place (get_or xs place 0 + 1)) ≡ sum (take count xs) + 1 = omega (arith, more, own) in one)
        ∙ sym (ap (λ (t : Bool). sum (take count xs) + (if t then 1 else 0)) (lt-ltb place count less))

    outside : count ≤ place → sum (take count (set xs place (get_or xs place 0 + 1))) ≡ sum (take count xs) + (if nat_lt place count then 1 else 0)
    outside past =
        ap sum (take-set-le count xs place (get_or xs place 0 + 1) past)
        ∙ (let same : sum (take count xs) ≡ sum (take count xs) + 0 = omega arith in same)
        ∙ sym (ap (λ (t : Bool). sum (take count xs) + (if t then 1 else 0)) (le-ltb place count past))

pub raised_to : (xs : List ℕ) (place value count : ℕ) → place < length xs → value ≡ get_or xs place 0 + 1
    → sum (take count (set xs place value)) ≡ sum (take count xs) + (if nat_lt place count then 1 else 0)
raised_to xs place value count within is = ap (λ (v : ℕ). sum (take count (set xs place v))) is ∙ raised xs place count within

pub raised_most : (xs : List ℕ) (place value most : ℕ) → place < length xs → value ≤ get_or xs place 0 + 1 → ((k : ℕ) → get_or xs k 0 ≤ most)
    → (k : ℕ) → get_or (set xs place value) k 0 ≤ most + 1
raised_most xs place value most within few each k = elim (cases_eq k place) [
  | inl same ↦ omega (arith, few, each place, ap (λ n. get_or (set xs place value) n 0) same, get_or-set_same xs place value 0 within)
  | inr other ↦ omega (arith, each k, get_or-set_other xs place k value 0 other)
]

-- ---- a stretch more

abbrev pub bit : Bool → ℕ
bit t = if t then 1 else 0

bits : (a b c x y z : Bool) → a ≡ x → b ≡ y → c ≡ z → bit x ≡ bit y + bit z → bit a ≡ bit b + bit c
bits a b c x y z first second third is = ap bit first ∙ is ∙ sym (ap (λ (t : Bool). bit t + bit z) second) ∙ sym (ap (λ (t : Bool). bit b + bit t) third)

-- a stretch of places that begins by a place has the place, or it stops by it
piece_counts : (begin stop place : ℕ) → begin ≤ stop → bit (nat_lt begin (place + 1)) ≡ bit (nat_lt stop (place + 1)) + bit (nat_le begin place && nat_lt place stop)
piece_counts begin stop place order = elim (cases_lt place begin) [
  | inl before ↦
      bits (nat_lt begin (place + 1)) (nat_lt stop (place + 1)) (nat_le begin place && nat_lt place stop) false false false
      (le-ltb begin (place + 1) (omega arith)) (le-ltb stop (place + 1) (omega arith)) (and_left (nat_le begin place) (nat_lt place stop) (lt-leb begin place before)) (omega arith)
  | inr after ↦ elim (cases_lt place stop) [
    | inl within ↦
        bits (nat_lt begin (place + 1)) (nat_lt stop (place + 1)) (nat_le begin place && nat_lt place stop) true false true
        (lt-ltb begin (place + 1) (omega arith)) (le-ltb stop (place + 1) (omega arith))
        (both_true (nat_le begin place) (nat_lt place stop) (le-leb begin place after) (lt-ltb place stop within)) (omega arith)
    | inr past ↦
        bits (nat_lt begin (place + 1)) (nat_lt stop (place + 1)) (nat_le begin place && nat_lt place stop) true true false
        (lt-ltb begin (place + 1) (omega arith)) (lt-ltb stop (place + 1) (omega arith)) (and_right (nat_le begin place) (nat_lt place stop) (le-ltb place stop past)) (omega arith)
  ]
]

pub tells_marked : (old new : Marks) (begin stop most : ℕ) (count : ℕ → ℕ) → begin ≤ stop → TellsCounts old most count → length new.begins.items ≡ length old.begins.items
    → ((n : ℕ) → sum (take n new.begins.items) ≡ sum (take n old.begins.items) + bit (nat_lt begin n))
    → ((n : ℕ) → sum (take n new.stops.items) ≡ sum (take n old.stops.items) + bit (nat_lt stop n))
    → ((k : ℕ) → get_or new.begins.items k 0 ≤ most + 1) → ((k : ℕ) → get_or new.stops.items k 0 ≤ most + 1)
    → TellsCounts new (most + 1) (λ place. count place + (if nat_le begin place && nat_lt place stop then 1 else 0))
tells_marked old new begin stop most count order tells long begun stopped begins stops = record {
  sums = λ place within.
      let before = tells.sums place (omega (arith, within, long)) in
      let counts = piece_counts begin stop place order in
      omega (arith, begun (place + 1), stopped (place + 1), before, counts);
  begins = begins;
  stops = stops;
}

-- the same counts, and more room
pub tells_more : (marks : Marks) (most more : ℕ) (count other : ℕ → ℕ) → most ≤ more → ((place : ℕ) → place + 1 < length marks.begins.items → other place ≡ count place)
    → TellsCounts marks most count → TellsCounts marks more other
tells_more marks most more count other room same tells = record {
  sums = λ place within. omega (arith, tells.sums place within, same place within);
  begins = λ k. omega (arith, tells.begins k, room);
  stops = λ k. omega (arith, tells.stops k, room);
}

abbrev zeros : ℕ → List ℕ
zeros places = replicate places 0

pub none_marked : (marks : Marks) (places : ℕ) → marks.begins.items ≡ zeros places → marks.stops.items ≡ zeros places → TellsCounts marks 0 (λ place. 0)
none_marked marks places begins stops = record {
  sums = λ place within.
      let long : length marks.begins.items ≡ places = ap length begins ∙ length-replicate {A = ℕ} places 0 in
      let below : place + 1 ≤ places = omega (arith, within, long) in
      omega (arith, ap (λ (xs : List ℕ). sum (take (place + 1) xs)) begins, ap (λ (xs : List ℕ). sum (take (place + 1) xs)) stops, nothing (place + 1) below);
  begins = λ k. omega (arith, ap (λ (xs : List ℕ). get_or xs k 0) begins, zero_at k);
  stops = λ k. omega (arith, ap (λ (xs : List ℕ). get_or xs k 0) stops, zero_at k);
}
  where
    nothing : (n : ℕ) → n ≤ places → sum (take n (zeros places)) ≡ 0
    nothing n below = ap sum (take-replicate n places 0 below) ∙ sum_by-replicate (λ k. k) n 0 ∙ omega arith

    zero_at : (k : ℕ) → get_or (zeros places) k 0 ≡ 0
    zero_at k = elim (cases_lt k places) [ inl less ↦ get_or-replicate {A = ℕ} places k 0 0 less | inr past ↦ get_or_past (zeros places) k 0 (omega (arith, past, length-replicate {A = ℕ} places 0)) ]

-- ---- the count at a place

pub level_is : (marks : Marks) (place before most result : ℕ) (count : ℕ → ℕ) → place + 1 < length marks.begins.items → length marks.stops.items ≡ length marks.begins.items
    → most < 2 ^ 63 → count place < 2 ^ 63 → TellsCounts marks most count → before + sum (take place marks.stops.items) ≡ sum (take place marks.begins.items)
    → result ≡ min (before + get_or marks.begins.items place 0) (2 ^ 64 - 1) - get_or marks.stops.items place 0 → result ≡ count place
level_is marks place before most result count within same few less tells stands is =
    let begun = sum_by_more (λ n. n) marks.begins.items place 0 (omega (arith, within)) in
    let stopped = sum_by_more (λ n. n) marks.stops.items place 0 (omega (arith, within, same)) in
    omega (arith, begun, stopped, tells.sums place within, tells.stops place, few, less, stands, is)

pub next_level : (marks : Marks) (place result most : ℕ) (count : ℕ → ℕ) → place + 1 < length marks.begins.items → TellsCounts marks most count → result ≡ count place
    → result + sum (take (place + 1) marks.stops.items) ≡ sum (take (place + 1) marks.begins.items)
next_level marks place result most count within tells is = omega (arith, tells.sums place within, is)
