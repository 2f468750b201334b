-- Items are read one after the other: what the reading gives is what the relations say, and nothing else is.
use Rattle.std.proofs.Common.{◌≡◌, ℕ, zero, suc, ◌+◌, ◌-◌, ◌<◌, ◌≤◌, List, [], ◌∷◌, ◌++◌, length, Option, Some, None, Ok, Err, refl, sym, ap, ◌∙◌, subst, zero-add, append_assoc, length-append, ◌↔◌, arith}
use Rattle.proto_wire.specs.declared.fault.WireFault.{WireFault}
use Rattle.proto_wire.specs.Wire.{BeginsWithItems, IsFaultAfterItems}
use Rattle.proto_wire.specs.Reading.{Found, WireReading, with_item, ended_with, reading_with, items_within, items_from}

-- the item that is found at the front of a text is the one that is spelled there, and a fault is the one that is there
pub record IsExact {A : Type 0} (item_at : ℕ → List ℕ → Found A) (IsSpelling : List ℕ → A → Type 0) (IsFault : ℕ → List ℕ → WireFault → Type 0) : Type 0 where
  pub found : (place : ℕ) (text : List ℕ) (item : A) (rest : List ℕ) → item_at place text ≡ Ok (item, rest)
      → (spelling : List ℕ) × (text ≡ spelling ++ rest) × IsSpelling spelling item
  pub finds : (place : ℕ) (spelling : List ℕ) (item : A) (rest : List ℕ) → IsSpelling spelling item → item_at place (spelling ++ rest) ≡ Ok (item, rest)
  pub fault : (place : ℕ) (text : List ℕ) (fault : WireFault) → item_at place text ≡ Err fault → IsFault place text fault
  pub faults : (place : ℕ) (text : List ℕ) (fault : WireFault) → IsFault place text fault → item_at place text ≡ Err fault
  pub some : (spelling : List ℕ) (item : A) → IsSpelling spelling item → 0 < length spelling

-- an item takes a byte or more
abbrev pub Shrinks : {A : Type 0} → (ℕ → List ℕ → Found A) → Type 0
Shrinks {A} item_at = (place : ℕ) (text : List ℕ) (item : A) (rest : List ℕ) → item_at place text ≡ Ok (item, rest) → length rest < length text

pub shrinks : {A : Type 0} (item_at : ℕ → List ℕ → Found A) (IsSpelling : List ℕ → A → Type 0) (IsFault : ℕ → List ℕ → WireFault → Type 0)
    → IsExact item_at IsSpelling IsFault → Shrinks item_at
shrinks item_at IsSpelling IsFault exact place text item rest is =
    let found = exact.found place text item rest is in
    let some : 0 < length found.0 = exact.some found.0 item found.2 in
    omega (arith, ap length found.1, length-append found.0 rest, some)

-- so many bytes are enough if the text has no more
same_most : {A : Type 0} (item_at : ℕ → List ℕ → Found A) → Shrinks item_at → (most more place : ℕ) (text : List ℕ) → length text ≤ most → length text ≤ more
    → items_within item_at most place text ≡ items_within item_at more place text
same_most item_at less zero zero place text a b = refl
same_most item_at less zero (suc more) place [] a b = refl
same_most item_at less zero (suc more) place (byte ∷ bytes) a b = absurd (omega (arith, a))
same_most item_at less (suc most) zero place [] a b = refl
same_most item_at less (suc most) zero place (byte ∷ bytes) a b = absurd (omega (arith, b))
same_most item_at less (suc most) (suc more) place [] a b = refl
same_most {A} item_at less (suc most) (suc more) place (byte ∷ bytes) a b =
    go (item_at place (byte ∷ bytes)) refl (λ now rest c d. same_most item_at less most more now rest c d) where
      go : (found : Found A) → item_at place (byte ∷ bytes) ≡ found
          → ((now : ℕ) (rest : List ℕ) → length rest ≤ most → length rest ≤ more → items_within item_at most now rest ≡ items_within item_at more now rest)
          → reading_with (λ rest. items_within item_at most (place + (length (byte ∷ bytes) - length rest)) rest) found
          ≡ reading_with (λ rest. items_within item_at more (place + (length (byte ∷ bytes) - length rest)) rest) found
      go (Err fault) is again = refl
      go (Ok (item, rest)) is again =
          let short : length rest < length (byte ∷ bytes) = less place (byte ∷ bytes) item rest is in
          ap (with_item item) (again (place + (length (byte ∷ bytes) - length rest)) rest (omega arith) (omega arith))

-- the reading of a text by what stands at its front
pub read_end : {A : Type 0} (item_at : ℕ → List ℕ → Found A) (place : ℕ) (text : List ℕ) → text ≡ [] → items_from item_at place text ≡ ended_with None
unfolding items_from
read_end item_at place text none = rw none refl

pub read_fault : {A : Type 0} (item_at : ℕ → List ℕ → Found A) (place : ℕ) (text : List ℕ) (fault : WireFault) → 0 < length text → item_at place text ≡ Err fault
    → items_from item_at place text ≡ ended_with (Some fault)
unfolding items_from
read_fault item_at place [] fault some is = absurd (omega (arith, some))
read_fault item_at place (byte ∷ bytes) fault some is =
    ap (reading_with (λ rest. items_within item_at (length bytes) (place + (length (byte ∷ bytes) - length rest)) rest)) is

pub read_item : {A : Type 0} (item_at : ℕ → List ℕ → Found A) → Shrinks item_at → (place : ℕ) (text : List ℕ) (item : A) (rest : List ℕ) → item_at place text ≡ Ok (item, rest)
    → items_from item_at place text ≡ with_item item (items_from item_at (place + (length text - length rest)) rest)
unfolding items_from
read_item item_at less place [] item rest is = absurd (omega (arith, less place [] item rest is))
read_item item_at less place (byte ∷ bytes) item rest is =
    let short : length rest < length (byte ∷ bytes) = less place (byte ∷ bytes) item rest is in
    ap (reading_with (λ rest. items_within item_at (length bytes) (place + (length (byte ∷ bytes) - length rest)) rest)) is
    ∙ ap (with_item item) (same_most item_at less (length bytes) (length rest) (place + (length (byte ∷ bytes) - length rest)) rest (omega arith) (omega arith))

-- what a reading gives of a text whose first byte has a place
abbrev pub ComesTo : {A : Type 0} → (List ℕ → A → Type 0) → (ℕ → List ℕ → WireFault → Type 0) → ℕ → List ℕ → List A → Option WireFault → Type 0
ComesTo IsSpelling IsFault place text items None = BeginsWithItems IsSpelling text items []
ComesTo IsSpelling IsFault place text items (Some fault) =
    (rest : List ℕ) × BeginsWithItems IsSpelling text items rest × (0 < length rest) × IsFault (place + (length text - length rest)) rest fault

-- what is left is no longer than the text
pub left_within : {A : Type 0} (IsSpelling : List ℕ → A → Type 0) (text : List ℕ) (items : List A) (rest : List ℕ) → BeginsWithItems IsSpelling text items rest → length rest ≤ length text
left_within IsSpelling text [] rest b = omega (arith, ap length b)
left_within IsSpelling text (item ∷ items) rest b =
    omega (arith, ap length b.2, length-append b.0 b.1, left_within IsSpelling b.1 items rest b.4)

-- one item more stands before what comes
comes_after : {A : Type 0} (IsSpelling : List ℕ → A → Type 0) (IsFault : ℕ → List ℕ → WireFault → Type 0) (place : ℕ) (text spelling more : List ℕ) (item : A)
    (items : List A) (fault : Option WireFault) → text ≡ spelling ++ more → IsSpelling spelling item
    → ComesTo IsSpelling IsFault (place + (length text - length more)) more items fault → ComesTo IsSpelling IsFault place text (item ∷ items) fault
comes_after IsSpelling IsFault place text spelling more item items None is spelled c = (spelling, more, is, spelled, c)
comes_after IsSpelling IsFault place text spelling more item items (Some fault) is spelled c =
    let within : length c.0 ≤ length more = left_within IsSpelling more items c.0 c.1 in
    let longer : length more ≤ length text = omega (arith, ap length is, length-append spelling more) in
    let same : place + (length text - length more) + (length more - length c.0) ≡ place + (length text - length c.0) = omega arith in
    (c.0, (spelling, more, is, spelled, c.1), c.2, subst (λ (at : ℕ). IsFault at c.0 fault) same c.3)

sound_in : {A : Type 0} (item_at : ℕ → List ℕ → Found A) (IsSpelling : List ℕ → A → Type 0) (IsFault : ℕ → List ℕ → WireFault → Type 0) → IsExact item_at IsSpelling IsFault
    → (most place : ℕ) (text : List ℕ) → length text ≤ most
    → ComesTo IsSpelling IsFault place text (items_within item_at most place text).items (items_within item_at most place text).fault
sound_in item_at IsSpelling IsFault exact zero place [] within = refl
sound_in item_at IsSpelling IsFault exact zero place (byte ∷ bytes) within = absurd (omega (arith, within))
sound_in item_at IsSpelling IsFault exact (suc most) place [] within = refl
sound_in {A} item_at IsSpelling IsFault exact (suc most) place (byte ∷ bytes) within =
    go (item_at place (byte ∷ bytes)) refl (λ now rest c. sound_in item_at IsSpelling IsFault exact most now rest c) where
      go : (found : Found A) → item_at place (byte ∷ bytes) ≡ found
          → ((now : ℕ) (rest : List ℕ) → length rest ≤ most → ComesTo IsSpelling IsFault now rest (items_within item_at most now rest).items (items_within item_at most now rest).fault)
          → ComesTo IsSpelling IsFault place (byte ∷ bytes)
          (reading_with (λ rest. items_within item_at most (place + (length (byte ∷ bytes) - length rest)) rest) found).items
          (reading_with (λ rest. items_within item_at most (place + (length (byte ∷ bytes) - length rest)) rest) found).fault
      go (Err fault) is again =
          let same : place ≡ place + (length (byte ∷ bytes) - length (byte ∷ bytes)) = omega arith in
          (byte ∷ bytes, refl, omega arith, subst (λ (at : ℕ). IsFault at (byte ∷ bytes) fault) same (exact.fault place (byte ∷ bytes) fault is))
      go (Ok (item, rest)) is again =
          let found = exact.found place (byte ∷ bytes) item rest is in
          let short : length rest < length (byte ∷ bytes) = shrinks item_at IsSpelling IsFault exact place (byte ∷ bytes) item rest is in
          let now = place + (length (byte ∷ bytes) - length rest) in
          comes_after IsSpelling IsFault place (byte ∷ bytes) found.0 rest item (items_within item_at most now rest).items (items_within item_at most now rest).fault found.1 found.2
          (again now rest (omega arith))

pub sound : {A : Type 0} (item_at : ℕ → List ℕ → Found A) (IsSpelling : List ℕ → A → Type 0) (IsFault : ℕ → List ℕ → WireFault → Type 0) → IsExact item_at IsSpelling IsFault
    → (place : ℕ) (text : List ℕ) → ComesTo IsSpelling IsFault place text (items_from item_at place text).items (items_from item_at place text).fault
unfolding items_from
sound item_at IsSpelling IsFault exact place text = sound_in item_at IsSpelling IsFault exact (length text) place text (omega arith)

-- and nothing else comes
abbrev pub gives : {A : Type 0} → List A → Option WireFault → WireReading A
gives items fault = record { items = items; fault = fault }

pub complete : {A : Type 0} (item_at : ℕ → List ℕ → Found A) (IsSpelling : List ℕ → A → Type 0) (IsFault : ℕ → List ℕ → WireFault → Type 0) → IsExact item_at IsSpelling IsFault
    → (place : ℕ) (text : List ℕ) (items : List A) (fault : Option WireFault) → ComesTo IsSpelling IsFault place text items fault → items_from item_at place text ≡ gives items fault
complete item_at IsSpelling IsFault exact place text [] None c = read_end item_at place text c
complete item_at IsSpelling IsFault exact place text [] (Some fault) c =
    let same : place + (length text - length c.0) ≡ place = omega (arith, ap length c.1) in
    let here : IsFault place c.0 fault = subst (λ (at : ℕ). IsFault at c.0 fault) same c.3 in
    read_fault item_at place text fault (omega (arith, ap length c.1, c.2)) (ap (item_at place) c.1 ∙ exact.faults place c.0 fault here)
complete item_at IsSpelling IsFault exact place text (item ∷ items) None c =
    let found : item_at place text ≡ Ok (item, c.1) = ap (item_at place) c.2 ∙ exact.finds place c.0 item c.1 c.3 in
    read_item item_at (shrinks item_at IsSpelling IsFault exact) place text item c.1 found
    ∙ ap (with_item item) (complete item_at IsSpelling IsFault exact (place + (length text - length c.1)) c.1 items None c.4)
complete item_at IsSpelling IsFault exact place text (item ∷ items) (Some fault) c =
    let b = c.1 in
    let found : item_at place text ≡ Ok (item, b.1) = ap (item_at place) b.2 ∙ exact.finds place b.0 item b.1 b.3 in
    let within : length c.0 ≤ length b.1 = left_within IsSpelling b.1 items c.0 b.4 in
    let longer : length b.1 ≤ length text = omega (arith, ap length b.2, length-append b.0 b.1) in
    let same : place + (length text - length c.0) ≡ place + (length text - length b.1) + (length b.1 - length c.0) = omega arith in
    read_item item_at (shrinks item_at IsSpelling IsFault exact) place text item b.1 found
    ∙ ap (with_item item) (complete item_at IsSpelling IsFault exact (place + (length text - length b.1)) b.1 items (Some fault)
    (c.0, b.4, c.2, subst (λ (at : ℕ). IsFault at c.0 fault) same c.3))

-- ---- of a whole text
pub item_readings : {A : Type 0} (item_at : ℕ → List ℕ → Found A) (IsSpelling : List ℕ → A → Type 0) (IsFault : ℕ → List ℕ → WireFault → Type 0) → IsExact item_at IsSpelling IsFault
    → (text : List ℕ) (items : List A) → (items_from item_at 0 text ≡ gives items None) ↔ BeginsWithItems IsSpelling text items []
item_readings {A} item_at IsSpelling IsFault exact text items = (
  (λ is. subst (λ (r : WireReading A). ComesTo IsSpelling IsFault 0 text r.items r.fault) is (sound item_at IsSpelling IsFault exact 0 text)),
  complete item_at IsSpelling IsFault exact 0 text items None,
)

pub item_faults : {A : Type 0} (item_at : ℕ → List ℕ → Found A) (IsSpelling : List ℕ → A → Type 0) (IsFault : ℕ → List ℕ → WireFault → Type 0) → IsExact item_at IsSpelling IsFault
    → (text : List ℕ) (items : List A) (fault : WireFault) → (items_from item_at 0 text ≡ gives items (Some fault)) ↔ IsFaultAfterItems IsSpelling IsFault text items fault
item_faults {A} item_at IsSpelling IsFault exact text items fault = (there, here) where
  there : items_from item_at 0 text ≡ gives items (Some fault) → IsFaultAfterItems IsSpelling IsFault text items fault
  there is =
      let comes : ComesTo IsSpelling IsFault 0 text items (Some fault) =
      subst (λ (r : WireReading A). ComesTo IsSpelling IsFault 0 text r.items r.fault) is (sound item_at IsSpelling IsFault exact 0 text) in
      (comes.0, comes.1, comes.2, subst (λ (at : ℕ). IsFault at comes.0 fault) (zero-add (length text - length comes.0)) comes.3)

  here : IsFaultAfterItems IsSpelling IsFault text items fault → items_from item_at 0 text ≡ gives items (Some fault)
  here f =
      complete item_at IsSpelling IsFault exact 0 text items (Some fault)
      (f.0, f.1, f.2, subst (λ (at : ℕ). IsFault at f.0 fault) (sym (zero-add (length text - length f.0))) f.3)

-- texts of items, one after the other
pub items_joined : {A : Type 0} (IsSpelling : List ℕ → A → Type 0) (text more rest : List ℕ) (items others : List A) → BeginsWithItems IsSpelling text items []
    → BeginsWithItems IsSpelling more others rest → BeginsWithItems IsSpelling (text ++ more) (items ++ others) rest
items_joined IsSpelling text more rest [] others b later = subst (λ (text : List ℕ). BeginsWithItems IsSpelling text others rest) (sym (ap (λ (text : List ℕ). text ++ more) b)) later
items_joined IsSpelling text more rest (item ∷ items) others b later =
    (b.0, b.1 ++ more, ap (λ (text : List ℕ). text ++ more) b.2 ∙ append_assoc b.0 b.1 more, b.3, items_joined IsSpelling b.1 more rest items others b.4 later)

-- what a reading gives, by its end
pub ends_well : {A : Type 0} (item_at : ℕ → List ℕ → Found A) (IsSpelling : List ℕ → A → Type 0) (IsFault : ℕ → List ℕ → WireFault → Type 0) → IsExact item_at IsSpelling IsFault
    → (text : List ℕ) (reading : WireReading A) → items_from item_at 0 text ≡ reading → reading.fault ≡ None → BeginsWithItems IsSpelling text reading.items []
ends_well item_at IsSpelling IsFault exact text reading is none =
    let same : reading ≡ gives reading.items None = ap (gives reading.items) none in
    (item_readings item_at IsSpelling IsFault exact text reading.items).0 (is ∙ same)

pub ends_in_fault : {A : Type 0} (item_at : ℕ → List ℕ → Found A) (IsSpelling : List ℕ → A → Type 0) (IsFault : ℕ → List ℕ → WireFault → Type 0) → IsExact item_at IsSpelling IsFault
    → (text : List ℕ) (reading : WireReading A) → items_from item_at 0 text ≡ reading → (fault : WireFault) → reading.fault ≡ Some fault
    → IsFaultAfterItems IsSpelling IsFault text reading.items fault
ends_in_fault item_at IsSpelling IsFault exact text reading is fault some =
    let same : reading ≡ gives reading.items (Some fault) = ap (gives reading.items) some in
    (item_faults item_at IsSpelling IsFault exact text reading.items fault).0 (is ∙ same)
