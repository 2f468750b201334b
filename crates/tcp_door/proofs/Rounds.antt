-- What one call and another do to the connections of a house.
use Rattle.std.proofs.Common.{◌≡◌, ◌≢◌, ◌⊎◌, inl, inr, ℕ, List, Some, None, sym, ap, subst, ◌∙◌, rules}
use Rattle.std.specs.Prelude.{Option, IfSome, IsSomeAnd}
use Rattle.std.proofs.lemmas.Bool.{cases_eq}
use Rattle.slab.specs.Slab.{Slab, get, with_value, Updates}
use Rattle.slab.proofs.SlabLemmas.{Updates-with_value}
use Rattle.gathering.specs.declared.phases.Phase.TheVariants.{InTurn}
use Rattle.gathering.specs.Wires.{WireInHand}
use Rattle.tcp_door.specs.Guests.{left_of, IsRest, IsServedGuest, IsSettled, StandsForGuest, HasTurnBy}
use Rattle.tcp_door.specs.Houses.{BeginsAnswer, HandsOut, IsOut, OnlyCloses, OnlyClosesOthers, Settles, TakesBack, WorksFor, WorksForAll}
use Rattle.tcp_door.specs.declared.guests.Guest.{Guest}
use Rattle.tcp_door.proofs.Served.{rest_of_rest, settled_served, served_twice, served_same}

pub others_twice : (before between after : Slab Guest) (slot : ℕ) → OnlyClosesOthers before between slot → OnlyClosesOthers between after slot → OnlyClosesOthers before after slot
others_twice before between after slot one two = record { was = λ other differs guest there. one.was other differs guest (two.was other differs guest there) }

-- nobody is left where one was closed
closed_was : (before after : Slab Guest) (slot other : ℕ) (guest : Guest) → Updates before after slot None → get after other ≡ Some guest → (other ≡ slot) ⊎ (other ≢ slot) → get before other ≡ Some guest
closed_was before after slot other guest closed there (inl same) = absurd (let gone : get after other ≡ None = ap (λ k. get after k) same ∙ closed.changed in cc)
closed_was before after slot other guest closed there (inr differs) = sym (closed.others other differs) ∙ there

pub one_closed : (before after : Slab Guest) (slot : ℕ) → Updates before after slot None → OnlyCloses before after
one_closed before after slot closed = record { was = λ other guest there. closed_was before after slot other guest closed there (cases_eq other slot) }

pub nothing_closed : (before : Slab Guest) → OnlyCloses before before
nothing_closed before = record { was = λ slot guest there. there }

pub closes_more : (before between after : Slab Guest) (slot : ℕ) → OnlyCloses before between → Updates between after slot None → OnlyCloses before after
closes_more before between after slot closes closed =
    let one = one_closed between after slot closed in
    record { was = λ other guest there. closes.was other guest (one.was other guest there) }

pub settles_works : (before after : Slab Guest) (slot : ℕ) → Settles before after slot → WorksFor before after slot
settles_works before after slot settles = record {
  own = λ guest there. let old = settles.own guest there in (old.0, old.1, settled_served old.0 guest old.2);
  others = settles.others;
}

pub works_twice : (before between after : Slab Guest) (slot : ℕ) → WorksFor before between slot → WorksFor between after slot → WorksFor before after slot
works_twice before between after slot one two = record {
  own = λ guest there.
      let mid = two.own guest there in
      let old = one.own mid.0 mid.1 in
      (old.0, old.1, served_twice old.0 mid.0 guest old.2 mid.2);
  others = others_twice before between after slot one.others two.others;
}

pub works_settles : (before between after : Slab Guest) (slot : ℕ) → WorksFor before between slot → Settles between after slot → WorksFor before after slot
works_settles before between after slot works settles = works_twice before between after slot works (settles_works between after slot settles)

still_served : (before between after : Slab Guest) (slot other : ℕ) (guest : Guest) → WorksForAll before between → WorksFor between after slot → get after other ≡ Some guest
    → (other ≡ slot) ⊎ (other ≢ slot) → (was : Guest) × (get before other ≡ Some was) × IsServedGuest was guest
still_served before between after slot other guest all works there (inl same) =
    let mid = works.own guest (ap (λ k. get after k) (sym same) ∙ there) in
    let old = all.own other mid.0 (ap (λ k. get between k) same ∙ mid.1) in
    (old.0, old.1, served_twice old.0 mid.0 guest old.2 mid.2)
still_served before between after slot other guest all works there (inr differs) = all.own other guest (works.others.was other differs guest there)

pub one_more_served : (before between after : Slab Guest) (slot : ℕ) → WorksForAll before between → WorksFor between after slot → WorksForAll before after
one_more_served before between after slot all works =
    record { own = λ other guest there. still_served before between after slot other guest all works there (cases_eq other slot) }

pub nobody_served : (before : Slab Guest) → WorksForAll before before
nobody_served before = record { own = λ slot guest there. (guest, there, served_same guest) }

pub nothing_worked : (before : Slab Guest) (slot : ℕ) → WorksFor before before slot
nothing_worked before slot = record { own = λ guest there. (guest, there, served_same guest); others = record { was = λ other differs guest there. there } }

-- a wire of a connection that was there all along
pub out_before : (before between : Slab Guest) (wire : WireInHand) → OnlyCloses before between → HandsOut between wire → HandsOut before wire
out_before before between wire closes out = record { guest = out.guest; there = closes.was wire.slot out.guest out.there; stands = out.stands }

-- the connection of a wire that was handed out has its turn by it
pub out_if : (mid : Slab Guest) (slot : ℕ) (guest turned : Guest) (found : Option WireInHand) → get mid slot ≡ Some guest → turned.serial ≡ guest.serial → turned.phase ≡ InTurn
    → IfSome found (λ wire. wire.slot ≡ slot) → IfSome found (λ wire. StandsForGuest wire guest) → IfSome found (λ wire. IsOut (with_value mid slot turned) wire)
out_if mid slot guest turned None there serial phase at stands = tt
out_if mid slot guest turned (Some wire) there serial phase at stands = record {
  guest = turned;
  there = ap (λ k. get (with_value mid slot turned) k) at ∙ (Updates-with_value mid slot turned (rw there (search rules))).changed;
  turn = record { serial = serial ∙ sym stands.serial; phase = phase };
}

-- what is written to one slot
written_there : (before : Slab Guest) (slot : ℕ) (was now guest : Guest) → get before slot ≡ Some was → get (with_value before slot now) slot ≡ Some guest → guest ≡ now
written_there before slot was now guest there found =
    let changed : get (with_value before slot now) slot ≡ Some now = (Updates-with_value before slot now (rw there (search rules))).changed in
    cc

written_others : (before : Slab Guest) (slot : ℕ) (was now : Guest) → get before slot ≡ Some was → OnlyClosesOthers before (with_value before slot now) slot
written_others before slot was now there =
    record { was = λ other differs guest found. sym ((Updates-with_value before slot now (rw there (search rules))).others other differs) ∙ found }

written_works : (before : Slab Guest) (slot : ℕ) (was now : Guest) → get before slot ≡ Some was → IsServedGuest was now → WorksFor before (with_value before slot now) slot
written_works before slot was now there served = record {
  own = λ guest found. (was, there, subst (λ (g : Guest). IsServedGuest was g) (sym (written_there before slot was now guest there found)) served);
  others = written_others before slot was now there;
}

-- a connection is heard, and what was heard is worked for
pub heard_works : (before between after : Slab Guest) (slot : ℕ) (was now : Guest) → get before slot ≡ Some was → IsSettled was now → WorksFor (with_value before slot now) between slot → Settles between after slot
    → WorksFor before after slot
heard_works before between after slot was now there settled works settles =
    works_settles before between after slot (works_twice before (with_value before slot now) between slot (written_works before slot was now there (settled_served was now settled)) works) settles

-- an answer is sent to a connection, and it goes on
pub sent_works : (before after : Slab Guest) (slot : ℕ) (was now : Guest) → get before slot ≡ Some was → IsServedGuest was now → Settles (with_value before slot now) after slot → WorksFor before after slot
sent_works before after slot was now there served settles =
    works_settles before (with_value before slot now) after slot (written_works before slot was now there served) settles

-- an answer begins, and the connection goes on
begun : (was now guest : Guest) (answer : List ℕ) → now.serial ≡ was.serial → left_of now.answer ≡ answer → IsSettled now guest → (guest.serial ≡ was.serial) × IsRest (left_of guest.answer) answer
begun was now guest answer serial left settled = (settled.serial ∙ serial, rw (← left) (settled_served now guest settled).answer)

pub answer_begins : (before after : Slab Guest) (slot : ℕ) (was now : Guest) (answer : List ℕ) → get before slot ≡ Some was → now.serial ≡ was.serial → left_of now.answer ≡ answer
    → Settles (with_value before slot now) after slot → BeginsAnswer before after slot answer
answer_begins before after slot was now answer there serial left settles = record {
  own = λ guest found.
      let mid = settles.own guest found in
      let same : mid.0 ≡ now = written_there before slot was now mid.0 there mid.1 in
      (was, there, begun was now guest answer serial left (subst (λ (g : Guest). IsSettled g guest) same mid.2));
  others = others_twice before (with_value before slot now) after slot (written_others before slot was now there) settles.others;
}

-- something of a connection is noted, and it is worked for
pub noted_works : (before after : Slab Guest) (slot : ℕ) (was now : Guest) → get before slot ≡ Some was → IsSettled was now → WorksFor (with_value before slot now) after slot → WorksFor before after slot
noted_works before after slot was now there settled works =
    works_twice before (with_value before slot now) after slot (written_works before slot was now there (settled_served was now settled)) works

-- an answer begins, the connection is worked for, and some are closed
pub answer_sent : (before begins works after : Slab Guest) (slot : ℕ) (answer : List ℕ) → BeginsAnswer before begins slot answer → WorksFor begins works slot → OnlyCloses works after → BeginsAnswer before after slot answer
answer_sent before begins works after slot answer begun worked closes = record {
  own = λ guest found.
      let mid = worked.own guest (closes.was slot guest found) in
      let old = begun.own mid.0 mid.1 in
      (old.0, old.1, (mid.2.serial ∙ old.2.0, rest_of_rest (left_of guest.answer) (left_of mid.0.answer) answer mid.2.answer old.2.1));
  others = others_twice before begins after slot begun.others
      (others_twice begins works after slot worked.others (record { was = λ other differs guest found. closes.was other guest found }));
}

-- the connection in a slot has its turn, of this number
turn_by : (wire : WireInHand) (found : Option Guest) (was : Guest) → IsSomeAnd found (λ (g : Guest). (g.serial ≡ wire.serial) × (g.phase ≡ InTurn)) → found ≡ Some was → HasTurnBy wire was
turn_by wire found was turn same =
    let both : (was.serial ≡ wire.serial) × (was.phase ≡ InTurn) = subst (λ (o : Option Guest). IsSomeAnd o (λ (g : Guest). (g.serial ≡ wire.serial) × (g.phase ≡ InTurn))) same turn in
    record { serial = both.0; phase = both.1 }

pub taken_back : (before ended after : Slab Guest) (wire : WireInHand) (slot serial : ℕ) (answer : List ℕ) → slot ≡ wire.slot → serial ≡ wire.serial
    → IsSomeAnd (get before slot) (λ (g : Guest). (g.serial ≡ serial) × (g.phase ≡ InTurn)) → Settles before ended slot → BeginsAnswer ended after slot answer → answer ≡ wire.written → TakesBack before after wire
taken_back before ended after wire slot serial answer at number turn ends begun same =
    let there : IsSomeAnd (get before wire.slot) (λ (g : Guest). (g.serial ≡ serial) × (g.phase ≡ InTurn)) =
    subst (λ (s : ℕ). IsSomeAnd (get before s) (λ (g : Guest). (g.serial ≡ serial) × (g.phase ≡ InTurn))) at turn in
    let numbered : IsSomeAnd (get before wire.slot) (λ (g : Guest). (g.serial ≡ wire.serial) × (g.phase ≡ InTurn)) =
    subst (λ (n : ℕ). IsSomeAnd (get before wire.slot) (λ (g : Guest). (g.serial ≡ n) × (g.phase ≡ InTurn))) number there in
    let ended_there = subst (λ (s : ℕ). Settles before ended s) at ends in
    let begun_there = subst (λ (s : ℕ). BeginsAnswer ended after s answer) at begun in
    record {
      own = λ guest found.
          let mid = begun_there.own guest found in
          let old = ended_there.own mid.0 mid.1 in
          let by : HasTurnBy wire old.0 = turn_by wire (get before wire.slot) old.0 numbered old.1 in
          (old.0, old.1, record { serial = mid.2.0 ∙ old.2.serial; answer = λ _. subst (λ (bytes : List ℕ). IsRest (left_of guest.answer) bytes) same mid.2.1; other = inl by });
      others = others_twice before ended after wire.slot ended_there.others begun_there.others;
    }

pub closed_back : (before ended after : Slab Guest) (wire : WireInHand) (slot : ℕ) → slot ≡ wire.slot → Settles before ended slot → Updates ended after slot None → TakesBack before after wire
closed_back before ended after wire slot at ends closes =
    let ended_there = subst (λ (s : ℕ). Settles before ended s) at ends in
    let closed = subst (λ (s : ℕ). Updates ended after s None) at closes in
    record {
      own = λ guest found. absurd (let gone : get after wire.slot ≡ None = closed.changed in cc);
      others = others_twice before ended after wire.slot ended_there.others (record { was = λ other differs guest found. sym (closed.others other differs) ∙ found });
    }
