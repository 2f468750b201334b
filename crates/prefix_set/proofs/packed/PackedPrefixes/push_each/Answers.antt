use Rattle.std.proofs.Common.{◌≡◌, ◌++◌, length, arith, ap, sym, ◌∙◌}
use Rattle.sb_model.specs.Prefixes.{concatenation}
use Rattle.prefix_set.specs.Pieces.{pieces_of}
use Rattle.prefix_set.proofs.PackedFacts.{HaveSize-pieces_of, joined_pieces_of}
use Rattle.prefix_set.proofs.PackedList.{Packs, packs, packed_from, members_from, relaid, extended_even, OnErr-always}
use Rattle.prefix_set.proofs.packed.PackedPrefixes.push_each.Goals as goal

-- the layout was not extended
unchanged : (c : goal.After-from_residual-in_err-extend_even) → Packs c.args.self.now c.reserve.new.self.items c.extend_even.new.self
unchanged c =
    relaid c.args.self.now c.self.inside.bytes.items c.reserve.new.self.items c.self.inside.layout c.extend_even.new.self
    (packs c.args.self.now c.self.inside.bytes.items c.self.inside.layout c.self.invariant c.self.view_is)
    c.in_ok-reserve.ensures.items (c.in_err-extend_even.ensures.err c.args.self.now)

pub invariant_of-self-in_err-extend_even : goal.invariant_of-self-in_err-extend_even
invariant_of-self-in_err-extend_even c = packed_from c.args.self.now c.reserve.new.self.items c.extend_even.new.self (unchanged c)

pub returns-in_err-extend_even-clause-err : goal.returns-in_err-extend_even-clause-err
returns-in_err-extend_even-clause-err c =
    OnErr-always c.from_residual-in_err-extend_even.result (members_from c.args.self.now c.reserve.new.self.items c.extend_even.new.self (unchanged c))

-- the pieces stand behind what was there
appended : (c : goal.In_ok-extend_from_slice) → Packs (c.args.self.now ++ pieces_of c.args.size c.args.bytes.now) c.extend_from_slice.new.self.items c.extend_even.new.self
appended c =
    let p : Packs c.args.self.now c.self.inside.bytes.items c.self.inside.layout = packs c.args.self.now c.self.inside.bytes.items c.self.inside.layout c.self.invariant c.self.view_is in
    let holds : length (concatenation c.args.self.now) ≡ c.len-held.result = ap length p.joined ∙ sym (c.len-held.ensures ∙ c.self.inside.bytes.ok.0) in
    extended_even c.args.self.now c.args.size c.self.inside.bytes.items c.args.bytes.now c.extend_from_slice.new.self.items c.self.inside.layout c.extend_even.new.self p
    c.requires.size c.requires.whole
    (c.in_ok-extend_even.ensures.ok c.args.self.now (pieces_of c.args.size c.args.bytes.now) p.laid_out holds
    (HaveSize-pieces_of c.args.size c.args.bytes.now c.requires.whole) (ap length (joined_pieces_of c.args.size c.args.bytes.now c.requires.whole)))
    (c.in_ok-extend_from_slice.ensures.items ∙ ap (λ xs. xs ++ c.args.bytes.now) c.in_ok-reserve.ensures.items)
    (omega (arith, p.limit, ap length p.joined))

pub invariant_of-self-2 : goal.invariant_of-self-2
invariant_of-self-2 c =
    packed_from (c.args.self.now ++ pieces_of c.args.size c.args.bytes.now) c.extend_from_slice.new.self.items c.extend_even.new.self (appended c)

pub returns-clause-ok : goal.returns-clause-ok
returns-clause-ok c =
    members_from (c.args.self.now ++ pieces_of c.args.size c.args.bytes.now) c.extend_from_slice.new.self.items c.extend_even.new.self (appended c)
