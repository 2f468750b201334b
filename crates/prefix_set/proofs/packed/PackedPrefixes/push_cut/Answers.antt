use Rattle.std.proofs.Common.{◌≡◌, ◌++◌, List, ℕ, length, arith, ap, sym, ◌∙◌}
use Rattle.sb_model.specs.Prefixes.{concatenation}
use Rattle.prefix_set.specs.Packing.{cut_from}
use Rattle.prefix_set.proofs.PackedList.{Packs, packs, packed_from, members_from, relaid, extended, OnErr-always, cuts_after, cuts_fit}
use Rattle.prefix_set.proofs.packed.PackedPrefixes.push_cut.Goals as goal

pub extend_cut-requires-clause-after : goal.extend_cut-requires-clause-after
extend_cut-requires-clause-after c =
    cuts_after c.args.from c.args.cuts.now (cut_from c.args.from c.args.cuts.now c.args.bytes.now) c.requires.ends

pub extend_cut-requires-clause-limit : goal.extend_cut-requires-clause-limit
extend_cut-requires-clause-limit c =
    cuts_fit c.args.from c.len-held.result c.args.cuts.now c.args.bytes.now (cut_from c.args.from c.args.cuts.now c.args.bytes.now)
    c.requires.ends c.requires.joined (omega arith)

-- the layout was not extended
unchanged : (c : goal.After-from_residual-in_err-extend_cut) → Packs c.args.self.now c.reserve.new.self.items c.extend_cut.new.self
unchanged c =
    relaid c.args.self.now c.self.inside.bytes.items c.reserve.new.self.items c.self.inside.layout c.extend_cut.new.self
    (packs c.args.self.now c.self.inside.bytes.items c.self.inside.layout c.self.invariant c.self.view_is)
    c.in_ok-reserve.ensures.items (c.in_err-extend_cut.ensures.err c.args.self.now)

pub invariant_of-self-in_err-extend_cut : goal.invariant_of-self-in_err-extend_cut
invariant_of-self-in_err-extend_cut c = packed_from c.args.self.now c.reserve.new.self.items c.extend_cut.new.self (unchanged c)

pub returns-in_err-extend_cut-clause-err : goal.returns-in_err-extend_cut-clause-err
returns-in_err-extend_cut-clause-err c =
    OnErr-always c.from_residual-in_err-extend_cut.result (members_from c.args.self.now c.reserve.new.self.items c.extend_cut.new.self (unchanged c))

-- the members stand behind what was there
appended : (c : goal.In_ok-extend_from_slice)
    → Packs (c.args.self.now ++ cut_from c.args.from c.args.cuts.now c.args.bytes.now) c.extend_from_slice.new.self.items c.extend_cut.new.self
appended c =
    let more : List (List ℕ) = cut_from c.args.from c.args.cuts.now c.args.bytes.now in
    let p : Packs c.args.self.now c.self.inside.bytes.items c.self.inside.layout = packs c.args.self.now c.self.inside.bytes.items c.self.inside.layout c.self.invariant c.self.view_is in
    let holds : length (concatenation c.args.self.now) ≡ c.len-held.result = ap length p.joined ∙ sym (c.len-held.ensures ∙ c.self.inside.bytes.ok.0) in
    extended c.args.self.now more c.self.inside.bytes.items c.args.bytes.now c.extend_from_slice.new.self.items c.self.inside.layout c.extend_cut.new.self p
    c.requires.joined c.requires.sizes (c.in_ok-extend_cut.ensures.ok c.args.self.now more p.laid_out holds c.requires.ends)
    (c.in_ok-extend_from_slice.ensures.items ∙ ap (λ xs. xs ++ c.args.bytes.now) c.in_ok-reserve.ensures.items)
    (omega (arith, p.limit, ap length p.joined))

pub invariant_of-self-2 : goal.invariant_of-self-2
invariant_of-self-2 c =
    packed_from (c.args.self.now ++ cut_from c.args.from c.args.cuts.now c.args.bytes.now) c.extend_from_slice.new.self.items c.extend_cut.new.self (appended c)

pub returns-clause-ok : goal.returns-clause-ok
returns-clause-ok c =
    members_from (c.args.self.now ++ cut_from c.args.from c.args.cuts.now c.args.bytes.now) c.extend_from_slice.new.self.items c.extend_cut.new.self (appended c)
