use Rattle.std.proofs.Common.{◌≡◌, ◌++◌, ◌-◌, List, ℕ, length, take, drop, arith, ap, sym, subst, ◌∙◌}
use Rattle.std.specs.List.{All}
use Rattle.std.proofs.lemmas.List.Elements.{All-take, All-drop}
use Rattle.std.proofs.lemmas.Result.{on_ok_weaker}
use Rattle.sb_model.specs.Prefixes.{concatenation}
use Rattle.sb_model.specs.History.{IsPrefixSize}
use Rattle.prefix_set.specs.Packing.{cut_from, ends_from}
use Rattle.prefix_set.proofs.PackedList.{packs, count_below, start_fits, len_mixed, cuts_are, run_cut, run_even, run_whole}
use Rattle.prefix_set.proofs.packed.PackedPrefixes.push_range.Goals as goal

pub push_each-requires-clause-whole : goal.push_each-requires-clause-whole
push_each-requires-clause-whole c =
    run_whole c.args.other.now c.args.from (c.args.to - c.args.from) c.in-Even.size c.part-bytes.result.now c.other.inside.bytes.items c.other.inside.layout
    (packs c.args.other.now c.other.inside.bytes.items c.other.inside.layout c.other.invariant c.other.view_is) c.in-Even.is c.part-bytes.ensures.value

pub returns-in-Even-clause-ok : goal.returns-in-Even-clause-ok
returns-in-Even-clause-ok c =
    on_ok_weaker c.push_each.result
    (λ is. is ∙ ap (λ (ms : List (List ℕ)). c.args.self.now ++ ms)
    (run_even c.args.other.now c.args.from (c.args.to - c.args.from) c.in-Even.size c.part-bytes.result.now c.other.inside.bytes.items c.other.inside.layout
    (packs c.args.other.now c.other.inside.bytes.items c.other.inside.layout c.other.invariant c.other.view_is) c.in-Even.is c.part-bytes.ensures.value))
    c.push_each.ensures.ok

pub offset_bounds-deref-from : goal.offset_bounds-deref-from
offset_bounds-deref-from c =
    omega (
      arith,
      count_below c.args.other.now c.other.inside.bytes.items c.other.inside.layout
          (packs c.args.other.now c.other.inside.bytes.items c.other.inside.layout c.other.invariant c.other.view_is),
    )

pub slice_bounds-push_cut-end : goal.slice_bounds-push_cut-end
slice_bounds-push_cut-end c =
    omega (
      arith,
      ap length c.deref.ensures.value,
      len_mixed c.args.other.now c.in-Mixed.ends c.other.inside.bytes.items c.other.inside.layout
          (packs c.args.other.now c.other.inside.bytes.items c.other.inside.layout c.other.invariant c.other.view_is) c.in-Mixed.is,
    )

pub overflow_cast-start : goal.overflow_cast-start
overflow_cast-start c =
    omega (
      arith,
      start_fits c.args.other.now c.args.from c.other.inside.bytes.items c.other.inside.layout
          (packs c.args.other.now c.other.inside.bytes.items c.other.inside.layout c.other.invariant c.other.view_is),
    )

-- the ends are those of the members, and cut them out
cuts : (c : goal.After-start) → take (c.args.to - c.args.from) (drop c.args.from c.deref.result.now) ≡ ends_from c.start.result (take (c.args.to - c.args.from) (drop c.args.from c.args.other.now))
cuts c =
    cuts_are c.args.other.now c.args.from (c.args.to - c.args.from) c.start.result c.deref.result.now c.in-Mixed.ends c.other.inside.bytes.items c.other.inside.layout
    (packs c.args.other.now c.other.inside.bytes.items c.other.inside.layout c.other.invariant c.other.view_is) c.in-Mixed.is c.deref.ensures.value c.start.ensures

cut : (c : goal.After-start) → cut_from c.start.result (take (c.args.to - c.args.from) (drop c.args.from c.deref.result.now)) c.part-bytes.result.now
    ≡ take (c.args.to - c.args.from) (drop c.args.from c.args.other.now)
cut c =
    run_cut c.args.other.now c.args.from (c.args.to - c.args.from) c.start.result c.deref.result.now c.part-bytes.result.now c.in-Mixed.ends c.other.inside.bytes.items c.other.inside.layout
    (packs c.args.other.now c.other.inside.bytes.items c.other.inside.layout c.other.invariant c.other.view_is) c.in-Mixed.is c.deref.ensures.value c.start.ensures c.part-bytes.ensures.value

pub push_cut-requires-clause-ends : goal.push_cut-requires-clause-ends
push_cut-requires-clause-ends c = cuts c ∙ ap (ends_from c.start.result) (sym (cut c))

pub push_cut-requires-clause-joined : goal.push_cut-requires-clause-joined
push_cut-requires-clause-joined c = ap concatenation (cut c) ∙ sym c.part-bytes.ensures.value

pub push_cut-requires-clause-sizes : goal.push_cut-requires-clause-sizes
push_cut-requires-clause-sizes c =
    subst (All (λ member. IsPrefixSize (length member))) (sym (cut c))
    (All-take (λ member. IsPrefixSize (length member)) (c.args.to - c.args.from) (drop c.args.from c.args.other.now)
    (All-drop (λ member. IsPrefixSize (length member)) c.args.from c.args.other.now c.part-bytes.ensures.sizes))

pub returns-in-Mixed-clause-ok : goal.returns-in-Mixed-clause-ok
returns-in-Mixed-clause-ok c =
    on_ok_weaker c.push_cut.result
    (λ is. is ∙ ap (λ (ms : List (List ℕ)). c.args.self.now ++ ms)
    (run_cut c.args.other.now c.args.from (c.args.to - c.args.from) c.start.result c.deref.result.now c.part-bytes.result.now c.in-Mixed.ends c.other.inside.bytes.items c.other.inside.layout
    (packs c.args.other.now c.other.inside.bytes.items c.other.inside.layout c.other.invariant c.other.view_is) c.in-Mixed.is c.deref.ensures.value c.start.ensures c.part-bytes.ensures.value))
    c.push_cut.ensures.ok
