use Rattle.std.proofs.Common.{List, ℕ, map, length, vec_len, arith, ap, subst, sym, ◌∙◌}
use Rattle.std.specs.Int.{w32, from_be_bytes, to_be_bytes}
use Rattle.std.specs.List.{All}
use Rattle.std.specs.List.Sorted.{IsPermutation}
use Rattle.prefix_set.specs.Pieces.{pieces_of}
use Rattle.sb_model.specs.Prefixes.{set_of, concatenation}
use Rattle.prefix_set.proofs.SortedQuads.{IsQuad, sorted_quads, quad_pieces_of, kept_fits}
use Rattle.prefix_set.proofs.sorting.sort_quads.Goals as goal

pub rewrite-requires : goal.rewrite-requires
rewrite-requires c =
    omega (
      arith,
      c.args.bytes.now.ok.0,
      c.dedup.new.self.ok.0,
      c.in_ok-numbers.numbers.ok.0,
      ap length c.deref.ensures.value,
      kept_fits c.deref.result.now c.in_ok-numbers.numbers.items c.quads_of.result.now (vec_len c.dedup.new.self)
          c.quads_of.ensures.value c.in_ok-numbers.ensures (omega (arith, c.in_ok-numbers.numbers.ok.0)),
    )

pub returns-clause-ok : goal.returns-clause-ok
returns-clause-ok c =
    let quads : All IsQuad c.quads_of.result.now = subst (All IsQuad) (sym c.quads_of.ensures.value) (quad_pieces_of c.deref.result.now c.quads_of.ensures.bytes) in
    let moved : IsPermutation (map (from_be_bytes w32) c.quads_of.result.now) c.sort_unstable.new.self.items
    = subst (λ (ns : List ℕ). IsPermutation ns c.sort_unstable.new.self.items) c.in_ok-numbers.ensures c.sort_unstable.ensures.permutation in
    c.rewrite.ensures ∙ ap (λ (ns : List ℕ). concatenation (map (to_be_bytes w32) ns)) c.deref-2.ensures.value
    ∙ ap concatenation (sorted_quads c.quads_of.result.now c.sort_unstable.new.self.items c.dedup.new.self.items quads moved c.sort_unstable.ensures.sorted c.dedup.ensures.filtered)
    ∙ ap (λ (ms : List (List ℕ)). concatenation (set_of ms)) (c.quads_of.ensures.value ∙ ap (pieces_of 4) c.deref.ensures.value)
