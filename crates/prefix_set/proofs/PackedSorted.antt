-- Members of four bytes, put into rising order in their place.
use Rattle.std.proofs.Common.{◌≡◌, ℕ, List, length, sym, ap, subst, ◌∙◌, arith}
use Rattle.sb_model.specs.Prefixes.{set_of, concatenation}
use Rattle.sb_model.specs.History.{IsPrefixSize}
use Rattle.prefix_set.specs.Pieces.{pieces_of}
use Rattle.prefix_set.specs.declared.layout.Layout.{Layout}
use Rattle.prefix_set.specs.declared.layout.Layout.TheVariants.{Even}
use Rattle.prefix_set.specs.Packing.{HaveSize, LaysOut}
use Rattle.prefix_set.proofs.SetFacts.{bytes-set_of}
use Rattle.prefix_set.proofs.PackedFacts.{pieces_of_even}
use Rattle.prefix_set.proofs.PackedList.{Packs}
use Rattle.prefix_set.proofs.SortRising.{All-set_of}

pub sorted_packs : (ms : List (List ℕ)) (bytes after : List ℕ) (layout : Layout) → Packs ms bytes layout → layout ≡ Even 4 → after ≡ concatenation (set_of (pieces_of 4 bytes))
    → Packs (set_of ms) after layout
sorted_packs ms bytes after layout p is sorted =
    let laid : IsPrefixSize 4 × HaveSize 4 ms = subst (λ (l : Layout). LaysOut l ms) is p.laid_out in
    let joined : concatenation (set_of ms) ≡ after
    = sym (sorted ∙ ap (λ (xs : List (List ℕ)). concatenation (set_of xs)) (pieces_of_even 4 bytes ms (omega arith) laid.1 p.joined)) in
    record {
      joined = joined;
      sizes = All-set_of (λ member. IsPrefixSize (length member)) ms p.sizes;
      laid_out = subst (λ (l : Layout). LaysOut l (set_of ms)) (sym is) (laid.0, All-set_of (λ member. length member ≡ 4) ms laid.1);
      limit = omega (arith, p.limit, ap length joined, ap length p.joined, bytes-set_of ms);
    }
