-- Two lists are equal where their strings and their layouts are.
use Rattle.std.proofs.Common.{◌≡◌, ℕ, Bool, List, nat_eq, sym, ap, subst, ◌∙◌, arith, Decides}
use Rattle.std.specs.Cmp.Lexicographic.{pointwise, pointwise_decides, bytes_decides}
use Rattle.std.proofs.lemmas.Bool.Decides.{same_from_decides}
use Rattle.sb_model.specs.Prefixes.{concatenation}
use Rattle.sb_model.specs.History.{IsPrefixSize}
use Rattle.prefix_set.specs.Pieces.{pieces_of}
use Rattle.prefix_set.specs.declared.layout.Layout.{Layout}
use Rattle.prefix_set.specs.declared.layout.Layout.TheVariants.{Even}
use Rattle.prefix_set.specs.Packing.{HaveSize, LaysOut}
use Rattle.prefix_set.proofs.PackedFacts.{pieces_of_even}
use Rattle.prefix_set.proofs.PackedList.{Packs}

-- an answer that decides whether two lists are equal
pub lists_equal : (r : Bool) (ms ns : List (List ℕ)) → Decides r (ms ≡ ns) → r ≡ pointwise (pointwise nat_eq) ms ns
lists_equal r ms ns decides = same_from_decides r (pointwise (pointwise nat_eq) ms ns) decides (pointwise_decides bytes_decides ms ns)

pieces_from : (ms : List (List ℕ)) (size : ℕ) (bytes : List ℕ) (layout : Layout) → Packs ms bytes layout → layout ≡ Even size → pieces_of size bytes ≡ ms
pieces_from ms size bytes layout p is =
    let laid : IsPrefixSize size × HaveSize size ms = subst (λ (l : Layout). LaysOut l ms) is p.laid_out in
    pieces_of_even size bytes ms (omega (arith, laid.0.low)) laid.1 p.joined

-- members of one size are equal where their bytes are
pub even_equal : (r : Bool) (ms ns : List (List ℕ)) (size others : ℕ) (bytes others_bytes left right : List ℕ) (layout others_layout : Layout) → Packs ms bytes layout
    → Packs ns others_bytes others_layout → layout ≡ Even size → others_layout ≡ Even others → size ≡ others → left ≡ bytes → right ≡ others_bytes → r ≡ pointwise nat_eq left right
    → r ≡ pointwise (pointwise nat_eq) ms ns
even_equal r ms ns size others bytes others_bytes left right layout others_layout p q is others_is same left_is right_is says =
    lists_equal r ms ns (
      λ yes. sym (pieces_from ms size bytes layout p is)
          ∙ (λ i. pieces_of (same i) ((sym left_is ∙ (bytes_decides left right).0 (sym says ∙ yes) ∙ right_is) i)) ∙ pieces_from ns others others_bytes others_layout q others_is,
      λ alike. says ∙ (bytes_decides left right).1 (left_is ∙ sym p.joined ∙ ap concatenation alike ∙ q.joined ∙ sym right_is),
    )
