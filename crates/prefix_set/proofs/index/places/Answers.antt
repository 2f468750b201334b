use Rattle.std.proofs.Common.{◌≡◌, ℕ, ◌+◌, ◌-◌, ◌<◌, ◌≤◌, List, ◌++◌, length, take, replicate, slice_index, arith, sym, ap, subst, ◌∙◌}
use Rattle.std.proofs.lemmas.List.{take_all}
use Rattle.sb_model.specs.History.{IsPrefixSize}
use Rattle.prefix_set.specs.Index.{HaveHeads, ArePlacesOf}
use Rattle.prefix_set.specs.Limits.{ArePrefixes}
use Rattle.prefix_set.proofs.IndexFacts.{ArePlacesSoFar, All-next, places_kept, places_grown, places_all, resized}
use Rattle.prefix_set.proofs.index.places.Goals as goal
use Rattle.prefix_set.proofs.index.places.Goals.{then-head-len+in_ok-resize, else-head-len}

pub loop-i-preserved : goal.loop-i-preserved
loop-i-preserved c =
    let members = c.args.members.now in
    let len : c.len.result ≡ length c.loop-i.places.items = omega (arith, c.loop-i.places.ok.0) in
    record {
      places = elim c.if-head-len.branch [
        | then-head-len+in_ok-resize w ↦
            let past : length c.loop-i.places.items ≤ c.head_of-head.result = omega arith in
            let room : length c.loop-i.places.items ≤ c.head_of-head.result + 1 = omega arith in
            subst (λ (places : List ℕ). ArePlacesSoFar places members (c.loop-i.i + 1))
            (sym (ap (λ v. v.items) w.places-is ∙ resized c.loop-i.places.items w.resize.new.self.items (c.head_of-head.result + 1) c.loop-i.places.len c.loop-i.i (omega (arith, c.loop-i.places.ok.0)) room w.in_ok-resize.ensures.items
            ∙ ap (λ (head : ℕ). c.loop-i.places.items ++ replicate (head + 1 - length c.loop-i.places.items) c.loop-i.i) c.head_of-head.ensures.value))
            (places_grown c.loop-i.places.items members c.loop-i.i c.at.result.now c.requires.rising c.at.ensures.value c.head_of-head.ensures.second c.loop-i.invariant.places
            (omega (arith, c.head_of-head.ensures.value)) (omega (arith, c.head_of-head.ensures.value)))
        | else-head-len w ↦
            subst (λ (places : List ℕ). ArePlacesSoFar places members (c.loop-i.i + 1)) (sym (ap (λ v. v.items) w.places-is))
            (places_kept c.loop-i.places.items members c.loop-i.i c.at.result.now c.requires.rising c.at.ensures.value c.head_of-head.ensures.second c.loop-i.invariant.places
            (omega (arith, c.head_of-head.ensures.value)))
      ];
      prefixes = All-next (λ (x : List ℕ). IsPrefixSize (length x)) members c.loop-i.i c.at.result.now c.at.ensures.value c.loop-i.invariant.prefixes c.at.ensures.size;
      second = All-next (λ (x : List ℕ). slice_index x 1 < 256) members c.loop-i.i c.at.result.now c.at.ensures.value c.loop-i.invariant.second c.head_of-head.ensures.second;
    }

pub returns-clause-value : goal.returns-clause-value
returns-clause-value c =
    let end : c.loop-i.i ≡ length c.args.members.now = omega arith in
    let short : length c.loop-i.places.items ≤ 65537 = omega (arith, c.loop-i.invariant.places.short) in
    let len : c.loop-i.places.len ≡ length c.loop-i.places.items = omega (arith, c.loop-i.places.ok.0) in
    subst (λ (places : List ℕ). ArePlacesOf places c.args.members.now)
    (sym (resized c.loop-i.places.items c.resize-2.new.self.items 65537 c.loop-i.places.len (length c.args.members.now) len short
    (c.in_ok-resize-2.ensures.items ∙ ap (λ (n : ℕ). take 65537 c.loop-i.places.items ++ replicate (65537 - c.loop-i.places.len) n) c.len-2.ensures)))
    (places_all c.loop-i.places.items c.args.members.now (subst (ArePlacesSoFar c.loop-i.places.items c.args.members.now) end c.loop-i.invariant.places))

pub returns-clause-prefixes : goal.returns-clause-prefixes
returns-clause-prefixes c =
    subst ArePrefixes (take_all c.loop-i.i c.args.members.now (omega arith)) c.loop-i.invariant.prefixes

pub returns-clause-heads : goal.returns-clause-heads
returns-clause-heads c =
    subst HaveHeads (take_all c.loop-i.i c.args.members.now (omega arith)) c.loop-i.invariant.second
