use Rattle.std.proofs.Common.{◌≡◌, ◌∷◌, [], ◌++◌, sym, ◌∙◌}
use Rattle.std.proofs.lemmas.Option.{MatchOption-at_some}
use Rattle.prefix_set.proofs.PackedList.{take_member}
use Rattle.prefix_set.proofs.packed.PackedPrefixes.to_prefixes.Goals as goal

pub loop-i-preserved : goal.loop-i-preserved
loop-i-preserved c =
    let same : c.unwrap.result ≡ c.at.result.now = MatchOption-at_some _ _ c.unwrap.result c.unwrap.ensures c.from_bytes.ensures.value in
    c.in_ok-push.ensures.items ∙ (λ j. c.loop-i.invariant j ++ same j ∷ []) ∙ sym (take_member c.loop-i.i c.args.self.now c.at.result.now c.at.ensures.value)
