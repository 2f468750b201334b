use Rattle.std.proofs.Common.{◌≡◌, ◌∷◌, [], ◌++◌, sym, ◌∙◌, rules}
use Rattle.std.specs.Cmp.Lexicographic.{bytes_decides}
use Rattle.prefix_set.proofs.PackedList.{take_member}
use Rattle.prefix_set.proofs.packed.PackedPrefixes.has_members_of.Goals as goal

pub loop-i-preserved : goal.loop-i-preserved
loop-i-preserved c =
    let same : c.at.result.now ≡ c.at-in-loop-i.result.now = (bytes_decides c.at.result.now c.at-in-loop-i.result.now).0 (search rules) in
    take_member c.loop-i.i c.args.self.now c.at.result.now c.at.ensures.value ∙ (λ j. c.loop-i.invariant j ++ same j ∷ [])
    ∙ sym (take_member c.loop-i.i c.args.other.now c.at-in-loop-i.result.now c.at-in-loop-i.ensures.value)
