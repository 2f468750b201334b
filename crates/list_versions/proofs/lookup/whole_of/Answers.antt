use Rattle.std.proofs.Common.{◌≡◌, ◌∙◌, length, arith, rules}
use Rattle.std.proofs.lemmas.List.{take_all}
use Rattle.list_versions.proofs.lookup.whole_of.Goals as goal

pub returns : goal.returns
returns c = let whole : length c.args.entry.now.hash ≡ 32 = search rules in c.prefix.ensures ∙ take_all 32 c.args.entry.now.hash (omega (arith, whole))
