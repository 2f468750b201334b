use Rattle.std.proofs.Common.{◌≡◌, ◌++◌}
use Rattle.std.specs.List.{flat_map}
use Rattle.client_store.specs.Store.{prefix_text}
use Rattle.client_store.proofs.writing.push_prefixes.Given as goal

-- what is left completes the text
abbrev pub invariant-loop-prefix : goal.invariant-loop-prefix
invariant-loop-prefix l = l.text ++ flat_map prefix_text l.prefix-iterator ≡ l.initial.text ++ flat_map prefix_text l.set
