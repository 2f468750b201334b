use Rattle.std.proofs.Common.{◌≡◌, ◌++◌, drop, map}
use Rattle.std.specs.List.{flat_map}
use Rattle.list_versions.specs.Written.{declaration_line}
use Rattle.journal_run.proofs.fresh.push_lists.Given as goal

-- the lines so far, and those of the lists that are left, are all lines
abbrev pub invariant-loop-list : goal.invariant-loop-list
invariant-loop-list l =
    l.page ++ flat_map declaration_line (map (λ name. (name, l.size)) (drop l.list-index l.lists)) ≡ l.initial.page ++ flat_map declaration_line (map (λ name. (name, l.size)) l.lists)
