use Rattle.std.proofs.Common.{◌≡◌, ◌≤◌, List}
use Rattle.sb_model.specs.declared.history.Added.{Added}
use Rattle.sb_model.specs.Target.{greatest_up_to}
use Rattle.delta_server.specs.Version.{Stands}
use Rattle.delta_server.specs.Walk.{published, entries_after, may_take}
use Rattle.delta_server.proofs.walk.taken_from.Given as goal

abbrev pub invariant-loop-i : goal.invariant-loop-i
invariant-loop-i l = record {
  within : l.taken ≤ l.i;
  stands : (entries : List Added) → Stands l.initial.version entries → Stands l.version (entries_after l.list entries l.changes l.i);
  taken : (entries : List Added) → Stands l.initial.version entries
      → l.taken ≡ greatest_up_to (λ count. may_take l.initial.version.holders.held.now l.max_update l.max_database (published (entries_after l.list entries l.changes count))) l.i;
  held : l.version.holders.held.now ≡ l.initial.version.holders.held.now;
}
