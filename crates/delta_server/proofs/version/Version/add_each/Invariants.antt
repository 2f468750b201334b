use Rattle.std.proofs.Common.{◌≡◌, List, take}
use Rattle.std.specs.Prelude.{fold}
use Rattle.sb_model.specs.declared.history.Added.{Added}
use Rattle.sb_model.specs.History.{with_added}
use Rattle.delta_server.specs.Version.{Stands}
use Rattle.delta_server.proofs.version.Version.add_each.Given as goal

abbrev pub invariant-loop-added : goal.invariant-loop-added
invariant-loop-added l = record {
  stands : (entries : List Added) → Stands l.initial.self entries → Stands l.self (fold with_added entries (take l.added-index l.adds));
  held : l.self.holders.held.now ≡ l.initial.self.holders.held.now;
}
