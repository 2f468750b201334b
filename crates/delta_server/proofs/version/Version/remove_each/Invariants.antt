use Rattle.std.proofs.Common.{◌≡◌, List, take}
use Rattle.std.specs.Prelude.{fold}
use Rattle.sb_model.specs.declared.history.Added.{Added}
use Rattle.sb_model.specs.History.{without_hash}
use Rattle.delta_server.specs.Version.{Stands}
use Rattle.delta_server.proofs.version.Version.remove_each.Given as goal

abbrev pub invariant-loop-hash : goal.invariant-loop-hash
invariant-loop-hash l = record {
  stands : (entries : List Added) → Stands l.initial.self entries → Stands l.self (fold without_hash entries (take l.hash-index l.hashes));
  held : l.self.holders.held.now ≡ l.initial.self.holders.held.now;
}
