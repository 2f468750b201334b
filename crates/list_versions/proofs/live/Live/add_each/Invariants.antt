use Rattle.std.proofs.Common.{◌+◌, ◌^◌, ◌<◌, List, length, take, fold}
use Rattle.sb_model.specs.declared.history.Added.{Added}
use Rattle.sb_model.specs.History.{with_added}
use Rattle.list_versions.specs.Ends.{Line, lengthened}
use Rattle.list_versions.specs.Live.{Holds, IsPlaced}
use Rattle.list_versions.proofs.live.Live.add_each.Given as goal

abbrev pub invariant-loop-added : goal.invariant-loop-added
invariant-loop-added l = record {
  held : (entries : List Added) → length entries < 2 ^ 32 → length l.adds < 2 ^ 32 → Holds l.initial.self entries → Holds l.self (fold with_added entries (take l.added-index l.adds));
  placed : (lines : List Line) → length lines + length l.adds < 2 ^ 32 → IsPlaced l.initial.self lines → IsPlaced l.self (fold (lengthened l.version) lines (take l.added-index l.adds));
}
