use Rattle.std.proofs.Common.{◌^◌, ◌<◌, List, length, take, fold}
use Rattle.sb_model.specs.declared.history.Added.{Added}
use Rattle.sb_model.specs.History.{without_hash}
use Rattle.list_versions.specs.Ends.{Line, ended}
use Rattle.list_versions.specs.Live.{Holds, IsPlaced}
use Rattle.list_versions.proofs.live.Live.remove_each.Given as goal

abbrev pub invariant-loop-hash : goal.invariant-loop-hash
invariant-loop-hash l = record {
  held : (entries : List Added) → length entries < 2 ^ 32 → Holds l.initial.self entries → Holds l.self (fold without_hash entries (take l.hash-index l.removes));
  placed : (lines : List Line) → IsPlaced l.initial.self lines → IsPlaced l.self (fold (ended l.version) lines (take l.hash-index l.removes));
}
