use Rattle.std.proofs.Common.{◌≡◌, length, map, take}
use Rattle.std.specs.Prelude.{All, filter}
use Rattle.sb_model.specs.declared.history.Added.{Added}
use Rattle.list_versions.specs.Buckets.{added_of}
use Rattle.list_versions.specs.Lookup.{begins}
use Rattle.list_versions.proofs.lookup.begun_with.Given as goal

abbrev pub invariant-loop-line : goal.invariant-loop-line
invariant-loop-line l = record {
  value : l.found.items ≡ filter (begins l.prefix) (map (λ (entry : Added). entry.hash) (added_of (take l.line-index l.bucket)));
  whole : All (λ (entry : Added). length entry.hash ≡ 32) (added_of (take l.line-index l.bucket));
}
