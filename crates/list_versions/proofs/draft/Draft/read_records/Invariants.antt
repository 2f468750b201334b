use Rattle.std.proofs.Common.{◌≡◌, ℕ, List, ◌++◌, [], length}
use Rattle.list_versions.specs.Draft.{IsDraft, before_record, KeepsFront}
use Rattle.list_versions.specs.Split.{EndsWith}
use Rattle.list_versions.proofs.draft.Draft.read_records.Given as goal

abbrev pub invariant-loop-next : goal.invariant-loop-next
invariant-loop-next l = record {
  draft : IsDraft l.self;
  same : (more : List ℕ) → before_record l.initial.self [] (l.bytes ++ more) ≡ before_record l.self [] (l.rest ++ more);
  back : EndsWith l.bytes l.rest;
  front : KeepsFront l.initial.self l.self;
}

abbrev pub decreases-loop-next : goal.decreases-loop-next
decreases-loop-next l = length l.rest
