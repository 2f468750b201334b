use Rattle.std.proofs.Common.{◌≡◌, [], ◌<◌, ◌≤◌, length, Ok}
use Rattle.list_versions.specs.Draft.{IsDraft, KeepsFront, before_record, kept_of_draft}
use Rattle.list_versions.proofs.Further.{HasRead}
use Rattle.list_versions.proofs.pieces.read_further.Given as goal

abbrev pub invariant-pieces : goal.invariant-pieces
invariant-pieces g l = record {
  read : HasRead l.initial.draft l.initial.text l.draft l.text (g.S.Source.left l.initial.source) (g.S.Source.left l.source);
  draft : IsDraft l.draft;
  waits : before_record l.draft [] l.text ≡ Ok (kept_of_draft l.draft l.text);
  few : length l.text ≤ 132608;
  front : KeepsFront l.initial.draft l.draft;
  faults : g.S.Source.faults l.source ≡ g.S.Source.faults l.initial.source;
  other : g.S.Source.back l.source ≡ g.S.Source.back l.initial.source;
  buffer : 0 < length l.buffer;
}
