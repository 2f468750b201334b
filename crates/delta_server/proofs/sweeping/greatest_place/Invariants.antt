use Rattle.std.proofs.Common.{◌≡◌, ◌+◌, ◌-◌, ◌^◌, ◌<◌, List, length}
use Rattle.sb_model.specs.Target.{greatest_up_to}
use Rattle.list_versions.specs.declared.stretch.Stretch.{Stretch}
use Rattle.delta_server.specs.Sweeping.{HasSwept, IsLevel, shown_at}
use Rattle.delta_server.specs.Walk.{may_take}
use Rattle.delta_server.proofs.sweeping.greatest_place.Given as goal

abbrev pub invariant-loop-place : goal.invariant-loop-place
invariant-loop-place l = record {
  level : (stretches : List Stretch) → length stretches < 2 ^ 63 → HasSwept l.sweep l.first l.end (shown_at stretches l.first) stretches → IsLevel l.level l.sweep l.place;
  greatest : (stretches : List Stretch) → length stretches < 2 ^ 63 → HasSwept l.sweep l.first l.end (shown_at stretches l.first) stretches
      → l.greatest ≡ greatest_up_to (λ place. may_take (shown_at stretches l.first) l.max_update l.max_database (shown_at stretches (l.first + place))) (l.place - 1);
}
