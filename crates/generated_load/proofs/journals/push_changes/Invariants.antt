use Rattle.std.proofs.Common.{◌≡◌, ◌++◌, false}
use Rattle.list_versions.specs.Written.{change_text}
use Rattle.generated_load.specs.Generated.{hash_at, seed_number_at}
use Rattle.generated_load.proofs.Places.{changes_text}
use Rattle.generated_load.proofs.journals.push_changes.Given as goal

-- the page has the changes so far, and the host is that of the last place
abbrev pub invariant-loop-place : goal.invariant-loop-place
invariant-loop-place l =
    (l.host.number ≡ seed_number_at l.seed l.place) × (l.host.hash ≡ hash_at l.seed l.place)
    × (l.page ≡ l.initial.page ++ changes_text (change_text false) l.seed l.place)
