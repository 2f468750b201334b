use Rattle.std.proofs.Common.{◌≡◌, ℕ, List, ◌++◌, length}
use Rattle.std.specs.Prelude.{All}
use Rattle.http_edge.specs.Digests.{members_in, IsNoDigest}
use Rattle.http_edge.proofs.digests.first_digest.Given as goal

abbrev pub invariant-members : goal.invariant-members
invariant-members l =
    record {
      so_far : (before : List (List ℕ)) × All IsNoDigest before × (members_in l.value ≡ before ++ members_in l.rest);
    }

abbrev pub decreases-members : goal.decreases-members
decreases-members l = length l.rest
