use Rattle.std.proofs.Common.{take}
use Rattle.std.specs.Prelude.{All, codes}
use Rattle.std.specs.List.{flat_map}
use Rattle.http_edge.specs.Fields.{values_at}
use Rattle.http_edge.specs.Digests.{members_in, IsNoDigest}
use Rattle.http_edge.proofs.digests.digest_given.Given as goal

abbrev pub invariant-loop-field : goal.invariant-loop-field
invariant-loop-field l = All IsNoDigest (flat_map members_in (values_at l.buffer (take l.field-index l.fields) (codes "content-digest")))
