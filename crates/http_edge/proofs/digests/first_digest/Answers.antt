use Rattle.std.proofs.Common.{[], ◌∷◌, ◌++◌, subst}
use Rattle.std.proofs.lemmas.List.Elements.{All-push}
use Rattle.httparse.specs.Grammar.{trim_ows}
use Rattle.http_edge.specs.Digests.{IsNoDigest}
use Rattle.http_edge.proofs.DigestFacts.{none_here, one_more}
use Rattle.http_edge.proofs.digests.first_digest.Goals as goal

pub members-preserved : goal.members-preserved
members-preserved c =
    let part = c.first_part.result.0.now in
    let split = rw c.in-Some-more.is at c.first_part.ensures in
    let says = rw c.in_default.is at c.in_ok-digest.ensures in
    let not : IsNoDigest (trim_ows part) = subst IsNoDigest c.trim.ensures says in
    let so_far = c.members.invariant.so_far in
    record {
      so_far = (
        so_far.0 ++ trim_ows part ∷ [],
        All-push IsNoDigest so_far.0 (trim_ows part) so_far.1 not,
        one_more c.args.value.now c.members.rest.now part c.in-Some-more.more.now so_far.0 so_far.2 split.0,
      );
    }

pub returns-in-None : goal.returns-in-None
returns-in-None c =
    let part = c.first_part.result.0.now in
    let split = rw c.in-None.is at c.first_part.ensures in
    let says = rw c.in_default.is at c.in_ok-digest.ensures in
    let not : IsNoDigest (trim_ows part) = subst IsNoDigest c.trim.ensures says in
    none_here c.args.value.now c.members.rest.now part c.members.invariant.so_far.0 c.members.invariant.so_far.2 split c.members.invariant.so_far.1 not
