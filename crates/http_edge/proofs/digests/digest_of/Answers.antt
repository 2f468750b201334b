use Rattle.http_edge.proofs.DigestFacts.{not_between, not_decoded, digest_from}
use Rattle.http_edge.proofs.digests.digest_of.Goals as goal

pub returns-in_default : goal.returns-in_default
returns-in_default c = not_between c.args.member.now c.in_default.ensures

pub returns-in-Some-2 : goal.returns-in-Some-2
returns-in-Some-2 c =
    let some = rw c.in-Some-2.is at c.in_ok-bytes.ensures.some in
    let one = rw c.in-Some-2.is at c.in_ok-bytes.ensures.one in
    digest_from c.args.member.now c.in-Some.text.now c.in-Some-2.bytes.items c.as_slice.result.now c.as_digest.result
    c.in-Some.ensures some.0 some.1 one c.as_slice.ensures.value c.as_digest.ensures

pub returns-in-None : goal.returns-in-None
returns-in-None c =
    not_decoded c.args.member.now c.in-Some.text.now c.in-Some.ensures (rw c.in-None.is at c.in_ok-bytes.ensures.none)
