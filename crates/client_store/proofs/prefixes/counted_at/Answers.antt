use Rattle.std.proofs.Common.{◌≤◌, arith}
use Rattle.prefix_set.specs.declared.set.TheConstants.{MAX_PREFIXES}
use Rattle.client_store.proofs.Sets.{prefixes_are_kept}
use Rattle.client_store.proofs.prefixes.counted_at.Goals as goal

pub into_set-requires : goal.into_set-requires
into_set-requires c =
    let few : c.args.count ≤ MAX_PREFIXES = omega (arith, c.from.ensures, c.if-from-gt-MAX_PREFIXES.false) in
    prefixes_are_kept c.args.common c.args.count c.args.bytes.now c.in_ok-prefixes.prefixes c.in_ok-prefixes.rest.now (λ i. omega (arith, c.type_inv.bytes i)) c.requires few c.in_ok-prefixes.ensures
