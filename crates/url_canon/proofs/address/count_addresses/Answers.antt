use Rattle.std.proofs.Common.{arith}
use Rattle.url_canon.proofs.Numbers.{addresses_most}
use Rattle.url_canon.proofs.address.count_addresses.Goals as goal

pub pow-requires : goal.pow-requires
pow-requires c = omega (arith, addresses_most c.args.width c.requires)
