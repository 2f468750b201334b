use Rattle.url_canon.proofs.address.+address_in.Given as goal

abbrev pub decreases-address_in : goal.decreases-address_in
decreases-address_in l = l.width
