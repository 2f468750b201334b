use Rattle.url_canon.proofs.FourBytes.{four_bytes, no_more}
use Rattle.url_canon.proofs.address.address_has_four_bytes.Goals as goal

pub returns-clause-bytes : goal.returns-clause-bytes
returns-clause-bytes c = four_bytes

pub returns-clause-fits : goal.returns-clause-fits
returns-clause-fits c = no_more
