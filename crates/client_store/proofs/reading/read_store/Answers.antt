use Rattle.std.proofs.Common.{arith}
use Rattle.client_store.proofs.Stores.{store_again, read_is_store, store_is_read, cut_is_err}
use Rattle.client_store.proofs.reading.read_store.Goals as goal

pub returns-clause-found : goal.returns-clause-found
returns-clause-found c = read_is_store c.args.bytes.now c.read.result (λ i. omega (arith, c.type_inv.bytes i)) c.read.ensures.lists

pub returns-clause-only : goal.returns-clause-only
returns-clause-only c = λ stored kept is. store_is_read c.args.bytes.now c.read.result stored (store_again stored c.args.bytes.now kept is) c.read.ensures.lists c.read.ensures.fault

pub returns-clause-cut : goal.returns-clause-cut
returns-clause-cut c = λ cut. cut_is_err c.args.bytes.now c.read.result (λ i. omega (arith, c.type_inv.bytes i)) c.read.ensures.lists cut
