use Rattle.client_store.specs.Reading.{store_reading}
use Rattle.client_store.proofs.Stores.{is_err, cut_is_not_read, bytes_from_all}
use Rattle.client_store.proofs.laws.cut_stores_are_not_read.Goals as goal

pub returns : goal.returns
returns c = λ text bytes cut. is_err (store_reading text) (λ lists read. cut_is_not_read text lists (bytes_from_all text bytes) cut read)
