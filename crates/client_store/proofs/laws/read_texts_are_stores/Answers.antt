use Rattle.client_store.proofs.Stores.{store_takes, bytes_from_all}
use Rattle.client_store.proofs.laws.read_texts_are_stores.Goals as goal

pub returns : goal.returns
returns c = record {
  kept = λ text lists bytes reads. (store_takes text lists (bytes_from_all text bytes) reads).0;
  store = λ text lists bytes reads. (store_takes text lists (bytes_from_all text bytes) reads).1;
}
