-- The causes of stores that are not read, as they are printed.
use Rattle.std.specs.Prelude.{ℕ, List, ◌++◌, codes, decimal}
use Rattle.hex.specs.Hex.{encode_lower}
use Rattle.client_store.specs.declared.fault.StoreFault.{StoreFault}
use Rattle.client_store.specs.declared.fault.StoreFault.TheVariants as fault

-- Want of memory is no cause of a store, and is never printed.
abbrev pub store_cause_text : StoreFault → List ℕ
store_cause_text (fault.Shape place) = codes "shape " ++ decimal place
store_cause_text (fault.Digest got given) = codes "digest " ++ encode_lower got ++ codes " " ++ encode_lower given
store_cause_text (fault.Format number) = codes "format " ++ decimal number
store_cause_text fault.OutOfMemory = codes "out-of-memory"
