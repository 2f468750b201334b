-- The printed causes of refused updates.
use Rattle.std.specs.Prelude.{ℕ, List, [], ◌∷◌, ◌++◌, codes, decimal}
use Rattle.hex.specs.Hex.{encode_lower}
use Rattle.rice_coding.specs.declared.fault.RiceFault.{RiceFault}
use Rattle.rice_coding.specs.declared.fault.RiceFault.TheVariants as rice
use Rattle.update_client.specs.declared.fault.UpdateFault.{UpdateFault}
use Rattle.update_client.specs.declared.fault.UpdateFault.TheVariants.{Rice, IndexRange, TooMany, TooLarge, Checksum, StaleBase}

-- a state token in hexadecimal; an empty one is a dash
abbrev pub token_text : List ℕ → List ℕ
token_text [] = codes "-"
token_text (byte ∷ bytes) = encode_lower (byte ∷ bytes)

-- The cause of a Rice record. Want of memory is no cause of a refusal, and is never printed.
abbrev pub rice_text : RiceFault → List ℕ
rice_text (rice.Parameter parameter) = codes "rice parameter " ++ decimal parameter
rice_text (rice.CountLimit count) = codes "rice count-limit " ++ decimal count
rice_text (rice.Ended entry) = codes "rice ended " ++ decimal entry
rice_text (rice.Range entry) = codes "rice range " ++ decimal entry
rice_text (rice.LeftOver bits) = codes "rice left-over " ++ decimal bits
rice_text rice.OutOfMemory = codes "rice out-of-memory"

abbrev pub update_cause_text : UpdateFault → List ℕ
update_cause_text (Rice fault) = rice_text fault
update_cause_text (IndexRange index len) = codes "index-range " ++ decimal index ++ codes " " ++ decimal len
update_cause_text (TooMany count) = codes "too-many " ++ decimal count
update_cause_text (TooLarge bytes) = codes "too-large " ++ decimal bytes
update_cause_text (Checksum computed given) = codes "checksum " ++ encode_lower computed ++ codes " " ++ encode_lower given
update_cause_text (StaleBase held given) = codes "stale-base " ++ token_text held ++ codes " " ++ token_text given
