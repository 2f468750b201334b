-- What a record is decoded to.
use Rattle.std.specs.Prelude.{ℕ, ◌+◌, ◌^◌, Bool, ◌&&◌, ◌||◌, List, Option, Some, None, Result, Ok, Err, nat_lt, nat_le, if◌then◌else◌}
use Rattle.rice_coding.specs.declared.record.RiceRecord.{RiceRecord}
use Rattle.rice_coding.specs.declared.fault.RiceFault.{RiceFault}
use Rattle.rice_coding.specs.declared.fault.RiceFault.TheVariants.{Parameter, CountLimit, Range}
use Rattle.rice_coding.specs.Bits.{bits_of}
use Rattle.rice_coding.specs.Reading.{Reading, reading, with_value}

-- values, unless a fault comes after them
abbrev pub outcome_of : List ℕ → Option RiceFault → Result (List ℕ) RiceFault
outcome_of values None = Ok values
outcome_of values (Some fault) = Err fault

-- the reading of a record from its first value on
abbrev pub reading_of : RiceRecord → Reading
reading_of r = with_value r.first (reading r.parameter r.count 1 r.first (bits_of r.coded))

-- something is coded with a parameter that is not 2 to 28
abbrev pub has_wrong_parameter : RiceRecord → Bool
has_wrong_parameter r = nat_lt 0 r.count && (nat_lt r.parameter 2 || nat_lt 28 r.parameter)

-- The values of a record, at most `limit` of them, or its first fault. `IsRiceRecordOf` and `IsFaultOf` say what this comes to.
unfoldable pub decoding_of : RiceRecord → ℕ → Result (List ℕ) RiceFault
decoding_of r limit =
    if has_wrong_parameter r then Err (Parameter r.parameter)
    else (if nat_lt limit (r.count + 1) then Err (CountLimit (r.count + 1))
    else (if nat_le (2 ^ 32) r.first then Err (Range 0)
    else outcome_of (reading_of r).values (reading_of r).fault))
