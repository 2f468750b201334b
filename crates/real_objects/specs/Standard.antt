-- Sources and sinks over the readers and writers of the standard library, as contracts see them: the reader or writer, or
-- none where it could not be had, and the count of faults.
use Rattle.std.specs.Prelude.{ℕ, ◌/◌, ◌%◌, ◌*◌, ◌+◌, ◌^◌, List, Option, option_and_then}

-- the bytes that the reader has left, or that the writer holds, where it tells them
abbrev pub known_of : {R : Type 0} → (R → Option (List ℕ)) → Option R × ℕ → Option (List ℕ)
known_of known side = option_and_then known side.0

-- the next number of a linear congruence modulo 2^64, and the word that is drawn with it: its upper 32 bits
abbrev pub next_number : ℕ → ℕ
next_number number = (number * 6364136223846793005 + 1442695040888963407) % 2 ^ 64

abbrev pub word_of : ℕ → ℕ
word_of number = number / 2 ^ 32
