-- How many bytes of answers wait: the own bytes of each, and each text that several hold once.
use Rattle.std.specs.Prelude.{ℕ, ◌+◌, ◌-◌, ◌==◌, List, Option, Some, None, nat_le, if◌then◌else◌}
use Rattle.std.specs.Ordering.{nat_cmp}
use Rattle.gathering.specs.Counts.{count_of, one_more, one_fewer}
use Rattle.gathering.specs.Deadlines.{moment}
use Rattle.gathering.specs.Wires.{Leaving, own_left}
use Rattle.tcp_door.specs.declared.answers.Answers.{Answers}

-- the texts that are held, by their numbers, with how many answers hold them
abbrev pub HeldTexts : Type 0
HeldTexts = List (ℕ × ℕ)

-- a text's bytes, if nobody held it before
abbrev pub bytes_first : HeldTexts → Option (ℕ × ℕ) → ℕ
bytes_first texts None = 0
bytes_first texts (Some text) = if count_of nat_cmp texts text.0 == 0 then text.1 else 0

-- a text's bytes, if nobody holds it any more once one answer is gone
abbrev pub bytes_last : HeldTexts → Option (ℕ × ℕ) → ℕ
bytes_last texts None = 0
bytes_last texts (Some text) = if nat_le (count_of nat_cmp texts text.0) 1 then text.1 else 0

-- one more answer holds a text, and one fewer
abbrev pub with_text : HeldTexts → Option (ℕ × ℕ) → HeldTexts
with_text texts None = texts
with_text texts (Some text) = one_more nat_cmp texts text.0

abbrev pub without_text : HeldTexts → Option (ℕ × ℕ) → HeldTexts
without_text texts None = texts
without_text texts (Some text) = one_fewer nat_cmp texts text.0

-- an answer waits from now on
abbrev pub with_waiting_answer : Answers → Leaving → Answers
with_waiting_answer answers answer = record {
  bytes = moment (answers.bytes + bytes_first answers.texts answer.held + own_left answer);
  texts = with_text answers.texts answer.held;
}

-- an answer waits no longer
abbrev pub without_waiting_answer : Answers → Leaving → Answers
without_waiting_answer answers answer = record {
  bytes = answers.bytes - own_left answer - bytes_last answers.texts answer.held;
  texts = without_text answers.texts answer.held;
}
