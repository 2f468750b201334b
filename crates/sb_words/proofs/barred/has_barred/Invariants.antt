use Rattle.std.proofs.Common.{◌≡◌, map, drop, string_bytes}
use Rattle.sb_words.specs.Barred.{has_barred}
use Rattle.sb_words.proofs.barred.has_barred.Given as goal

abbrev pub invariant-loop-word : goal.invariant-loop-word
invariant-loop-word l = has_barred (map string_bytes l.words) ≡ has_barred (map string_bytes (drop l.word-index l.words))
