use Rattle.std.proofs.Common.{◌≡◌, ◌++◌, map, drop, option_map}
use Rattle.sb_words.specs.Values.{names_of}
use Rattle.sb_words.proofs.named_lists.names_among.Given as goal

abbrev pub invariant-loop-word : goal.invariant-loop-word
invariant-loop-word l =
    names_of (map (λ s. s.now) l.words) ≡ option_map (λ rest. l.names ++ rest) (names_of (map (λ s. s.now) (drop l.word-index l.words)))
