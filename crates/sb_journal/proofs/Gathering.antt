-- What is gathered of the lines of an input, one after the other.
use Rattle.std.proofs.Common.{ℕ, List, map, Option}
use Rattle.std.specs.List.{enumerate_from, flat_map}
use Rattle.url_canon.specs.declared.fault.UrlFault.{UrlFault}
use Rattle.sb_journal.specs.Refusals.{refusal_at}

-- what is refused of lines that are counted from a number
abbrev pub refused_from : {X : Type 0} → (X → Option UrlFault) → ℕ → List X → List ℕ
refused_from f number all = flat_map (λ (line : ℕ × Option UrlFault). refusal_at line.0 line.1) (enumerate_from number (map f all))
