use Rattle.std.proofs.Common.{◌∙◌, ap, sym, map}
use Rattle.sb_words.proofs.Getters.{no_positionals, positionals_are}
use Rattle.sb_words.proofs.reading.Words.positionals.Goals as goal

pub returns-in_default : goal.returns-in_default
returns-in_default c = ap (map (λ s. s.now)) (c.as_slice.ensures.value ∙ c.self.invariant.0) ∙ no_positionals c.self.inside.matches _ c.self.view_is (sym c.in_default.ensures)

pub returns : goal.returns
returns c = positionals_are c.self.inside.matches _ _ c.self.view_is (sym c.in-Some.ensures)
