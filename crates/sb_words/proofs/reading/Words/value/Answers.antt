use Rattle.std.proofs.Common.{◌∙◌, sym}
use Rattle.clap.specs.Words.{found_of, rows_of}
use Rattle.sb_words.proofs.Getters.{nothing_at_dashes, nothing_given, value_is}
use Rattle.sb_words.proofs.reading.Words.value.Goals as goal

pub returns-then-eq : goal.returns-then-eq
returns-then-eq c = nothing_at_dashes (rows_of (found_of c.self.inside.matches)) _ c.args.name.now c.self.view_is (sym c.eq.ensures ∙ c.if-eq.true)

pub returns-then-not-given : goal.returns-then-not-given
returns-then-not-given c =
    nothing_given c.self.inside.matches _ c.args.name.now c.value_source.result c.self.view_is c.self.invariant.1
    (sym c.eq.ensures ∙ c.if-eq.false) c.value_source.ensures (sym c.is_by_words-given.ensures ∙ c.if-not-given.true)

pub returns : goal.returns
returns c =
    c.get_str.ensures ∙ value_is c.self.inside.matches _ c.args.name.now c.value_source.result c.self.view_is c.self.invariant.1
    (sym c.eq.ensures ∙ c.if-eq.false) c.value_source.ensures (sym c.is_by_words-given.ensures ∙ c.if-not-given.false)
