use Rattle.std.proofs.Common.{◌∙◌, map, sym, string_bytes}
use Rattle.sb_words.specs.Views.{shape_of}
use Rattle.sb_words.proofs.Readings.{barred_gives_nothing, fault_gives_nothing, matches_give}
use Rattle.sb_words.proofs.reading.read_words.Goals as goal

pub returns-then-has_barred : goal.returns-then-has_barred
returns-then-has_barred c = barred_gives_nothing (shape_of c.args.shape.now) (map string_bytes c.args.words.now) (sym c.has_barred.ensures ∙ c.if-has_barred.true)

pub invariant_of-result : goal.invariant_of-result
invariant_of-result c = (
  c.new.ensures.items,
  (matches_give (shape_of c.args.shape.now) (map string_bytes c.args.words.now) _ c.in-Ok.matches c.requires (sym c.has_barred.ensures ∙ c.if-has_barred.false)
      c.in_ok-command_of.ensures c.in-Ok.ensures.matches c.in-Ok.ensures.kinds).1,
)

pub returns-in-Ok : goal.returns-in-Ok
returns-in-Ok c =
    (matches_give (shape_of c.args.shape.now) (map string_bytes c.args.words.now) _ c.in-Ok.matches c.requires (sym c.has_barred.ensures ∙ c.if-has_barred.false)
    c.in_ok-command_of.ensures c.in-Ok.ensures.matches c.in-Ok.ensures.kinds).0

pub returns : goal.returns
returns c =
    fault_gives_nothing (shape_of c.args.shape.now) (map string_bytes c.args.words.now) _ c.in-Err.error c.requires (sym c.has_barred.ensures ∙ c.if-has_barred.false)
    c.in_ok-command_of.ensures c.in-Err.ensures.kinds (λ e. c.in_default.not-OutOfMemory (c.kind.ensures ∙ e))
