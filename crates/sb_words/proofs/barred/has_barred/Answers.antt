use Rattle.std.proofs.Common.{◌∙◌, ◌||◌, ap₂, sym, Bool, false, map, drop, string_bytes, arith, ◌+◌, if◌then◌else◌}
use Rattle.sb_words.specs.Barred.{has_barred}
use Rattle.sb_words.proofs.Barring.{barred_at}
use Rattle.sb_words.proofs.barred.has_barred.Goals as goal

pub returns-then-is_barred : goal.returns-then-is_barred
returns-then-is_barred c =
    sym (c.loop-word.invariant
    ∙ barred_at string_bytes c.args.words.now c.loop-word.word-index c.word-item.result (omega arith) c.word-item.is
    ∙ ap₂ (λ (e b : Bool). if e then false else (b || has_barred (map string_bytes (drop (c.loop-word.word-index + 1) c.args.words.now))))
    (sym c.ends_options.ensures ∙ c.if-ends_options.false) (sym c.is_barred.ensures ∙ c.if-is_barred.true))

pub loop-word-preserved : goal.loop-word-preserved
loop-word-preserved c =
    c.loop-word.invariant
    ∙ barred_at string_bytes c.args.words.now c.loop-word.word-index c.word-item.result (omega arith) c.word-item.is
    ∙ ap₂ (λ (e b : Bool). if e then false else (b || has_barred (map string_bytes (drop (c.loop-word.word-index + 1) c.args.words.now))))
    (sym c.ends_options.ensures ∙ c.if-ends_options.false) (sym c.is_barred.ensures ∙ c.if-is_barred.false)
