use Rattle.std.proofs.Common.{refl, sym, ◌∙◌, string_bytes}
use Rattle.sb_client.proofs.Commands.{judge_asked, run_asked}
use Rattle.sb_client.proofs.command.named_command.Goals as goal

pub returns-then-are_words-2 : goal.returns-then-are_words-2
returns-then-are_words-2 c =
    run_asked string_bytes c.args.words.now _ _ _ c.run_command.result c.in-len2-up.len_at_least refl c.program-item.is c.command-item.is
    (sym c.are_words.ensures ∙ c.if-are_words.false, sym c.are_words-2.ensures ∙ c.if-are_words-2.true) c.requires c.run_command.ensures

pub returns-then-are_words-3 : goal.returns-then-are_words-3
returns-then-are_words-3 c =
    judge_asked string_bytes c.args.words.now _ _ _ c.judge_command.result c.in-len2-up.len_at_least refl c.program-item.is c.command-item.is
    (sym c.are_words.ensures ∙ c.if-are_words.false, sym c.are_words-2.ensures ∙ c.if-are_words-2.false, sym c.are_words-3.ensures ∙ c.if-are_words-3.true)
    c.requires c.judge_command.ensures
