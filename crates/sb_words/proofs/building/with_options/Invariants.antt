use Rattle.std.proofs.Common.{◌≡◌, map, take}
use Rattle.clap.specs.Words.{app_of}
use Rattle.sb_words.specs.ClapCommand.{with_rules}
use Rattle.sb_words.specs.Views.{rule_for}
use Rattle.sb_words.proofs.building.with_options.Given as goal

abbrev pub invariant-loop-option : goal.invariant-loop-option
invariant-loop-option l = app_of l.command ≡ with_rules (map rule_for (take l.option-index l.option-items))
