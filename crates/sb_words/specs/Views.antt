-- Which shape a value of the code stands for.
use Rattle.std.specs.Prelude.{map}
use Rattle.clap.specs.Words.{Rule}
use Rattle.sb_words.specs.declared.shape.OptionShape.{OptionShape}
use Rattle.sb_words.specs.declared.shape.Shape.{Shape}
use Rattle.sb_words.specs.CommandLine.{CommandOption, CommandShape}
use Rattle.sb_words.specs.ClapCommand.{option_rule}

abbrev pub option_of : OptionShape → CommandOption
option_of o = record { name = o.name.now; kind = o.kind }

abbrev pub shape_of : Shape → CommandShape
shape_of shape =
    record { options = map option_of shape.options.now; takes_positionals = shape.takes_positionals }

-- the rule of an option of the code
unfoldable pub rule_for : OptionShape → Rule
rule_for o = option_rule (option_of o)
