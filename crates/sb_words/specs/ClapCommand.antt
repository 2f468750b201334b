-- The command of a shape as `clap` takes it, and what a parse by it gives.
use Rattle.std.specs.Prelude.{Bool, true, false, if◌then◌else◌, List, [], ◌∷◌, ◌++◌, map, Option, Some, None, codes}
use Rattle.clap.specs.Words.{App, Kinds, Rule, fault_of, matches_of, new_app, new_rule}
use Rattle.clap.specs.declared.builder.action.ArgAction.TheVariants.{Set, Append, SetTrue}
use Rattle.clap.specs.declared.builder.value_parser.ValueParser.TheVariants.{NonEmptyString}
use Rattle.sb_words.specs.declared.shape.OptionKind.{OptionKind}
use Rattle.sb_words.specs.declared.shape.OptionKind.TheVariants.{Needed, Optional, Flag}
use Rattle.sb_words.specs.CommandLine.{CommandOption, CommandShape, Given, Text}
use Rattle.sb_words.specs.Rows.{given_in, positional_id}

abbrev pub named_rule : Text → Rule
named_rule name = record (new_rule name) { long = Some name }

abbrev pub kind_rule : OptionKind → Text → Rule
kind_rule Needed name = record (named_rule name) { required = true; action = Some Set; parser = Some NonEmptyString }
kind_rule Optional name = record (named_rule name) { action = Some Set; parser = Some NonEmptyString }
kind_rule Flag name = record (named_rule name) { action = Some SetTrue }

abbrev pub option_rule : CommandOption → Rule
option_rule o = kind_rule o.kind o.name

abbrev pub positional_rule : Rule
positional_rule = record (new_rule positional_id) { action = Some Append }

abbrev pub rules_for : CommandShape → List Rule
rules_for shape =
    map option_rule shape.options ++ (if shape.takes_positionals then positional_rule ∷ [] else [])

abbrev pub with_rules : List Rule → App
with_rules rules = record {
  top = record (new_app (codes "words")).top { rules = rules; no_binary_name = true; disable_help_flag = true };
  subs = [];
}

-- the command of a shape
abbrev pub app_for : CommandShape → App
app_for shape = with_rules (rules_for shape)

abbrev pub none_of : Kinds → Bool
none_of [] = true
none_of (kind ∷ kinds) = false

-- what a parse by `clap` gives, where it finds no fault
abbrev pub given_by_clap : CommandShape → List Text → Option Given
given_by_clap shape words =
    if none_of (fault_of (app_for shape) words) then Some (given_in (matches_of (app_for shape) words)) else None
