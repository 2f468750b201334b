-- What building makes of the command of a shape, and which rule a name finds there.
use Rattle.std.proofs.Common.{◌≡◌, ◌∙◌, ap, ap₂, refl, ℕ, ◌+◌, Bool, true, false, not, cond, ◌&&◌, List, [], ◌∷◌, ◌++◌, map, Some, is_some, codes, fold, add-zero, if◌then◌else◌}
use Rattle.std.specs.List.{list_all, list_any}
use Rattle.std.proofs.lemmas.List.Folds.{list_all-append}
use Rattle.clap.specs.Walk.{is_early_multiple}
use Rattle.clap.specs.Words.{App, Rule, Text, Shape as ClapShape, is_simple}
use Rattle.clap.specs.Simple.{built, filled, filled_from, index_after, is_in_order, is_ready, is_ready_leaf, new_shape, with_index}
use Rattle.clap.specs.Faults.{is_free_app, is_simple_and_free}
use Rattle.clap.specs.declared.builder.action.ArgAction.TheVariants.{Set, SetTrue}
use Rattle.clap.specs.declared.builder.value_parser.ValueParser.TheVariants as vp
use Rattle.sb_words.specs.CommandLine.{CommandOption, CommandShape}
use Rattle.sb_words.specs.declared.shape.OptionKind.{OptionKind}
use Rattle.sb_words.specs.declared.shape.OptionKind.TheVariants.{Needed, Optional, Flag}
use Rattle.sb_words.specs.ClapCommand.{app_for, kind_rule, named_rule, option_rule, positional_rule, rules_for, with_rules}

-- an option that takes a value, with what building fills in
abbrev pub set_rule : Bool → Text → Rule
set_rule required name = record (named_rule name) {
  required = required;
  action = Some Set;
  parser = Some vp.NonEmptyString;
  range = Some (record { start_inclusive = 1; end_inclusive = 1 });
}

abbrev pub flag_rule : Text → Rule
flag_rule name = record (named_rule name) {
  action = Some SetTrue;
  defaults = codes "false" ∷ [];
  missing = codes "true" ∷ [];
  parser = Some vp.Bool;
  range = Some (record { start_inclusive = 0; end_inclusive = 0 });
}

abbrev pub filled_kind : OptionKind → Text → Rule
filled_kind Needed name = set_rule true name
filled_kind Optional name = set_rule false name
filled_kind Flag name = flag_rule name

abbrev pub filled_option : CommandOption → Rule
filled_option o = filled_kind o.kind o.name

abbrev pub filled_positional : Rule
filled_positional = record positional_rule {
  index = Some 1;
  parser = Some vp.String;
  range = Some (record { start_inclusive = 1; end_inclusive = 1 });
}

abbrev pub last_rules : Bool → List Rule
last_rules takes_positionals = if takes_positionals then filled_positional ∷ [] else []

abbrev pub filled_rules : CommandShape → List Rule
filled_rules shape = map filled_option shape.options ++ last_rules shape.takes_positionals

-- the built command
abbrev pub top_with : List Rule → ClapShape
top_with rules = record (new_shape (codes "words")) {
  rules = rules;
  no_binary_name = true;
  disable_help_flag = true;
  disable_help_subcommand = true;
  is_built = true;
}

abbrev pub built_with : List Rule → App
built_with rules = record { top = top_with rules; subs = [] }

built_rules : (rules : List Rule) → built (with_rules rules) ≡ built_with (filled_from 1 rules)
built_rules rules = refl

filled_one : (kind : OptionKind) (name : Text) (i : ℕ) → with_index i (filled (kind_rule kind name)) ≡ filled_kind kind name
filled_one Needed name i = refl
filled_one Optional name i = refl
filled_one Flag name i = refl

same_index : (kind : OptionKind) (name : Text) (i : ℕ) → index_after i (kind_rule kind name) ≡ i
same_index Needed name i = refl
same_index Optional name i = refl
same_index Flag name i = refl

filled_each : (options : List CommandOption) (rest : List Rule) → filled_from 1 (map option_rule options ++ rest) ≡ map filled_option options ++ filled_from 1 rest
filled_each [] rest = refl
filled_each (o ∷ options) rest =
    ap₂ (λ r i. r ∷ filled_from i (map option_rule options ++ rest)) (filled_one o.kind o.name 1) (same_index o.kind o.name 1)
    ∙ ap (λ rules. filled_option o ∷ rules) (filled_each options rest)

filled_last : (takes_positionals : Bool) → filled_from 1 (if takes_positionals then positional_rule ∷ [] else []) ≡ last_rules takes_positionals
filled_last true = refl
filled_last false = refl

pub built_is : (shape : CommandShape) → built (app_for shape) ≡ built_with (filled_rules shape)
built_is shape =
    built_rules (rules_for shape)
    ∙ ap built_with (filled_each shape.options _ ∙ ap (λ rules. map filled_option shape.options ++ rules) (filled_last shape.takes_positionals))

-- ---- the command is simple

module _ (test : Rule → Bool) (passes : (kind : OptionKind) (name : Text) → test (kind_rule kind name) ≡ true) (last : test positional_rule ≡ true) where
  each_option : (options : List CommandOption) → list_all test (map option_rule options) ≡ true
  each_option [] = refl
  each_option (o ∷ options) = rw (passes o.kind o.name, each_option options) refl

  tail_passes : (takes_positionals : Bool) → list_all test (if takes_positionals then positional_rule ∷ [] else []) ≡ true
  tail_passes true = rw last refl
  tail_passes false = refl

  pub each_rule : (shape : CommandShape) → list_all test (rules_for shape) ≡ true
  each_rule shape =
      list_all-append test (map option_rule shape.options) _
      ∙ ap₂ (λ a b. a && b) (each_option shape.options) (tail_passes shape.takes_positionals)

module _ (test : Rule → Bool) (passes : (kind : OptionKind) (name : Text) → test (filled_kind kind name) ≡ true) (last : test filled_positional ≡ true) where
  each_filled_option : (options : List CommandOption) → list_all test (map filled_option options) ≡ true
  each_filled_option [] = refl
  each_filled_option (o ∷ options) = rw (passes o.kind o.name, each_filled_option options) refl

  filled_tail_passes : (takes_positionals : Bool) → list_all test (last_rules takes_positionals) ≡ true
  filled_tail_passes true = rw last refl
  filled_tail_passes false = refl

  pub each_filled : (shape : CommandShape) → list_all test (filled_rules shape) ≡ true
  each_filled shape =
      list_all-append test (map filled_option shape.options) _
      ∙ ap₂ (λ a b. a && b) (each_filled_option shape.options) (filled_tail_passes shape.takes_positionals)

no_more_places : (kind : OptionKind) (name : Text) (n : ℕ) → n + cond (is_some (filled_kind kind name).index) 1 0 ≡ n
no_more_places Needed name n = add-zero n
no_more_places Optional name n = add-zero n
no_more_places Flag name n = add-zero n

places_so_far : (options : List CommandOption) (rest : List Rule) (n : ℕ)
    → fold (λ (k : ℕ) (a : Rule). k + cond (is_some a.index) 1 0) n (map filled_option options ++ rest) ≡ fold (λ (k : ℕ) (a : Rule). k + cond (is_some a.index) 1 0) n rest
places_so_far [] rest n = refl
places_so_far (o ∷ options) rest n =
    ap (λ m. fold (λ (k : ℕ) (a : Rule). k + cond (is_some a.index) 1 0) m (map filled_option options ++ rest)) (no_more_places o.kind o.name n)
    ∙ places_so_far options rest n

not_early : (n : ℕ) (kind : OptionKind) (name : Text) → is_early_multiple n (filled_kind kind name) ≡ false
not_early n Needed name = refl
not_early n Optional name = refl
not_early n Flag name = refl

none_early : (n : ℕ) (options : List CommandOption) (rest : List Rule) → list_any (is_early_multiple n) (map filled_option options ++ rest) ≡ list_any (is_early_multiple n) rest
none_early n [] rest = refl
none_early n (o ∷ options) rest = rw (not_early n o.kind o.name) (none_early n options rest)

last_in_order : (takes_positionals : Bool) → is_in_order (last_rules takes_positionals) ≡ true
last_in_order true = refl
last_in_order false = refl

in_order : (shape : CommandShape) → is_in_order (filled_rules shape) ≡ true
in_order shape =
    ap (λ n. not (list_any (is_early_multiple n) (filled_rules shape))) (places_so_far shape.options (last_rules shape.takes_positionals) 0)
    ∙ ap not (none_early _ shape.options (last_rules shape.takes_positionals))
    ∙ last_in_order shape.takes_positionals

simple_kind : (kind : OptionKind) (name : Text) → (kind_rule kind name).is_simple ≡ true
simple_kind Needed name = refl
simple_kind Optional name = refl
simple_kind Flag name = refl

simple_filled : (kind : OptionKind) (name : Text) → (filled_kind kind name).is_simple ≡ true
simple_filled Needed name = refl
simple_filled Optional name = refl
simple_filled Flag name = refl

free_filled : (kind : OptionKind) (name : Text) → (filled_kind kind name).is_free ≡ true
free_filled Needed name = refl
free_filled Optional name = refl
free_filled Flag name = refl

built_simple : (shape : CommandShape) → (is_ready (built_with (filled_rules shape)).top && list_all is_ready_leaf (built_with (filled_rules shape)).subs) ≡ true
built_simple shape =
    ap₂ (λ a b. ((true && a) && b) && true) (each_filled (λ r. r.is_simple) simple_filled refl shape) (in_order shape)

built_free : (shape : CommandShape) → is_free_app (built_with (filled_rules shape)) ≡ true
built_free shape = ap (λ b. b && true) (each_filled (λ r. r.is_free) free_filled refl shape)

pub simple_and_free : (shape : CommandShape) → is_simple_and_free (app_for shape) ≡ true
simple_and_free shape =
    ap (λ b. (((true && b) && true) && (is_ready (built (app_for shape)).top && list_all is_ready_leaf (built (app_for shape)).subs)) && is_free_app (built (app_for shape)))
    (each_rule (λ r. r.is_simple) simple_kind refl shape)
    ∙ ap (λ (a : App). (is_ready a.top && list_all is_ready_leaf a.subs) && is_free_app a) (built_is shape)
    ∙ ap₂ (λ a b. a && b) (built_simple shape) (built_free shape)

pub simple : (shape : CommandShape) → is_simple (app_for shape) ≡ true
simple shape =
    ap (λ b. ((true && b) && true) && (is_ready (built (app_for shape)).top && list_all is_ready_leaf (built (app_for shape)).subs))
    (each_rule (λ r. r.is_simple) simple_kind refl shape)
    ∙ ap (λ (a : App). is_ready a.top && list_all is_ready_leaf a.subs) (built_is shape)
    ∙ built_simple shape
