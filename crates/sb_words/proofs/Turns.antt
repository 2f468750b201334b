-- One turn of `clap`'s walk over a word of each look.
use Rattle.std.proofs.Common.{◌≡◌, ◌∙◌, ap, ap₂, refl, Bool, true, false, not, ◌&&◌, ◌||◌, List, [], ◌∷◌, length, nat_lt, Option, Some, None, codes, if◌then◌else◌}
use Rattle.std.specs.Option.{option_map_or}
use Rattle.clap.specs.Walk.{Held, Step, Walk, Waiting, after_step, arg_by_index, has_row, idle, is_pending, option as for_option, positional as for_positional, plain_word, positional_held, pushed, settled, subcommand_met, subcommand_or_other, to_positional, used, value, walked, with_values, without, word_met}
use Rattle.clap.specs.Words.{Row, Rule, Text}
use Rattle.clap.specs.Kinds.{Kinds, or_else}
use Rattle.clap.specs.Faults.{other_fault, positional_fault, settle_fault, step_fault, use_fault, word_fault}
use Rattle.clap.specs.declared.error.kind.ErrorKind.{ErrorKind}
use Rattle.clap.specs.declared.error.kind.ErrorKind.TheVariants.{UnknownArgument}
use Rattle.clap.specs.declared.builder.value_parser.Reading.TheVariants.{AsWritten}
use Rattle.clap.specs.declared.parser.matches.ValueSource.TheVariants.{CommandLine}
use Rattle.sb_words.specs.CommandLine.{after_dash}
use Rattle.sb_words.specs.Rows.{positional_id}
use Rattle.sb_words.proofs.Rules.{filled_positional, flag_rule, set_rule, top_with}
use Rattle.sb_words.proofs.Dashes.{plain_ends, plain_long, plain_short}
use Rattle.sb_words.specs.ClapCommand.{none_of}
use Rattle.sb_words.proofs.Run.{run}

abbrev pub at_walk : Held → Waiting → Bool → Walk
at_walk h waiting is_trailing =
    record { held = h; waiting = waiting; position = 1; is_trailing = is_trailing; stopped = None }

-- a turn, by what the word is and what it fails by
pub run_by : (rules : List Rule) (h : Held) (waiting : Waiting) (t : Bool) (word : Text) (words : List Text) (fault : Kinds) (met : Held × Step)
    → word_fault (top_with rules) [] t waiting word h ≡ fault → word_met rules [] t waiting 1 word h ≡ met
    → run rules (at_walk h waiting t) (word ∷ words)
    ≡ (if none_of (or_else fault (step_fault (top_with rules) 1 met.0 met.1))
    then run rules (after_step rules word (at_walk h waiting t) met.0 met.1) words else None)
unfolding run walked
run_by rules h waiting t word words fault met fails is =
    ap₂ (λ (f : Kinds) (m : Held × Step).
    if none_of (or_else f (step_fault (top_with rules) 1 m.0 m.1))
    then run rules (after_step rules word (at_walk h waiting t) m.0 m.1) words else None) fails is

no_subcommand : (waiting : Waiting) (word : Text) → subcommand_met [] waiting word ≡ None
no_subcommand idle word = refl
no_subcommand (for_option id) word = refl
no_subcommand for_positional word = refl

-- a word before `--`
pub met_is : (rules : List Rule) (waiting : Waiting) (word : Text) (h : Held)
    → word_met rules [] false waiting 1 word h ≡ subcommand_or_other rules None waiting 1 word h
met_is rules waiting word h = ap (λ o. subcommand_or_other rules o waiting 1 word h) (no_subcommand waiting word)

pub fault_is : (rules : List Rule) (waiting : Waiting) (word : Text) (h : Held)
    → word_fault (top_with rules) [] false waiting word h ≡ other_fault (top_with rules) None word h
fault_is rules waiting word h = ap (λ o. other_fault (top_with rules) o word h) (no_subcommand waiting word)

-- a word with no dash
pub plain_met : (rules : List Rule) (waiting : Waiting) (word : Text) (h : Held) → after_dash word ≡ None
    → word_met rules [] false waiting 1 word h ≡ plain_word rules waiting word h
plain_met rules waiting word h e =
    met_is rules waiting word h ∙ rw (plain_ends word e, plain_long word e, plain_short word e) refl

pub plain_fault : (rules : List Rule) (waiting : Waiting) (word : Text) (h : Held) → after_dash word ≡ None
    → word_fault (top_with rules) [] false waiting word h ≡ []
plain_fault rules waiting word h e =
    fault_is rules waiting word h ∙ rw (plain_ends word e, plain_long word e, plain_short word e) refl

-- ---- a positional word

pub and_false : (b : Bool) → (b && false) ≡ false
and_false true = refl
and_false false = refl

pub and_true : (b : Bool) → (b && true) ≡ b
and_true true = refl
and_true false = refl

pub or_false : (b : Bool) → (b || false) ≡ b
or_false true = refl
or_false false = refl

positional_fault_is : (rules : List Rule) (h : Held) → positional_fault rules false filled_positional h ≡ settle_fault rules false h
positional_fault_is rules h = ap (λ b. if b then [] else settle_fault rules false h) (and_false (is_pending filled_positional h.pending))

positional_held_is : (rules : List Rule) (word : Text) (h : Held) → positional_held rules filled_positional word h ≡ pushed positional_id word (settled rules h)
positional_held_is rules word h = ap (λ b. pushed positional_id word (if b then h else settled rules h)) (and_false (is_pending filled_positional h.pending))

-- where the command takes positional words
pub run_positional : (rules : List Rule) (h : Held) (waiting : Waiting) (t : Bool) (word : Text) (words : List Text)
    → word_fault (top_with rules) [] t waiting word h ≡ [] → word_met rules [] t waiting 1 word h ≡ (h, value)
    → arg_by_index rules 1 ≡ Some filled_positional
    → run rules (at_walk h waiting t) (word ∷ words)
    ≡ (if none_of (settle_fault rules false h) then run rules (at_walk (pushed positional_id word (settled rules h)) for_positional t) words else None)
run_positional rules h waiting t word words fails is place =
    run_by rules h waiting t word words [] (h, value) fails is
    ∙ ap (λ (f : Option Rule).
    if none_of (option_map_or (λ a. positional_fault rules false a h) f (UnknownArgument ∷ []))
    then run rules (to_positional rules f word (at_walk h waiting t) h) words else None) place
    ∙ (λ i. if none_of (positional_fault_is rules h i)
    then run rules (at_walk (positional_held_is rules word h i) for_positional (or_false t i)) words else None)

-- where it takes none
pub run_stray : (rules : List Rule) (h : Held) (waiting : Waiting) (t : Bool) (word : Text) (words : List Text)
    → word_fault (top_with rules) [] t waiting word h ≡ [] → word_met rules [] t waiting 1 word h ≡ (h, value)
    → arg_by_index rules 1 ≡ None
    → run rules (at_walk h waiting t) (word ∷ words) ≡ None
run_stray rules h waiting t word words fails is place =
    run_by rules h waiting t word words [] (h, value) fails is
    ∙ ap (λ (f : Option Rule).
    if none_of (option_map_or (λ a. positional_fault rules false a h) f (UnknownArgument ∷ []))
    then run rules (to_positional rules f word (at_walk h waiting t) h) words else None) place

-- ---- one use of an argument

repeat_or_value : (b c : Bool) (k l : ErrorKind) → none_of (or_else (if b && true then k ∷ [] else []) (or_else (if c then [] else l ∷ []) [])) ≡ (not b && c)
repeat_or_value true c k l = refl
repeat_or_value false true k l = refl
repeat_or_value false false k l = refl

repeat_alone : (b : Bool) (k : ErrorKind) → none_of (or_else (if b && true then k ∷ [] else []) []) ≡ not b
repeat_alone true k = refl
repeat_alone false k = refl

pub set_use_fault : (required : Bool) (name v : Text) (rows : List Row)
    → none_of (use_fault false (set_rule required name) (v ∷ []) rows) ≡ (not (has_row name rows) && nat_lt 0 (length v))
set_use_fault required name v rows = repeat_or_value (has_row name rows) (nat_lt 0 (length v)) _ _

pub flag_use_fault : (name : Text) (rows : List Row) → none_of (use_fault false (flag_rule name) [] rows) ≡ not (has_row name rows)
flag_use_fault name rows = repeat_alone (has_row name rows) _

pub positional_use_fault : (word : Text) (rows : List Row) → use_fault false filled_positional (word ∷ []) rows ≡ []
positional_use_fault word rows = refl

pub no_value_fault : (required : Bool) (name : Text) (rows : List Row) → none_of (use_fault false (set_rule required name) [] rows) ≡ false
no_value_fault required name rows = refl

pub set_used : (required : Bool) (name v : Text) (rows : List Row)
    → used (set_rule required name) (v ∷ []) rows ≡ with_values name AsWritten CommandLine (v ∷ []) (without name rows)
set_used required name v rows = refl

pub flag_used : (name : Text) (rows : List Row)
    → used (flag_rule name) [] rows ≡ with_values name AsWritten CommandLine (codes "true" ∷ []) (without name rows)
flag_used name rows = refl

pub positional_used : (word : Text) (rows : List Row)
    → used filled_positional (word ∷ []) rows ≡ with_values positional_id AsWritten CommandLine (word ∷ []) rows
positional_used word rows = refl
