-- The walk of `clap` over the words of a shape, word by word, and what each piece does to its rows.
use Rattle.std.proofs.Common.{◌≡◌, ◌∙◌, sym, ap, refl, Bool, true, false, ◌&&◌, List, [], ◌∷◌, Option, Some, None, option_and_then, codes, fold, if◌then◌else◌}
use Rattle.clap.specs.Walk.{Held, Walk, has_row, settled, walked, with_values, without}
use Rattle.clap.specs.Words.{Row, Rule, Text}
use Rattle.clap.specs.Kinds.{Kinds, or_else}
use Rattle.clap.specs.Faults.{settle_fault, turn_fault, walk_fault}
use Rattle.clap.specs.declared.builder.value_parser.Reading.TheVariants.{AsWritten}
use Rattle.clap.specs.declared.parser.matches.ValueSource.TheVariants.{CommandLine}
use Rattle.sb_words.specs.CommandLine.{Piece, option, flag, positional, first_piece}
use Rattle.sb_words.specs.ClapCommand.{none_of}
use Rattle.sb_words.specs.Rows.{positional_id}
use Rattle.sb_words.proofs.Rules.{top_with}

pub none_of_both : (a b : Kinds) → none_of (or_else a b) ≡ (none_of a && none_of b)
none_of_both [] b = refl
none_of_both (k ∷ ks) b = refl

-- the rows once what is pending is used, where that passes
abbrev pub settled_rows_of : List Rule → Held → Option (List Row)
settled_rows_of rules h = if none_of (settle_fault rules false h) then Some (settled rules h).rows else None

-- the rows after the words, where each passes
unfoldable pub run : List Rule → Walk → List Text → Option (List Row)
run rules w [] = settled_rows_of rules w.held
run rules w (word ∷ words) =
    if none_of (turn_fault (top_with rules) [] w word) then run rules (walked rules [] w word) words else None

and_cases : (a b : Bool) (r : Option (List Row)) → (if a && b then r else None) ≡ (if a then (if b then r else None) else None)
and_cases true b r = refl
and_cases false b r = refl

-- which is what the whole walk comes to
pub run_is : (rules : List Rule) (w : Walk) (words : List Text)
    → run rules w words
    ≡ (if none_of (walk_fault (top_with rules) [] w words) then settled_rows_of rules (fold (walked rules []) w words).held else None)
unfolding run walk_fault
run_is rules w [] = refl
run_is rules w (word ∷ words) =
    ap (λ r. if none_of (turn_fault (top_with rules) [] w word) then r else None) (run_is rules (walked rules [] w word) words)
    ∙ sym (ap (λ b. if b then settled_rows_of rules (fold (walked rules []) (walked rules [] w word) words).held else None)
    (none_of_both (turn_fault (top_with rules) [] w word) (walk_fault (top_with rules) [] (walked rules [] w word) words))
    ∙ and_cases (none_of (turn_fault (top_with rules) [] w word)) (none_of (walk_fault (top_with rules) [] (walked rules [] w word) words))
    (settled_rows_of rules (fold (walked rules []) (walked rules [] w word) words).held))

-- ---- what pieces do

-- an option or a flag that no row has yet
abbrev pub named_use : Text → Text → List Row → Option (List Row)
named_use name value rows =
    if has_row name rows then None else Some (with_values name AsWritten CommandLine (value ∷ []) (without name rows))

abbrev pub piece_use : Bool → Piece → List Row → Option (List Row)
piece_use takes (option name value) rows = named_use name value rows
piece_use takes (flag name) rows = named_use name (codes "true") rows
piece_use takes (positional word) rows =
    if takes then Some (with_values positional_id AsWritten CommandLine (word ∷ []) rows) else None

abbrev pub pieces_use : Bool → List Piece → List Row → Option (List Row)
pieces_use takes [] rows = Some rows
pieces_use takes (piece ∷ pieces) rows = option_and_then (pieces_use takes pieces) (piece_use takes piece rows)

-- the same of pieces that there may not be
abbrev pub use_of : Bool → Option (List Piece) → List Row → Option (List Row)
use_of takes pieces rows = option_and_then (λ ps. pieces_use takes ps rows) pieces

nothing_then : {X Y : Type 0} (o : Option X) → option_and_then {U = Y} (λ _. None) o ≡ None
nothing_then None = refl
nothing_then (Some x) = refl

pub use_first : (takes : Bool) (piece : Piece) (pieces : Option (List Piece)) (rows : List Row)
    → option_and_then (use_of takes pieces) (piece_use takes piece rows) ≡ use_of takes (first_piece piece pieces) rows
use_first takes piece None rows = nothing_then (piece_use takes piece rows)
use_first takes piece (Some ps) rows = refl
