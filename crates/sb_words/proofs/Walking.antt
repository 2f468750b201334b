-- The walk of `clap` over words of which none is barred does what their pieces do.
use Rattle.std.proofs.Common.{◌≡◌, ◌∙◌, sym, ap, ap₂, refl, subst, ℕ, ◌+◌, one-add, ◌==◌, Bool, true, false, not, cond, ◌&&◌, ◌||◌, List, [], ◌∷◌, map, length, nat_lt, take, Option, Some, None, is_some, option_map, option_and_then, codes, if◌then◌else◌}
use Rattle.std.specs.List.{list_any, position_or_len}
use Rattle.std.specs.Option.{option_map_or}
use Rattle.std.proofs.lemmas.Bool.{false≢true}
use Rattle.std.proofs.lemmas.Slice.Eq.{bytes_eq-Decides}
use lib.Dec.{leb-suc-suc, leb-zero}
use Rattle.clap.specs.Walk.{Held, Waiting, after_flag, after_step, arg_by_id, has_row, idle, long_met, next, option as for_option, option_word, positional as for_positional, plain_word, pushed, reacted, settled, takes_values, trailing, used_by_id, value, with_values, without, word_met}
use Rattle.clap.specs.Words.{Row, Rule, Text}
use Rattle.clap.specs.Kinds.{Kinds, or_else}
use Rattle.clap.specs.Faults.{long_fault, option_fault, react_fault, settle_fault, step_fault, use_fault, word_fault}
use Rattle.clap.specs.declared.error.kind.ErrorKind.TheVariants.{TooManyValues}
use Rattle.clap.specs.declared.builder.value_parser.Reading.TheVariants.{AsWritten}
use Rattle.clap.specs.declared.parser.matches.ValueSource.TheVariants.{CommandLine}
use Rattle.sb_words.specs.declared.shape.OptionKind.{OptionKind}
use Rattle.sb_words.specs.declared.shape.OptionKind.TheVariants.{Needed, Optional, Flag}
use Rattle.sb_words.specs.CommandLine.{after_dash, CommandOption, first_piece, flag, found_meaning, is_value, kind_meaning, meaning_of_word, name_in, option, option_named, Piece, pieces_after, pieces_from, positional, refused, says, value_in, word_meaning}
use Rattle.sb_words.specs.Barred.{ends_options, has_barred, is_barred}
use Rattle.sb_words.specs.Rows.{positional_id}
use Rattle.sb_words.proofs.Rules.{filled_kind, filled_option, filled_positional, flag_rule, set_rule, top_with}
use Rattle.sb_words.proofs.Dashes.{by_dashes, one_dash_barred}
use Rattle.sb_words.proofs.Lookups.{Finds, named_is}
use Rattle.sb_words.specs.ClapCommand.{none_of}
use Rattle.sb_words.proofs.Run.{none_of_both, named_use, piece_use, run, settled_rows_of, use_first, use_of}
use Rattle.sb_words.proofs.Turns.{and_false, and_true, at_walk, fault_is, flag_use_fault, met_is, plain_fault, plain_met, run_by, run_positional, run_stray, set_use_fault}

abbrev pub resting : Bool → Waiting
resting true = for_positional
resting false = idle

-- what words do to rows that the walk may have settled
abbrev pub then_use : Bool → Option (List Piece) → Option (List Row) → Option (List Row)
then_use takes pieces rows = option_and_then (use_of takes pieces) rows

module _ (options : List CommandOption) (takes : Bool) (rules : List Rule) (found : Finds options takes rules) where
  -- a positional word is pending
  pending_positional : (h : Held) (word : Text) → takes ≡ true
      → settled_rows_of rules (pushed positional_id word (settled rules h))
      ≡ Some (with_values positional_id AsWritten CommandLine (word ∷ []) (settled rules h).rows)
  pending_positional h word t =
      ap (λ (f : Option Rule). if none_of (option_map_or (λ a. use_fault false a (word ∷ []) (settled rules h).rows) f [])
      then Some (used_by_id f (word ∷ []) (settled rules h).rows) else None) (found.last t)

  -- what is settled, and then a positional word
  positional_turn : (h : Held) (t : Bool) (word : Text) (words : List Text) (waiting : Waiting) (rest : Option (List Piece))
      → word_fault (top_with rules) [] t waiting word h ≡ [] → word_met rules [] t waiting 1 word h ≡ (h, value)
      → (takes ≡ true → run rules (at_walk (pushed positional_id word (settled rules h)) for_positional t) words
      ≡ then_use takes rest (settled_rows_of rules (pushed positional_id word (settled rules h))))
      → run rules (at_walk h waiting t) (word ∷ words) ≡ then_use takes (first_piece (positional word) rest) (settled_rows_of rules h)
  positional_turn h t word words waiting rest fails is later = go takes refl
    where
      settles : (b : Bool) → takes ≡ true → (if b then run rules (at_walk (pushed positional_id word (settled rules h)) for_positional t) words else None)
          ≡ then_use takes (first_piece (positional word) rest) (if b then Some (settled rules h).rows else None)
      settles false y = refl
      settles true y =
          later y ∙ ap (then_use takes rest) (pending_positional h word y ∙ sym (ap (λ b. piece_use b (positional word) (settled rules h).rows) y))
          ∙ use_first takes (positional word) rest (settled rules h).rows

      none_then : (o : Option (List Row)) (pieces : Option (List Piece)) → then_use false (first_piece (positional word) pieces) o ≡ None
      none_then None pieces = refl
      none_then (Some rows) None = refl
      none_then (Some rows) (Some ps) = refl

      go : (b : Bool) → takes ≡ b → run rules (at_walk h waiting t) (word ∷ words) ≡ then_use takes (first_piece (positional word) rest) (settled_rows_of rules h)
      go true y =
          run_positional rules h waiting t word words fails is (found.place ∙ ap (λ b. if b then Some filled_positional else None) y)
          ∙ settles (none_of (settle_fault rules false h)) y
      go false y =
          run_stray rules h waiting t word words fails is (found.place ∙ ap (λ b. if b then Some filled_positional else None) y)
          ∙ sym (ap (λ b. then_use b (first_piece (positional word) rest) (settled_rows_of rules h)) y ∙ none_then (settled_rows_of rules h) rest)

  -- ---- after `--`

  pub run_trailing : (words : List Text) (h : Held) (waiting : Waiting)
      → run rules (at_walk h waiting true) words ≡ then_use takes (Some (map positional words)) (settled_rows_of rules h)
  unfolding run
  run_trailing [] h waiting = go (settled_rows_of rules h)
    where
      go : (o : Option (List Row)) → o ≡ then_use takes (Some []) o
      go None = refl
      go (Some rows) = refl
  run_trailing (word ∷ words) h waiting =
      positional_turn h true word words waiting (Some (map positional words)) refl refl
      (λ y. run_trailing words (pushed positional_id word (settled rules h)) for_positional)

  -- ---- words before `--`

  -- what a turn over `--name` or `--name=value` comes to, by the rule that the name finds
  abbrev turned : Option Rule → Option Text → Held → Waiting → Text → List Text → Option (List Row)
  turned f v h waiting word words =
      let met = after_flag rules waiting word (long_met rules f v h).0 (long_met rules f v h).1 in
      if none_of (or_else (long_fault rules false f v h) (step_fault (top_with rules) 1 met.0 met.1))
      then run rules (after_step rules word (at_walk h waiting false) met.0 met.1) words else None

  run_named : (b : ℕ) (bs : Text) (words : List Text) (h : Held) (waiting : Waiting)
      → run rules (at_walk h waiting false) ((45 ∷ 45 ∷ b ∷ bs) ∷ words)
      ≡ turned (option_map filled_option (option_named options (name_in (b ∷ bs)))) (value_in (b ∷ bs)) h waiting (45 ∷ 45 ∷ b ∷ bs) words
  run_named b bs words h waiting =
      run_by rules h waiting false (45 ∷ 45 ∷ b ∷ bs) words _ _
      (fault_is rules waiting (45 ∷ 45 ∷ b ∷ bs) h) (met_is rules waiting (45 ∷ 45 ∷ b ∷ bs) h)
      ∙ ap (λ f. turned f (value_in (b ∷ bs)) h waiting (45 ∷ 45 ∷ b ∷ bs) words) (found.long (name_in (b ∷ bs)))

  run_dashes : (words : List Text) (h : Held) (waiting : Waiting)
      → run rules (at_walk h waiting false) ((45 ∷ 45 ∷ []) ∷ words) ≡ then_use takes (Some (map positional words)) (settled_rows_of rules h)
  run_dashes words h waiting =
      run_by rules h waiting false (45 ∷ 45 ∷ []) words [] (h, trailing 1)
      (fault_is rules waiting (45 ∷ 45 ∷ []) h) (met_is rules waiting (45 ∷ 45 ∷ []) h)
      ∙ run_trailing words h waiting

  -- where what is pending fails, so does every option that follows
  fails_unsettled : (f : Option Rule) (v : Option Text) (h : Held) → none_of (settle_fault rules false h) ≡ false → none_of (long_fault rules false f v h) ≡ false
  fails_unsettled None v h e = refl
  fails_unsettled (Some a) v h e = go (takes_values a) v
    where
      first : (more : Kinds) → none_of (or_else (settle_fault rules false h) more) ≡ false
      first more = none_of_both (settle_fault rules false h) more ∙ ap (λ b. b && none_of more) e

      go : (b : Bool) (w : Option Text) → none_of (if b then option_fault rules false a w h
          else (if is_some w then TooManyValues ∷ [] else react_fault rules false a [] h)) ≡ false
      go true None = e
      go true (Some x) = first _
      go false None = first _
      go false (Some x) = refl

  turned_unsettled : (f : Option Rule) (v : Option Text) (h : Held) (waiting : Waiting) (word : Text) (words : List Text)
      → none_of (settle_fault rules false h) ≡ false → turned f v h waiting word words ≡ None
  turned_unsettled f v h waiting word words e =
      let met = after_flag rules waiting word (long_met rules f v h).0 (long_met rules f v h).1 in
      ap (λ b. if b then run rules (after_step rules word (at_walk h waiting false) met.0 met.1) words else None)
      (none_of_both (long_fault rules false f v h) (step_fault (top_with rules) 1 met.0 met.1)
      ∙ ap (λ b. b && none_of (step_fault (top_with rules) 1 met.0 met.1)) (fails_unsettled f v h e))

  nothing_used : (o : Option (List Row)) → then_use takes None o ≡ None
  nothing_used None = refl
  nothing_used (Some rows) = refl

  -- a piece that is used after what is settled
  says_step : (piece : Piece) (rest : Option (List Piece)) (rows after : List Row) (f g : Bool)
      → piece_use takes piece rows ≡ (if g then Some after else None)
      → (if (f && g) && true then use_of takes rest after else None) ≡ then_use takes (first_piece piece rest) (if f then Some rows else None)
  says_step piece rest rows after false g e = refl
  says_step piece rest rows after true g e =
      sym (sym (use_first takes piece rest rows) ∙ ap (option_and_then (use_of takes rest)) e ∙ go g)
    where
      go : (b : Bool) → option_and_then (use_of takes rest) (if b then Some after else None) ≡ (if b && true then use_of takes rest after else None)
      go true = refl
      go false = refl

  named_use_is : (name v : Text) (rows : List Row)
      → named_use name v rows ≡ (if not (has_row name rows) then Some (with_values name AsWritten CommandLine (v ∷ []) (without name rows)) else None)
  named_use_is name v rows = go (has_row name rows)
    where
      go : (b : Bool) → (if b then None else Some (with_values name AsWritten CommandLine (v ∷ []) (without name rows)))
          ≡ (if not b then Some (with_values name AsWritten CommandLine (v ∷ []) (without name rows)) else None)
      go true = refl
      go false = refl

  -- ---- a flag and an option among words before `--`

  flag_turn : (name word : Text) (words : List Text) (h : Held) (rest : Bool)
      → ((g : Held) (r : Bool) → run rules (at_walk g (resting r) false) words ≡ then_use takes (pieces_after options None words) (settled_rows_of rules g))
      → turned (Some (flag_rule name)) None h (resting rest) word words
      ≡ then_use takes (first_piece (flag name) (pieces_after options None words)) (settled_rows_of rules h)
  flag_turn name word words h rest later =
      let rows = (settled rules h).rows in
      let after = with_values name AsWritten CommandLine (codes "true" ∷ []) (without name rows) in
      ap₂ (λ (b : Bool) (r : Option (List Row)). if b then r else None)
      (none_of_both (or_else (settle_fault rules false h) (use_fault false (flag_rule name) [] rows)) []
      ∙ ap (λ b. b && true) (none_of_both (settle_fault rules false h) (use_fault false (flag_rule name) [] rows)
      ∙ ap (λ b. none_of (settle_fault rules false h) && b) (flag_use_fault name rows)))
      (later (reacted rules (flag_rule name) [] h) false)
      ∙ says_step (flag name) (pieces_after options None words) rows after (none_of (settle_fault rules false h)) (not (has_row name rows))
      (named_use_is name (codes "true") rows)

  option_turn : (required : Bool) (name v word : Text) (words : List Text) (h : Held) (rest : Bool)
      → ((g : Held) (r : Bool) → run rules (at_walk g (resting r) false) words ≡ then_use takes (pieces_after options None words) (settled_rows_of rules g))
      → nat_lt 0 (length v) ≡ is_value v
      → turned (Some (set_rule required name)) (Some v) h (resting rest) word words
      ≡ then_use takes (if is_value v then first_piece (option name v) (pieces_after options None words) else None) (settled_rows_of rules h)
  option_turn required name v word words h rest later whole =
      let rows = (settled rules h).rows in
      let after = with_values name AsWritten CommandLine (v ∷ []) (without name rows) in
      ap₂ (λ (b : Bool) (r : Option (List Row)). if b then r else None)
      (none_of_both (or_else (settle_fault rules false h) (use_fault false (set_rule required name) (v ∷ []) rows)) []
      ∙ ap (λ b. b && true) (none_of_both (settle_fault rules false h) (use_fault false (set_rule required name) (v ∷ []) rows)
      ∙ ap (λ b. none_of (settle_fault rules false h) && b) (set_use_fault required name v rows ∙ ap (λ b. not (has_row name rows) && b) whole)))
      (later (reacted rules (set_rule required name) (v ∷ []) h) false)
      ∙ go (is_value v)
    where
      go : (b : Bool) → (if (none_of (settle_fault rules false h) && (not (has_row name (settled rules h).rows) && b)) && true
          then use_of takes (pieces_after options None words) (with_values name AsWritten CommandLine (v ∷ []) (without name (settled rules h).rows)) else None)
          ≡ then_use takes (if b then first_piece (option name v) (pieces_after options None words) else None) (settled_rows_of rules h)
      go true =
          ap (λ c. if (none_of (settle_fault rules false h) && c) && true
          then use_of takes (pieces_after options None words) (with_values name AsWritten CommandLine (v ∷ []) (without name (settled rules h).rows)) else None)
          (and_true (not (has_row name (settled rules h).rows)))
          ∙ says_step (option name v) (pieces_after options None words) (settled rules h).rows
          (with_values name AsWritten CommandLine (v ∷ []) (without name (settled rules h).rows))
          (none_of (settle_fault rules false h)) (not (has_row name (settled rules h).rows)) (named_use_is name v (settled rules h).rows)
      go false =
          ap (λ c. if c then use_of takes (pieces_after options None words) (with_values name AsWritten CommandLine (v ∷ []) (without name (settled rules h).rows)) else None)
          (and_true _ ∙ ap (λ c. none_of (settle_fault rules false h) && c) (and_false (not (has_row name (settled rules h).rows))) ∙ and_false (none_of (settle_fault rules false h)))
          ∙ sym (nothing_used (settled_rows_of rules h))

  awaits_turn : (required : Bool) (name word : Text) (words : List Text) (h : Held) (rest : Bool)
      → run rules (at_walk (record { rows = (settled rules h).rows; pending = Some (name, []); skip = h.skip }) (for_option name) false) words
      ≡ use_of takes (pieces_after options (Some name) words) (settled rules h).rows
      → turned (Some (set_rule required name)) None h (resting rest) word words
      ≡ then_use takes (pieces_after options (Some name) words) (settled_rows_of rules h)
  awaits_turn required name word words h rest later =
      ap₂ (λ (b : Bool) (r : Option (List Row)). if b then r else None)
      (none_of_both (settle_fault rules false h) [] ∙ and_true (none_of (settle_fault rules false h))) later
      ∙ go (none_of (settle_fault rules false h))
    where
      go : (b : Bool) → (if b then use_of takes (pieces_after options (Some name) words) (settled rules h).rows else None)
          ≡ then_use takes (pieces_after options (Some name) words) (if b then Some (settled rules h).rows else None)
      go true = refl
      go false = refl

  -- ---- the claims, over all words

  -- words that are not barred
  abbrev Clear : List Text → Type 0
  Clear words = has_barred words ≡ false

  -- with nothing awaited
  abbrev AtRest : List Text → Type 0
  AtRest words = (h : Held) (rest : Bool) → Clear words
      → run rules (at_walk h (resting rest) false) words ≡ then_use takes (pieces_after options None words) (settled_rows_of rules h)

  -- with an option that awaits its value
  abbrev Awaiting : List Text → Type 0
  Awaiting words = (rows : List Row) (skip : ℕ) (name : Text) (required : Bool) → arg_by_id rules name ≡ Some (set_rule required name) → Clear words
      → run rules (at_walk (record { rows = rows; pending = Some (name, []); skip = skip }) (for_option name) false) words
      ≡ use_of takes (pieces_after options (Some name) words) rows

  -- one turn
  abbrev TurnsAtRest : Text → Type 0
  TurnsAtRest word = (words : List Text) (h : Held) (rest : Bool) → is_barred word ≡ false
      → ((g : Held) (r : Bool) → run rules (at_walk g (resting r) false) words ≡ then_use takes (pieces_after options None words) (settled_rows_of rules g))
      → Awaiting words → Clear words
      → run rules (at_walk h (resting rest) false) (word ∷ words) ≡ then_use takes (pieces_after options None (word ∷ words)) (settled_rows_of rules h)

  no_word_with_dash : (word : Text) → after_dash word ≡ None → meaning_of_word options word ≡ says (positional word)
  no_word_with_dash word e = ap (word_meaning options word) e

  plain_at_rest : (rest : Bool) (word : Text) (h : Held) → plain_word rules (resting rest) word h ≡ (h, value)
  plain_at_rest true word h = refl
  plain_at_rest false word h = refl

  plain_turn : (word : Text) → after_dash word ≡ None → TurnsAtRest word
  unfolding pieces_after
  plain_turn word e words h rest clear later awaiting clears =
      positional_turn h false word words (resting rest) (pieces_after options None words)
      (plain_fault rules (resting rest) word h e) (plain_met rules (resting rest) word h e ∙ plain_at_rest rest word h)
      (λ y. later (pushed positional_id word (settled rules h)) true)
      ∙ ap (λ m. then_use takes (pieces_from m words (λ awaited. pieces_after options awaited words)) (settled_rows_of rules h)) (sym (no_word_with_dash word e))

  -- a value that does not begin with a dash is one, unless it is empty
  whole_value : (v : Text) → is_some (after_dash v) ≡ false → nat_lt 0 (length v) ≡ is_value v
  whole_value [] e = refl
  whole_value (x ∷ xs) e = go (x == 45) e
    where
      go : (b : Bool) → is_some (if b then Some xs else None) ≡ false → nat_lt 0 (length (x ∷ xs)) ≡ not b
      go true bad = absurd (false≢true (sym bad))
      go false fine = leb-suc-suc 0 (length xs) ∙ leb-zero (length xs)

  named_turn : (b : ℕ) (bs : Text) → TurnsAtRest (45 ∷ 45 ∷ b ∷ bs)
  unfolding pieces_after
  named_turn b bs words h rest clear later awaiting clears =
      run_named b bs words h (resting rest) ∙ go (option_named options (name_in (b ∷ bs))) refl (value_in (b ∷ bs)) refl
    where
      name : Text
      name = name_in (b ∷ bs)

      meaning_if : (v : Text) (c : Bool) → pieces_from (if c then says (option name v) else refused) words (λ awaited. pieces_after options awaited words)
          ≡ (if c then first_piece (option name v) (pieces_after options None words) else None)
      meaning_if v true = refl
      meaning_if v false = refl

      whole : (v : Text) → value_in (b ∷ bs) ≡ Some v → nat_lt 0 (length v) ≡ is_value v
      whole v is = whole_value v (sym (ap (λ o. option_map_or (λ value. is_some (after_dash value)) o false) is) ∙ clear)

      by_kind : (kind : OptionKind) (v : Option Text) → value_in (b ∷ bs) ≡ v → arg_by_id rules name ≡ Some (filled_kind kind name)
          → turned (Some (filled_kind kind name)) v h (resting rest) (45 ∷ 45 ∷ b ∷ bs) words
          ≡ then_use takes (pieces_from (kind_meaning kind name v) words (λ awaited. pieces_after options awaited words)) (settled_rows_of rules h)
      by_kind Flag None is at = flag_turn name (45 ∷ 45 ∷ b ∷ bs) words h rest later
      by_kind Flag (Some v) is at = sym (nothing_used (settled_rows_of rules h))
      by_kind Needed None is at =
          awaits_turn true name (45 ∷ 45 ∷ b ∷ bs) words h rest (awaiting (settled rules h).rows h.skip name true at clears)
      by_kind Needed (Some v) is at =
          option_turn true name v (45 ∷ 45 ∷ b ∷ bs) words h rest later (whole v is)
          ∙ ap (λ p. then_use takes p (settled_rows_of rules h)) (sym (meaning_if v (is_value v)))
      by_kind Optional None is at =
          awaits_turn false name (45 ∷ 45 ∷ b ∷ bs) words h rest (awaiting (settled rules h).rows h.skip name false at clears)
      by_kind Optional (Some v) is at =
          option_turn false name v (45 ∷ 45 ∷ b ∷ bs) words h rest later (whole v is)
          ∙ ap (λ p. then_use takes p (settled_rows_of rules h)) (sym (meaning_if v (is_value v)))

      go : (f : Option CommandOption) → option_named options name ≡ f → (v : Option Text) → value_in (b ∷ bs) ≡ v
          → turned (option_map filled_option f) v h (resting rest) (45 ∷ 45 ∷ b ∷ bs) words
          ≡ then_use takes (pieces_from (found_meaning f name v) words (λ awaited. pieces_after options awaited words)) (settled_rows_of rules h)
      go None e v is = sym (nothing_used (settled_rows_of rules h))
      go (Some o) e v is =
          ap (λ own. turned (Some (filled_kind o.kind own)) v h (resting rest) (45 ∷ 45 ∷ b ∷ bs) words) (named_is options name o e)
          ∙ by_kind o.kind v is (found.id name o e ∙ ap (λ own. Some (filled_kind o.kind own)) (named_is options name o e))

  turn_at_rest : (word : Text) → TurnsAtRest word
  unfolding pieces_after
  turn_at_rest = by_dashes TurnsAtRest plain_turn
      (λ rest e words h r clear later awaiting clears. absurd (false≢true (sym clear ∙ one_dash_barred rest e)))
      (λ words h rest clear later awaiting clears. run_dashes words h (resting rest))
      named_turn

  -- a turn with an option that awaits its value
  abbrev TurnsAwaiting : Text → Type 0
  TurnsAwaiting word = (words : List Text) (rows : List Row) (skip : ℕ) (name : Text) (required : Bool) → arg_by_id rules name ≡ Some (set_rule required name)
      → is_barred word ≡ false
      → ((g : Held) (r : Bool) → run rules (at_walk g (resting r) false) words ≡ then_use takes (pieces_after options None words) (settled_rows_of rules g))
      → run rules (at_walk (record { rows = rows; pending = Some (name, []); skip = skip }) (for_option name) false) (word ∷ words)
      ≡ use_of takes (pieces_after options (Some name) (word ∷ words)) rows

  -- it fails unless the next word is its value
  awaiting_fails : (rows : List Row) (skip : ℕ) (name : Text) (required : Bool) → arg_by_id rules name ≡ Some (set_rule required name)
      → none_of (settle_fault rules false (record { rows = rows; pending = Some (name, []); skip = skip })) ≡ false
  awaiting_fails rows skip name required at =
      ap (λ (f : Option Rule). none_of (option_map_or (λ a. use_fault false a [] rows) f [])) at

  awaiting_rows : (rows : List Row) (skip : ℕ) (name : Text) (required : Bool) → arg_by_id rules name ≡ Some (set_rule required name)
      → settled_rows_of rules (record { rows = rows; pending = Some (name, []); skip = skip }) ≡ None
  awaiting_rows rows skip name required at =
      ap (λ (b : Bool). if b then Some (settled rules (record { rows = rows; pending = Some (name, []); skip = skip })).rows else None)
      (awaiting_fails rows skip name required at)

  value_met : (rows : List Row) (skip : ℕ) (name word : Text) (required : Bool) → arg_by_id rules name ≡ Some (set_rule required name)
      → plain_word rules (for_option name) word (record { rows = rows; pending = Some (name, []); skip = skip })
      ≡ (record { rows = rows; pending = Some (name, word ∷ []); skip = skip }, next idle)
  value_met rows skip name word required at =
      ap (λ (f : Option Rule). let met = option_word f name word (record { rows = rows; pending = Some (name, []); skip = skip }) in (met.0, next met.1)) at
      ∙ ap (λ (b : Bool). (record { rows = rows; pending = Some (name, word ∷ []); skip = skip }, next (if nat_lt (if b then 1 else 0) 1 then for_option name else idle)))
      ((bytes_eq-Decides name name).1 refl)

  value_rows : (rows : List Row) (skip : ℕ) (name word : Text) (required : Bool) → arg_by_id rules name ≡ Some (set_rule required name)
      → settled_rows_of rules (record { rows = rows; pending = Some (name, word ∷ []); skip = skip })
      ≡ (if not (has_row name rows) && nat_lt 0 (length word) then Some (with_values name AsWritten CommandLine (word ∷ []) (without name rows)) else None)
  value_rows rows skip name word required at =
      ap (λ (f : Option Rule). if none_of (option_map_or (λ a. use_fault false a (word ∷ []) rows) f []) then Some (used_by_id f (word ∷ []) rows) else None) at
      ∙ ap (λ (b : Bool). if b then Some (with_values name AsWritten CommandLine (word ∷ []) (without name rows)) else None) (set_use_fault required name word rows)

  value_turn : (word : Text) → after_dash word ≡ None → TurnsAwaiting word
  unfolding pieces_after
  value_turn word e words rows skip name required at clear later =
      let h : Held = record { rows = rows; pending = Some (name, []); skip = skip } in
      let g : Held = record { rows = rows; pending = Some (name, word ∷ []); skip = skip } in
      run_by rules h (for_option name) false word words [] (g, next idle)
      (plain_fault rules (for_option name) word h e) (plain_met rules (for_option name) word h e ∙ value_met rows skip name word required at)
      ∙ later g false
      ∙ ap (then_use takes (pieces_after options None words))
      (value_rows rows skip name word required at ∙ ap (λ b. if not (has_row name rows) && b then Some (with_values name AsWritten CommandLine (word ∷ []) (without name rows)) else None)
      (whole_value word (ap is_some e)))
      ∙ go (is_value word)
    where
      go : (b : Bool) → then_use takes (pieces_after options None words)
          (if not (has_row name rows) && b then Some (with_values name AsWritten CommandLine (word ∷ []) (without name rows)) else None)
          ≡ use_of takes (if b then first_piece (option name word) (pieces_after options None words) else None) rows
      go true =
          ap (λ c. then_use takes (pieces_after options None words) (if c then Some (with_values name AsWritten CommandLine (word ∷ []) (without name rows)) else None))
          (and_true (not (has_row name rows)))
          ∙ ap (then_use takes (pieces_after options None words)) (sym (named_use_is name word rows))
          ∙ use_first takes (option name word) (pieces_after options None words) rows
      go false =
          ap (λ c. then_use takes (pieces_after options None words) (if c then Some (with_values name AsWritten CommandLine (word ∷ []) (without name rows)) else None))
          (and_false (not (has_row name rows)))

  turn_awaiting : (word : Text) → TurnsAwaiting word
  unfolding pieces_after
  turn_awaiting = by_dashes TurnsAwaiting value_turn
      (λ rest e words rows skip name required at clear later. absurd (false≢true (sym clear ∙ one_dash_barred rest e)))
      (λ words rows skip name required at clear later.
      run_dashes words (record { rows = rows; pending = Some (name, []); skip = skip }) (for_option name)
      ∙ ap (then_use takes (Some (map positional words))) (awaiting_rows rows skip name required at))
      (λ b bs words rows skip name required at clear later.
      run_named b bs words (record { rows = rows; pending = Some (name, []); skip = skip }) (for_option name)
      ∙ turned_unsettled (option_map filled_option (option_named options (name_in (b ∷ bs)))) (value_in (b ∷ bs)) (record { rows = rows; pending = Some (name, []); skip = skip }) (for_option name) (45 ∷ 45 ∷ b ∷ bs) words
      (awaiting_fails rows skip name required at))

  -- words after a word that is not `--`
  barred_first : (word : Text) (words : List Text) → ends_options word ≡ false → has_barred (word ∷ words) ≡ (is_barred word || has_barred words)
  barred_first word words e =
      ap (λ b. list_any is_barred (take (cond (not b) (1 + position_or_len ends_options words) 0) (word ∷ words))) e
      ∙ ap (λ n. list_any is_barred (take n (word ∷ words))) (one-add (position_or_len ends_options words))

  or_none : (a b : Bool) → (a || b) ≡ false → (a ≡ false) × (b ≡ false)
  or_none true b e = absurd (false≢true (sym e))
  or_none false b e = (refl, e)

  pub walks : (words : List Text) → AtRest words × Awaiting words
  unfolding run pieces_after
  walks [] = (
    λ h rest clear. rested (settled_rows_of rules h),
    λ rows skip name required at clear. awaiting_rows rows skip name required at,
  )
    where
      rested : (o : Option (List Row)) → o ≡ then_use takes (Some []) o
      rested None = refl
      rested (Some rows) = refl
  walks (word ∷ words) = step (walks words) (ends_options word) refl
    where
      step : AtRest words × Awaiting words → (b : Bool) → ends_options word ≡ b → AtRest (word ∷ words) × Awaiting (word ∷ words)
      step later true e =
          let is : word ≡ codes "--" = (bytes_eq-Decides word (codes "--")).0 e in
          subst (λ w. AtRest (w ∷ words) × Awaiting (w ∷ words)) (sym is) (
            λ h rest clear. run_dashes words h (resting rest),
            λ rows skip name required at clear.
                run_dashes words (record { rows = rows; pending = Some (name, []); skip = skip }) (for_option name)
                ∙ ap (then_use takes (Some (map positional words))) (awaiting_rows rows skip name required at),
          )
      step later false e = (
        λ h rest clear.
            let parts = or_none (is_barred word) (has_barred words) (sym (barred_first word words e) ∙ clear) in
            turn_at_rest word words h rest parts.0 (λ g r. later.0 g r parts.1) later.1 parts.1,
        λ rows skip name required at clear.
            let parts = or_none (is_barred word) (has_barred words) (sym (barred_first word words e) ∙ clear) in
            turn_awaiting word words rows skip name required at parts.0 (λ g r. later.0 g r parts.1),
      )
