-- What `clap` makes of the words of a shape is what the words give.
use Rattle.std.proofs.Common.{◌≡◌, ◌∙◌, inl, inr, sym, ap, ap₂, refl, subst, Bool, true, false, not, cond, ◌&&◌, ◌||◌, List, [], ◌∷◌, map, fold, Option, Some, None, filter_map, option_and_then, if◌then◌else◌}
use Rattle.std.specs.List.{list_all}
use Rattle.std.specs.Option.{option_map_or}
use Rattle.std.specs.Str.{bytes_eq}
use Rattle.std.proofs.lemmas.Bool.{false≢true}
use Rattle.clap.specs.Walk.{Held, finished, nothing_held, settled, walk, walk_from, with_default}
use Rattle.clap.specs.Words.{App, HasKind, HasMatchesOf, IsAmong, Row, fault_of, found_of, is_simple, is_simple_and_free, kind_of, matches_of, rows_of}
use Rattle.clap.specs.declared.error.Error.{Error}
use Rattle.clap.specs.declared.error.kind.ErrorKind.{ErrorKind}
use Rattle.clap.specs.declared.error.kind.ErrorKind.TheVariants.{OutOfMemory}
use Rattle.clap.specs.declared.parser.matches.ArgMatches.{ArgMatches}
use Rattle.clap.specs.Kinds.{Kinds, or_else}
use Rattle.clap.specs.Simple.{label_of}
use Rattle.clap.specs.Faults.{built_fault, check_fault, defaults_fault, settle_fault, walk_fault}
use Rattle.clap.proofs.FaultLemmas.{leaf_fault}
use Rattle.sb_words.specs.declared.shape.OptionKind.{OptionKind}
use Rattle.sb_words.specs.declared.shape.OptionKind.TheVariants.{Needed, Optional, Flag}
use Rattle.sb_words.specs.CommandLine.{after_dash, awaits, CommandOption, CommandShape, dashed_meaning, ends, first_piece, found_meaning, Given, given_by, given_of, has_no_repeat, has_none, has_plain_names, is_supplied, is_value, kind_meaning, Meaning, meaning_of_word, name_in, named_of, option, option_meaning, option_named, Piece, pieces_after, pieces_from, positional, positionals_of, refused, says, Text, value_in, word_meaning}
use Rattle.sb_words.specs.Barred.{has_barred}
use Rattle.sb_words.specs.Rows.{FindsValues, given_in, positional_id, row_named}
use Rattle.sb_words.specs.ClapCommand.{app_for}
use Rattle.sb_words.proofs.Barring.{barred_says_nothing}
use Rattle.sb_words.proofs.Rules.{built_is, built_with, filled_rules, simple, simple_and_free, top_with}
use Rattle.sb_words.proofs.Lookups.{both_true, finds, named_is, plain_name}
use Rattle.sb_words.specs.ClapCommand.{none_of}
use Rattle.sb_words.proofs.Run.{none_of_both, pieces_use, run_is, settled_rows_of, use_of}
use Rattle.sb_words.proofs.Walking.{walks}
use Rattle.sb_words.proofs.Gathering.{Holds, Uses, all_explicit, all_used, is_plain_piece, unused, used}
use Rattle.sb_words.proofs.Endings.{check_is, finds_values, finished_says_same, fresh_from_start, no_default_fault}

-- ---- the names in pieces are names of the shape

abbrev all_plain : Option (List Piece) → Bool
all_plain pieces = option_map_or (list_all is_plain_piece) pieces true

plain_first : (piece : Piece) (pieces : Option (List Piece)) → is_plain_piece piece ≡ true → all_plain pieces ≡ true → all_plain (first_piece piece pieces) ≡ true
plain_first piece None p ps = refl
plain_first piece (Some xs) p ps = ap₂ (λ a b. a && b) p ps

plain_positionals : (words : List Text) → list_all is_plain_piece (map positional words) ≡ true
plain_positionals [] = refl
plain_positionals (word ∷ words) = plain_positionals words

module _ (options : List CommandOption) (plain : list_all (λ o. is_value o.name) options ≡ true) where
  -- a name that finds an option
  abbrev IsPlain : Text → Type 0
  IsPlain name = bytes_eq name positional_id ≡ false

  plain_found : (some : List CommandOption) → list_all (λ o. is_value o.name) some ≡ true → (name : Text) (o : CommandOption) → option_named some name ≡ Some o → is_value o.name ≡ true
  plain_found [] all name o e = cc
  plain_found (x ∷ some) all name o e =
      let parts = both_true (is_value x.name) _ all in
      go (bytes_eq x.name name) refl parts.0 (λ f. plain_found some parts.1 name o f)
    where
      go : (b : Bool) → bytes_eq x.name name ≡ b → is_value x.name ≡ true → (option_named some name ≡ Some o → is_value o.name ≡ true) → is_value o.name ≡ true
      go true t own later =
          let same : Some x ≡ Some o = sym (ap (λ b. cond b (Some x) (option_named some name)) t) ∙ e in
          let one : x ≡ o = cc in
          ap (λ (y : CommandOption). is_value y.name) (sym one) ∙ own
      go false t own later = later (sym (ap (λ b. cond b (Some x) (option_named some name)) t) ∙ e)

  name_is_plain : (name : Text) (o : CommandOption) → option_named options name ≡ Some o → IsPlain name
  name_is_plain name o e = plain_name name (ap is_value (sym (named_is options name o e)) ∙ plain_found options plain name o e)

  -- what a meaning may name
  PlainMeaning : Meaning → Type 0
  PlainMeaning (says piece) = is_plain_piece piece ≡ true
  PlainMeaning (awaits name) = IsPlain name
  PlainMeaning ends = Unit {0}
  PlainMeaning refused = Unit {0}

  plain_value : (name v : Text) (b : Bool) → IsPlain name → PlainMeaning (if b then says (option name v) else refused)
  unfolding PlainMeaning
  plain_value name v true p = ap not p
  plain_value name v false p = tt

  plain_kind : (kind : OptionKind) (name : Text) (v : Option Text) → IsPlain name → PlainMeaning (kind_meaning kind name v)
  unfolding PlainMeaning
  plain_kind Flag name None p = ap not p
  plain_kind Flag name (Some v) p = tt
  plain_kind Needed name None p = p
  plain_kind Needed name (Some v) p = plain_value name v (is_value v) p
  plain_kind Optional name None p = p
  plain_kind Optional name (Some v) p = plain_value name v (is_value v) p

  plain_option : (text : Text) → PlainMeaning (option_meaning options text)
  unfolding PlainMeaning
  plain_option [] = tt
  plain_option (b ∷ bs) = go (option_named options (name_in (b ∷ bs))) refl
    where
      go : (f : Option CommandOption) → option_named options (name_in (b ∷ bs)) ≡ f → PlainMeaning (found_meaning f (name_in (b ∷ bs)) (value_in (b ∷ bs)))
      go None e = tt
      go (Some o) e = plain_kind o.kind (name_in (b ∷ bs)) (value_in (b ∷ bs)) (name_is_plain (name_in (b ∷ bs)) o e)

  plain_dashed : (rest : Option Text) → PlainMeaning (dashed_meaning options rest)
  unfolding PlainMeaning
  plain_dashed None = tt
  plain_dashed (Some text) = plain_option text

  plain_word : (word : Text) (rest : Option Text) → PlainMeaning (word_meaning options word rest)
  unfolding PlainMeaning
  plain_word word None = refl
  plain_word word (Some rest) = plain_dashed (after_dash rest)

  abbrev IsPlainAwaited : Option Text → Type 0
  IsPlainAwaited None = Unit {0}
  IsPlainAwaited (Some name) = IsPlain name

  pub plain_pieces : (words : List Text) (awaited : Option Text) → IsPlainAwaited awaited → all_plain (pieces_after options awaited words) ≡ true
  unfolding pieces_after PlainMeaning
  plain_pieces [] None p = refl
  plain_pieces [] (Some name) p = refl
  plain_pieces (word ∷ words) (Some name) p = go (is_value word) (plain_pieces words None tt)
    where
      go : (b : Bool) → all_plain (pieces_after options None words) ≡ true
          → all_plain (if b then first_piece (option name word) (pieces_after options None words) else None) ≡ true
      go true later = plain_first (option name word) _ (ap not p) later
      go false later = refl
  plain_pieces (word ∷ words) None p = go (meaning_of_word options word) (plain_word word (after_dash word)) (λ a q. plain_pieces words a q)
    where
      go : (m : Meaning) → PlainMeaning m → ((a : Option Text) → IsPlainAwaited a → all_plain (pieces_after options a words) ≡ true)
          → all_plain (pieces_from m words (λ a. pieces_after options a words)) ≡ true
      go (says piece) q later = plain_first piece _ q (later None tt)
      go (awaits name) q later = later (Some name) q
      go ends q later = plain_positionals words
      go refused q later = refl

-- ---- what the rows of pieces give

abbrev given_if : CommandShape → List Row → Option Given
given_if shape rows =
    if list_all (is_supplied (filter_map row_named rows)) shape.options then Some (given_in rows) else None

nothing_yet : Holds [] [] []
nothing_yet = record { named_is = refl; positionals_is = refl; explicit = refl; finds = λ name plain. refl }

both_and : (a b c : Bool) → (a && c) ≡ true → (a && (b && c)) ≡ b
both_and true true c e = e
both_and true false c e = refl
both_and false b c e = absurd (false≢true e)

not_both_and : (a b c : Bool) → (a && c) ≡ false → (a && (b && c)) ≡ false
not_both_and true true c e = e
not_both_and true false c e = refl
not_both_and false b c e = refl

given_use : (shape : CommandShape) (pieces : List Piece) → Uses shape.takes_positionals pieces [] [] []
    → given_by shape pieces ≡ option_and_then (given_if shape) (pieces_use shape.takes_positionals pieces [])
given_use shape pieces (used rows is ok holds) =
    ap (λ b. if b then Some (record { named = named_of pieces; positionals = positionals_of pieces }) else None)
    (both_and (has_no_repeat (named_of pieces)) (list_all (is_supplied (named_of pieces)) shape.options) _
    (sym (ap (λ b. b && (shape.takes_positionals || has_none (positionals_of pieces))) (fresh_from_start (named_of pieces))) ∙ ok))
    ∙ sym (ap (option_and_then (given_if shape)) is
    ∙ ap₂ (λ named positionals. if list_all (is_supplied named) shape.options then Some (record { named = named; positionals = positionals }) else None)
    holds.named_is holds.positionals_is)
given_use shape pieces (unused is fails) =
    ap (λ b. if b then Some (record { named = named_of pieces; positionals = positionals_of pieces }) else None)
    (not_both_and (has_no_repeat (named_of pieces)) (list_all (is_supplied (named_of pieces)) shape.options) _
    (sym (ap (λ b. b && (shape.takes_positionals || has_none (positionals_of pieces))) (fresh_from_start (named_of pieces))) ∙ fails))
    ∙ sym (ap (option_and_then (given_if shape)) is)

explicit_use : (takes : Bool) (pieces : List Piece) (rows : List Row) → Uses takes pieces [] [] [] → pieces_use takes pieces [] ≡ Some rows → all_explicit rows ≡ true
explicit_use takes pieces rows (used after is ok holds) e =
    let same : Some after ≡ Some rows = sym is ∙ e in
    let one : after ≡ rows = cc in
    ap all_explicit (sym one) ∙ holds.explicit
explicit_use takes pieces rows (unused is fails) e =
    let bad : None ≡ Some rows = sym is ∙ e in
    cc

given_of_use : (shape : CommandShape) (pieces : Option (List Piece)) → all_plain pieces ≡ true
    → option_and_then (given_by shape) pieces ≡ option_and_then (given_if shape) (use_of shape.takes_positionals pieces [])
given_of_use shape None plain = refl
given_of_use shape (Some pieces) plain = given_use shape pieces (all_used shape.takes_positionals pieces [] [] [] plain nothing_yet)

explicit_of_use : (takes : Bool) (pieces : Option (List Piece)) (rows : List Row) → all_plain pieces ≡ true → use_of takes pieces [] ≡ Some rows → all_explicit rows ≡ true
explicit_of_use takes None rows plain e = cc
explicit_of_use takes (Some pieces) rows plain e = explicit_use takes pieces rows (all_used takes pieces [] [] [] plain nothing_yet) e

-- ---- the whole reading

-- what `clap` answers, by the faults of its walk and of what follows
walk_answer : (shape : CommandShape) (rows : List Row) (a b d : Bool) → has_plain_names shape ≡ true → d ≡ true
    → ((if a then (if b then Some rows else None) else None) ≡ Some rows → all_explicit rows ≡ true)
    → option_and_then (given_if shape) (if a then (if b then Some rows else None) else None)
    ≡ (if a && (b && (d && none_of (check_fault (top_with (filled_rules shape)) (fold with_default rows (filled_rules shape)) false)))
    then Some (given_in (fold with_default rows (filled_rules shape))) else None)
walk_answer shape rows false b d plain e explicit = refl
walk_answer shape rows true false d plain e explicit = refl
walk_answer shape rows true true d plain e explicit =
    let same = finished_says_same shape rows plain in
    sym (ap (λ c. if c && none_of (check_fault (top_with (filled_rules shape)) (fold with_default rows (filled_rules shape)) false)
    then Some (given_in (fold with_default rows (filled_rules shape))) else None) e
    ∙ ap₂ (λ c given. if c then Some given else None) (check_is shape rows plain (explicit refl))
    (ap₂ (λ named positionals. record { named = named; positionals = positionals }) same.named same.positionals))

level_is : (wf sf df cf : Kinds) → none_of (or_else wf (or_else [] (or_else sf (or_else df cf)))) ≡ (none_of wf && (none_of sf && (none_of df && none_of cf)))
level_is wf sf df cf =
    none_of_both wf (or_else sf (or_else df cf))
    ∙ ap (λ b. none_of wf && b) (none_of_both sf (or_else df cf) ∙ ap (λ b. none_of sf && b) (none_of_both df cf))

-- the end of the walk
abbrev end_of : CommandShape → List Text → Held
end_of shape words = (walk (filled_rules shape) [] nothing_held words).held

fault_is : (shape : CommandShape) (words : List Text)
    → none_of (fault_of (app_for shape) words)
    ≡ (none_of (walk_fault (top_with (filled_rules shape)) [] (walk_from nothing_held) words)
    && (none_of (settle_fault (filled_rules shape) false (end_of shape words))
    && (none_of (defaults_fault (settled (filled_rules shape) (end_of shape words)).rows (filled_rules shape))
    && none_of (check_fault (top_with (filled_rules shape)) (finished (filled_rules shape) (end_of shape words)) false))))
fault_is shape words =
    ap (λ (a : App). none_of (built_fault a nothing_held words)) (built_is shape)
    ∙ ap none_of (leaf_fault (built_with (filled_rules shape)) nothing_held words refl)
    ∙ level_is (walk_fault (top_with (filled_rules shape)) [] (walk_from nothing_held) words)
    (settle_fault (filled_rules shape) false (end_of shape words))
    (defaults_fault (settled (filled_rules shape) (end_of shape words)).rows (filled_rules shape))
    (check_fault (top_with (filled_rules shape)) (finished (filled_rules shape) (end_of shape words)) false)

matches_are : (shape : CommandShape) (words : List Text) → matches_of (app_for shape) words ≡ finished (filled_rules shape) (end_of shape words)
matches_are shape words = ap (λ (a : App). finished a.top.rules (walk a.top.rules (map label_of a.subs) nothing_held words).held) (built_is shape)

-- Words of which none is barred give what `clap` finds, where it finds no fault.
pub reads : (shape : CommandShape) (words : List Text) → has_plain_names shape ≡ true → has_barred words ≡ false
    → given_of shape words ≡ (if none_of (fault_of (app_for shape) words) then Some (given_in (matches_of (app_for shape) words)) else None)
unfolding given_of
reads shape words plain clear =
    let rules = filled_rules shape in
    let pieces = pieces_after shape.options None words in
    let takes = shape.takes_positionals in
    let walked_to : use_of takes pieces []
    ≡ (if none_of (walk_fault (top_with rules) [] (walk_from nothing_held) words)
    then settled_rows_of rules (end_of shape words) else None) =
    sym ((walks shape.options takes rules (finds shape plain) words).0 nothing_held false clear) ∙ run_is rules (walk_from nothing_held) words in
    let named = plain_pieces shape.options plain words None tt in
    given_of_use shape pieces named
    ∙ ap (option_and_then (given_if shape)) walked_to
    ∙ walk_answer shape (settled rules (end_of shape words)).rows _ _ (none_of (defaults_fault (settled rules (end_of shape words)).rows rules)) plain
    (ap none_of (no_default_fault shape.options takes (settled rules (end_of shape words)).rows))
    (λ e. explicit_of_use takes pieces (settled rules (end_of shape words)).rows named (walked_to ∙ e))
    ∙ sym (ap₂ (λ b rows. if b then Some (given_in rows) else None) (fault_is shape words) (matches_are shape words))

-- ---- and a name finds its value

rows_hold : (takes : Bool) (pieces : List Piece) (rows : List Row) → Uses takes pieces [] [] [] → pieces_use takes pieces [] ≡ Some rows
    → Holds rows (named_of pieces) (positionals_of pieces)
rows_hold takes pieces rows (used after is ok holds) e =
    let same : Some after ≡ Some rows = sym is ∙ e in
    let one : after ≡ rows = cc in
    subst (λ r. Holds r (named_of pieces) (positionals_of pieces)) one holds
rows_hold takes pieces rows (unused is fails) e =
    let bad : None ≡ Some rows = sym is ∙ e in
    cc

finds_of_use : (shape : CommandShape) (pieces : Option (List Piece)) (rows : List Row) → has_plain_names shape ≡ true → all_plain pieces ≡ true
    → use_of shape.takes_positionals pieces [] ≡ Some rows → FindsValues (fold with_default rows (filled_rules shape))
finds_of_use shape None rows plain named e = cc
finds_of_use shape (Some pieces) rows plain named e =
    finds_values shape rows (named_of pieces) (positionals_of pieces) plain
    (rows_hold shape.takes_positionals pieces rows (all_used shape.takes_positionals pieces [] [] [] named nothing_yet) e)

first_two : (a b c : Bool) → (a && (b && c)) ≡ true → (a ≡ true) × (b ≡ true)
first_two true true c e = (refl, refl)
first_two true false c e = absurd (false≢true e)
first_two false b c e = absurd (false≢true e)

pub reads_find : (shape : CommandShape) (words : List Text) → has_plain_names shape ≡ true → has_barred words ≡ false
    → none_of (fault_of (app_for shape) words) ≡ true → FindsValues (matches_of (app_for shape) words)
reads_find shape words plain clear passed =
    let rules = filled_rules shape in
    let pieces = pieces_after shape.options None words in
    let parts = first_two _ _ _ (sym (fault_is shape words) ∙ passed) in
    let walked_to : use_of shape.takes_positionals pieces [] ≡ Some (settled rules (end_of shape words)).rows =
    sym ((walks shape.options shape.takes_positionals rules (finds shape plain) words).0 nothing_held false clear)
    ∙ run_is rules (walk_from nothing_held) words
    ∙ ap₂ (λ (a b : Bool). if a then (if b then Some (settled rules (end_of shape words)).rows else None) else None) parts.0 parts.1 in
    subst FindsValues (sym (matches_are shape words))
    (finds_of_use shape pieces (settled rules (end_of shape words)).rows plain (plain_pieces shape.options plain words None tt) walked_to)

-- ---- by what the code finds

pub barred_gives_nothing : (shape : CommandShape) (words : List Text) → has_barred words ≡ true → None ≡ given_of shape words
unfolding given_of
barred_gives_nothing shape words bar = sym (ap (option_and_then (given_by shape)) (barred_says_nothing shape.options words None bar))

-- what a parse that passes gives
pub matches_give : (shape : CommandShape) (words : List Text) (app : App) (m : ArgMatches) → has_plain_names shape ≡ true → has_barred words ≡ false → app ≡ app_for shape
    → HasMatchesOf app words m → (is_simple_and_free app ≡ true → fault_of app words ≡ [])
    → (Some (given_in (rows_of (found_of m))) ≡ given_of shape words) × FindsValues (rows_of (found_of m))
matches_give shape words app m plain clear is matches kinds =
    let no_fault : fault_of (app_for shape) words ≡ [] =
    ap (λ (a : App). fault_of a words) (sym is) ∙ kinds (ap is_simple_and_free is ∙ simple_and_free shape) in
    let rows : rows_of (found_of m) ≡ matches_of (app_for shape) words =
    (matches (ap is_simple is ∙ simple shape)).0 ∙ ap (λ (a : App). matches_of a words) is in (
      ap (λ rs. Some (given_in rs)) rows
          ∙ sym (reads shape words plain clear
          ∙ ap (λ (k : Kinds). if none_of k then Some (given_in (matches_of (app_for shape) words)) else None) no_fault),
      subst FindsValues (sym rows) (reads_find shape words plain clear (ap none_of no_fault)),
    )

some_among : (k : ErrorKind) (kinds : Kinds) → IsAmong k kinds → none_of kinds ≡ false
some_among k [] among = absurd among
some_among k (x ∷ kinds) among = refl

-- and one that fails for another cause than memory
pub fault_gives_nothing : (shape : CommandShape) (words : List Text) (app : App) (e : Error) → has_plain_names shape ≡ true → has_barred words ≡ false → app ≡ app_for shape
    → (is_simple_and_free app ≡ true → HasKind (fault_of app words) e) → (kind_of e ≡ OutOfMemory → ⊥) → None ≡ given_of shape words
fault_gives_nothing shape words app e plain clear is kinds other =
    sym (reads shape words plain clear
    ∙ ap (λ b. if b then Some (given_in (matches_of (app_for shape) words)) else None)
    (ap (λ (a : App). none_of (fault_of a words)) (sym is) ∙ go (kinds (ap is_simple_and_free is ∙ simple_and_free shape))))
  where
    go : HasKind (fault_of app words) e → none_of (fault_of app words) ≡ false
    go (inl memory) = absurd (other memory)
    go (inr among) = some_among (kind_of e) (fault_of app words) among
