-- What the getters of matches read, by the rows.
use Rattle.std.proofs.Common.{◌≡◌, ◌∙◌, sym, ap, refl, Bool, true, false, not, ◌&&◌, cond, List, [], ◌∷◌, slice_get, Option, Some, None, find, filter_map, option_map, option_and_then, if◌then◌else◌}
use Rattle.std.specs.List.{cons_option}
use Rattle.std.specs.Option.{option_map_or, unwrap_or}
use Rattle.std.specs.Str.{bytes_eq}
use Rattle.std.proofs.lemmas.Bool.{false≢true}
use Rattle.std.proofs.lemmas.Slice.Eq.{bytes_eq-Decides}
use Rattle.clap.specs.Facts.{Entry}
use Rattle.clap.specs.Matches.{found_of, matched_of, raw_values}
use Rattle.clap.specs.Walk.{row_of}
use Rattle.clap.specs.Words.{Row, Text, first_value, rows_of}
use Rattle.clap.specs.declared.parser.matches.ArgMatches.{ArgMatches}
use Rattle.clap.specs.declared.parser.matches.ValueSource.{ValueSource}
use Rattle.clap.specs.declared.parser.matches.ValueSource.TheVariants.{CommandLine, DefaultValue}
use Rattle.clap.proofs.WalkLemmas.{find_row, first_value-rows, raw_values-rows}
use Rattle.sb_words.specs.CommandLine.{Given, value_among}
use Rattle.sb_words.specs.Rows.{FindsValues, by_words, given_in, positional_id, row_named}

source_rows : (m : ArgMatches) (name : Text)
    → option_and_then (λ a. a.source) (matched_of (found_of m) name) ≡ option_and_then (λ (r : Row). r.source) (find (λ (r : Row). bytes_eq r.id name) (rows_of (found_of m)))
source_rows m name =
    go (find (λ (e : Entry). bytes_eq e.0.now name) (found_of m).entries.items)
    ∙ ap (option_and_then (λ (r : Row). r.source)) (sym (find_row (found_of m).entries.items name))
  where
    go : (o : Option Entry) → option_and_then (λ a. a.source) (option_map (λ (e : Entry). e.1) o) ≡ option_and_then (λ (r : Row). r.source) (option_map row_of o)
    go None = refl
    go (Some e) = refl

-- the positional words have no name
pub no_positional_name : (rows : List Row) → value_among positional_id (filter_map row_named rows) ≡ None
no_positional_name [] = refl
no_positional_name (r ∷ rows) = go (by_words r.source) (bytes_eq r.id positional_id) refl (no_positional_name rows)
  where
    go : (b c : Bool) → bytes_eq r.id positional_id ≡ c → value_among positional_id (filter_map row_named rows) ≡ None
        → value_among positional_id (cons_option (if b && not c then Some (r.id, unwrap_or (slice_get r.values 0) []) else None) (filter_map row_named rows)) ≡ None
    go false c e later = later
    go true true e later = later
    go true false e later =
        ap (λ b. option_map (λ (p : Text × Text). p.1) (cond b (Some (r.id, unwrap_or (slice_get r.values 0) [])) (find (λ p. bytes_eq p.0 positional_id) (filter_map row_named rows)))) e
        ∙ later

-- a name that the words gave has its first value
by_source : (o : Option Row) → option_and_then (λ r. r.source) o ≡ Some CommandLine
    → option_and_then (λ r. slice_get r.values 0) o ≡ option_and_then (λ r. if by_words r.source then slice_get r.values 0 else None) o
by_source None e = refl
by_source (Some r) e = sym (ap (λ s. if by_words s then slice_get r.values 0 else None) e)

pub value_given : (m : ArgMatches) (name : Text) → FindsValues (rows_of (found_of m)) → bytes_eq name positional_id ≡ false
    → option_and_then (λ a. a.source) (matched_of (found_of m) name) ≡ Some CommandLine
    → first_value (found_of m) name ≡ value_among name (given_in (rows_of (found_of m))).named
value_given m name finds plain e =
    first_value-rows (found_of m) name
    ∙ by_source (find (λ (r : Row). bytes_eq r.id name) (rows_of (found_of m))) (sym (source_rows m name) ∙ e)
    ∙ finds name plain

-- and one that they did not has none
by_no_source : (o : Option Row) (s : Option ValueSource) → option_and_then (λ r. r.source) o ≡ s → by_words s ≡ false
    → option_and_then (λ r. if by_words r.source then slice_get r.values 0 else None) o ≡ None
by_no_source None s e f = refl
by_no_source (Some r) s e f = ap (λ b. if b then slice_get r.values 0 else None) (ap by_words e ∙ f)

pub value_absent : (m : ArgMatches) (name : Text) (s : Option ValueSource) → FindsValues (rows_of (found_of m)) → bytes_eq name positional_id ≡ false
    → option_and_then (λ a. a.source) (matched_of (found_of m) name) ≡ s → by_words s ≡ false
    → value_among name (given_in (rows_of (found_of m))).named ≡ None
value_absent m name s finds plain e f =
    sym (finds name plain)
    ∙ by_no_source (find (λ (r : Row). bytes_eq r.id name) (rows_of (found_of m))) s (sym (source_rows m name) ∙ e) f

-- ---- by what the code finds

pub nothing_at_dashes : (rows : List Row) (given : Given) (name : Text) → given_in rows ≡ given → bytes_eq name positional_id ≡ true → None ≡ value_among name given.named
nothing_at_dashes rows given name is e =
    sym (ap (λ n. value_among n given.named) ((bytes_eq-Decides name positional_id).0 e)
    ∙ ap (λ (g : Given). value_among positional_id g.named) (sym is) ∙ no_positional_name rows)

pub nothing_given : (m : ArgMatches) (given : Given) (name : Text) (s : Option ValueSource) → given_in (rows_of (found_of m)) ≡ given → FindsValues (rows_of (found_of m))
    → bytes_eq name positional_id ≡ false → s ≡ option_and_then (λ a. a.source) (matched_of (found_of m) name) → by_words s ≡ false
    → None ≡ value_among name given.named
nothing_given m given name s is finds plain e f =
    sym (ap (λ (g : Given). value_among name g.named) (sym is) ∙ value_absent m name s finds plain (sym e) f)

by_words_is : (s : Option ValueSource) → by_words s ≡ true → s ≡ Some CommandLine
by_words_is None e = absurd (false≢true e)
by_words_is (Some DefaultValue) e = absurd (false≢true e)
by_words_is (Some CommandLine) e = refl

pub value_is : (m : ArgMatches) (given : Given) (name : Text) (s : Option ValueSource) → given_in (rows_of (found_of m)) ≡ given → FindsValues (rows_of (found_of m))
    → bytes_eq name positional_id ≡ false → s ≡ option_and_then (λ a. a.source) (matched_of (found_of m) name) → by_words s ≡ true
    → first_value (found_of m) name ≡ value_among name given.named
value_is m given name s is finds plain e f =
    value_given m name finds plain (sym e ∙ by_words_is s f) ∙ ap (λ (g : Given). value_among name g.named) is

none_found : {X : Type 0} (o : Option X) (f : X → List Text) → option_map f o ≡ None → option_map_or f o [] ≡ []
none_found None f e = refl
none_found (Some x) f e = cc

some_found : {X : Type 0} (o : Option X) (f : X → List Text) (ws : List Text) → option_map f o ≡ Some ws → option_map_or f o [] ≡ ws
some_found None f ws e = cc
some_found (Some x) f ws e = cc

-- the positional words
pub no_positionals : (m : ArgMatches) (given : Given) → given_in (rows_of (found_of m)) ≡ given
    → option_map raw_values (matched_of (found_of m) positional_id) ≡ None → [] ≡ given.positionals
no_positionals m given is e =
    sym (ap (λ (g : Given). g.positionals) (sym is)
    ∙ none_found (find (λ (r : Row). bytes_eq r.id positional_id) (rows_of (found_of m))) (λ r. r.values) (sym (raw_values-rows (found_of m) positional_id) ∙ e))

pub positionals_are : (m : ArgMatches) (given : Given) (ws : List Text) → given_in (rows_of (found_of m)) ≡ given
    → option_map raw_values (matched_of (found_of m) positional_id) ≡ Some ws → ws ≡ given.positionals
positionals_are m given ws is e =
    sym (ap (λ (g : Given). g.positionals) (sym is)
    ∙ some_found (find (λ (r : Row). bytes_eq r.id positional_id) (rows_of (found_of m))) (λ r. r.values) ws (sym (raw_values-rows (found_of m) positional_id) ∙ e))
