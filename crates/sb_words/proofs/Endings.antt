-- After the walk: the defaults of flags say nothing, and what is needed is asked for.
use Rattle.std.proofs.Common.{◌≡◌, ◌∙◌, sym, ap, ap₂, refl, Bool, true, false, not, cond, ◌&&◌, ◌||◌, List, [], ◌∷◌, ◌++◌, map, append-nil, fold, slice_get, Option, Some, None, find, filter_map, option_map, codes, if◌then◌else◌}
use Rattle.std.specs.List.{list_all, list_any}
use Rattle.std.specs.Option.{option_and_then, option_map_or, option_or}
use Rattle.std.specs.Str.{bytes_eq}
use Rattle.std.proofs.lemmas.Bool.{false≢true}
use Rattle.std.proofs.lemmas.Slice.Eq.{bytes_eq-Decides}
use Rattle.std.proofs.lemmas.List.Elements.{filter_map-append}
use Rattle.std.proofs.lemmas.List.Folds.{find-append}
use Rattle.clap.specs.Facts.{explicit_source}
use Rattle.clap.specs.Walk.{has_row, more_values, with_default, with_values}
use Rattle.clap.specs.Words.{Row, Rule, Text}
use Rattle.clap.specs.Kinds.{Kinds, or_else}
use Rattle.clap.specs.Faults.{check_fault, default_fault, defaults_fault}
use Rattle.clap.specs.Takes.{is_given}
use Rattle.clap.specs.declared.error.kind.ErrorKind.TheVariants.{MissingRequiredArgument}
use Rattle.clap.specs.declared.builder.value_parser.Reading.TheVariants.{AsWritten}
use Rattle.clap.specs.declared.parser.matches.ValueSource.{ValueSource}
use Rattle.clap.specs.declared.parser.matches.ValueSource.TheVariants.{CommandLine, DefaultValue}
use Rattle.sb_words.specs.declared.shape.OptionKind.{OptionKind}
use Rattle.sb_words.specs.declared.shape.OptionKind.TheVariants.{Needed, Optional, Flag}
use Rattle.sb_words.specs.CommandLine.{CommandOption, CommandShape, has_no_repeat, has_plain_names, is_needed, is_supplied, is_value, value_among}
use Rattle.sb_words.specs.Rows.{FindsValues, by_words, positional_id, row_named, value_in_rows}
use Rattle.sb_words.proofs.Rules.{filled_kind, filled_option, filled_positional, filled_rules, last_rules, top_with}
use Rattle.sb_words.proofs.Lookups.{both_true, plain_name}
use Rattle.sb_words.specs.ClapCommand.{none_of}
use Rattle.sb_words.proofs.Gathering.{Holds, all_explicit, among_cons, among_push, at_missing, find_push, is_among, is_fresh, new_row, positionals_in, rows_have}

-- ---- each name once, from either end

list_all_and : (known : List (Text × Text)) (p : Text × Text) (named : List (Text × Text))
    → list_all (λ q. not (is_among q.0 (known ++ p ∷ []))) named ≡ (list_all (λ q. not (is_among q.0 known)) named && not (is_among p.0 named))
list_all_and known p [] = refl
list_all_and known p (q ∷ named) =
    ap₂ (λ b c. not b && c) (among_push q.0 p known) (list_all_and known p named)
    ∙ ap (λ b. not (is_among q.0 known || b) && (list_all (λ r. not (is_among r.0 known)) named && not (is_among p.0 named))) (flipped p.0 q.0)
    ∙ go (is_among q.0 known) (bytes_eq q.0 p.0) (list_all (λ r. not (is_among r.0 known)) named) (is_among p.0 named)
    ∙ ap (λ b. (not (is_among q.0 known) && list_all (λ r. not (is_among r.0 known)) named) && not b) (sym (among_cons p.0 q named))
  where
    flipped : (a b : Text) → bytes_eq a b ≡ bytes_eq b a
    flipped a b = other (bytes_eq a b) (bytes_eq b a) refl refl
      where
        other : (x y : Bool) → bytes_eq a b ≡ x → bytes_eq b a ≡ y → bytes_eq a b ≡ bytes_eq b a
        other true true e f = e ∙ sym f
        other false false e f = e ∙ sym f
        other true false e f = absurd (false≢true (sym f ∙ (bytes_eq-Decides b a).1 (sym ((bytes_eq-Decides a b).0 e))))
        other false true e f = absurd (false≢true (sym e ∙ (bytes_eq-Decides a b).1 (sym ((bytes_eq-Decides b a).0 f))))

    go : (a b c d : Bool) → (not (a || b) && (c && not d)) ≡ ((not a && c) && not (b || d))
    go true b c d = refl
    go false true true d = refl
    go false true false d = refl
    go false false true d = refl
    go false false false d = refl

and_assoc : (a b c : Bool) → (a && (b && c)) ≡ ((a && b) && c)
and_assoc true b c = refl
and_assoc false b c = refl

fresh_is : (known named : List (Text × Text)) → is_fresh known named ≡ (list_all (λ p. not (is_among p.0 known)) named && has_no_repeat named)
fresh_is known [] = refl
fresh_is known (p ∷ named) =
    ap (λ b. not (is_among p.0 known) && b) (fresh_is (known ++ p ∷ []) named ∙ ap (λ b. b && has_no_repeat named) (list_all_and known p named)
    ∙ sym (and_assoc (list_all (λ q. not (is_among q.0 known)) named) (not (is_among p.0 named)) (has_no_repeat named)))
    ∙ and_assoc (not (is_among p.0 known)) (list_all (λ q. not (is_among q.0 known)) named) (not (is_among p.0 named) && has_no_repeat named)

all_new : (named : List (Text × Text)) → list_all (λ p. not (is_among p.0 [])) named ≡ true
all_new [] = refl
all_new (p ∷ named) = all_new named

pub fresh_from_start : (named : List (Text × Text)) → is_fresh [] named ≡ has_no_repeat named
fresh_from_start named = fresh_is [] named ∙ ap (λ b. b && has_no_repeat named) (all_new named)

-- ---- defaults

-- a rule of a shape gives a row where its name has none, and that row says nothing
pub data Defaults (rows : List Row) (a : Rule) : Type 0 where
  kept : with_default rows a ≡ rows → Defaults rows a
  pushed : bytes_eq a.id positional_id ≡ false → with_default rows a ≡ rows ++ new_row a.id DefaultValue (codes "false" ∷ []) ∷ [] → Defaults rows a

set_defaults : (rows : List Row) (b : Bool) → (if b then rows else rows) ≡ rows
set_defaults rows true = refl
set_defaults rows false = refl

option_defaults : (rows : List Row) (kind : OptionKind) (name : Text) → bytes_eq name positional_id ≡ false → Defaults rows (filled_kind kind name)
option_defaults rows Needed name plain = kept (set_defaults rows (has_row name rows))
option_defaults rows Optional name plain = kept (set_defaults rows (has_row name rows))
option_defaults rows Flag name plain = go (has_row name rows) refl
  where
    go : (b : Bool) → has_row name rows ≡ b → Defaults rows (filled_kind Flag name)
    go true e = kept (ap (λ b. if b then rows else with_values name AsWritten DefaultValue (codes "false" ∷ []) rows) e)
    go false e = pushed plain
        (ap (λ b. if b then rows else with_values name AsWritten DefaultValue (codes "false" ∷ []) rows) e
        ∙ at_missing name (more_values DefaultValue (codes "false" ∷ [])) (new_row name DefaultValue (codes "false" ∷ []) ∷ []) rows e)

positional_defaults : (rows : List Row) → Defaults rows filled_positional
positional_defaults rows = kept (set_defaults rows (has_row positional_id rows))

-- what rows give, and whether a name was given in them
given_push : (rows : List Row) (id : Text) (name : Text) → is_given name (rows ++ new_row id DefaultValue (codes "false" ∷ []) ∷ []) ≡ is_given name rows
given_push [] id name = go (bytes_eq id name)
  where
    go : (b : Bool) → option_map_or (λ (r : Row). explicit_source r.source) (cond b (Some (new_row id DefaultValue (codes "false" ∷ []))) None) false ≡ false
    go true = refl
    go false = refl
given_push (r ∷ rows) id name = go (bytes_eq r.id name) (given_push rows id name)
  where
    go : (b : Bool) → is_given name (rows ++ new_row id DefaultValue (codes "false" ∷ []) ∷ []) ≡ is_given name rows
        → option_map_or (λ (x : Row). explicit_source x.source) (cond b (Some r) (find (λ x. bytes_eq x.id name) (rows ++ new_row id DefaultValue (codes "false" ∷ []) ∷ []))) false
        ≡ option_map_or (λ (x : Row). explicit_source x.source) (cond b (Some r) (find (λ x. bytes_eq x.id name) rows)) false
    go true later = refl
    go false later = later

named_push : (rows : List Row) (id : Text) → filter_map row_named (rows ++ new_row id DefaultValue (codes "false" ∷ []) ∷ []) ≡ filter_map row_named rows
named_push rows id = filter_map-append row_named rows (new_row id DefaultValue (codes "false" ∷ []) ∷ []) ∙ append-nil (filter_map row_named rows)

found_push : (rows : List Row) (id : Text) (name : Text) → value_in_rows name (rows ++ new_row id DefaultValue (codes "false" ∷ []) ∷ []) ≡ value_in_rows name rows
found_push rows id name =
    ap (option_and_then (λ (r : Row). if by_words r.source then slice_get r.values 0 else None))
    (find-append (λ (r : Row). bytes_eq r.id name) rows (new_row id DefaultValue (codes "false" ∷ []) ∷ []))
    ∙ go (find (λ (r : Row). bytes_eq r.id name) rows) (bytes_eq id name)
  where
    go : (a : Option Row) (c : Bool)
        → option_and_then (λ r. if by_words r.source then slice_get r.values 0 else None) (option_or a (cond c (Some (new_row id DefaultValue (codes "false" ∷ []))) None))
        ≡ option_and_then (λ r. if by_words r.source then slice_get r.values 0 else None) a
    go None true = refl
    go None false = refl
    go (Some r) c = refl

-- the same rows, but for such as say nothing
pub record SaysSame (rows after : List Row) : Type 0 where
  pub named : filter_map row_named after ≡ filter_map row_named rows
  pub positionals : positionals_in after ≡ positionals_in rows
  pub given : (name : Text) → is_given name after ≡ is_given name rows
  pub found : (name : Text) → value_in_rows name after ≡ value_in_rows name rows

default_says_same : (rows : List Row) (a : Rule) → Defaults rows a → SaysSame rows (with_default rows a)
default_says_same rows a (kept e) = record {
  named = ap (filter_map row_named) e;
  positionals = ap positionals_in e;
  given = λ name. ap (is_given name) e;
  found = λ name. ap (value_in_rows name) e;
}
default_says_same rows a (pushed plain e) = record {
  named = ap (filter_map row_named) e ∙ named_push rows a.id;
  positionals = ap positionals_in e ∙ find_push rows (new_row a.id DefaultValue (codes "false" ∷ [])) plain;
  given = λ name. ap (is_given name) e ∙ given_push rows a.id name;
  found = λ name. ap (value_in_rows name) e ∙ found_push rows a.id name;
}

says_both : (rows mid after : List Row) → SaysSame rows mid → SaysSame mid after → SaysSame rows after
says_both rows mid after a b = record {
  named = b.named ∙ a.named;
  positionals = b.positionals ∙ a.positionals;
  given = λ name. b.given name ∙ a.given name;
  found = λ name. b.found name ∙ a.found name;
}

says_none : (rows : List Row) → SaysSame rows rows
says_none rows = record { named = refl; positionals = refl; given = λ name. refl; found = λ name. refl }

last_says_same : (rows : List Row) (takes : Bool) → SaysSame rows (fold with_default rows (last_rules takes))
last_says_same rows true = default_says_same rows filled_positional (positional_defaults rows)
last_says_same rows false = says_none rows

defaults_say_same : (options : List CommandOption) (takes : Bool) (rows : List Row) → list_all (λ o. is_value o.name) options ≡ true
    → SaysSame rows (fold with_default rows (map filled_option options ++ last_rules takes))
defaults_say_same [] takes rows plain = last_says_same rows takes
defaults_say_same (o ∷ options) takes rows plain =
    let parts = both_true (is_value o.name) _ plain in
    says_both rows (with_default rows (filled_option o)) _
    (default_says_same rows (filled_option o) (option_defaults rows o.kind o.name (plain_name o.name parts.0)))
    (defaults_say_same options takes (with_default rows (filled_option o)) parts.1)

pub finished_says_same : (shape : CommandShape) (rows : List Row) → has_plain_names shape ≡ true → SaysSame rows (fold with_default rows (filled_rules shape))
finished_says_same shape rows plain = defaults_say_same shape.options shape.takes_positionals rows plain

-- a default passes
needless_default : (b : Bool) (fault : Kinds) → (if b || true then [] else fault) ≡ []
needless_default true fault = refl
needless_default false fault = refl

flag_default : (b : Bool) (fault : Kinds) → fault ≡ [] → (if b || false then [] else fault) ≡ []
flag_default true fault e = refl
flag_default false fault e = e

option_default_fault : (rows : List Row) (kind : OptionKind) (name : Text) → default_fault rows (filled_kind kind name) ≡ []
option_default_fault rows Needed name = needless_default (has_row name rows) _
option_default_fault rows Optional name = needless_default (has_row name rows) _
option_default_fault rows Flag name = flag_default (has_row name rows) _ refl

last_default_fault : (rows : List Row) (takes : Bool) → defaults_fault rows (last_rules takes) ≡ []
unfolding defaults_fault
last_default_fault rows true = ap (λ (f : Kinds). or_else f []) (needless_default (has_row positional_id rows) _)
last_default_fault rows false = refl

pub no_default_fault : (options : List CommandOption) (takes : Bool) (rows : List Row) → defaults_fault rows (map filled_option options ++ last_rules takes) ≡ []
unfolding defaults_fault
no_default_fault [] takes rows = last_default_fault rows takes
no_default_fault (o ∷ options) takes rows =
    ap (λ (f : Kinds). or_else f (defaults_fault (with_default rows (filled_option o)) (map filled_option options ++ last_rules takes)))
    (option_default_fault rows o.kind o.name)
    ∙ no_default_fault options takes (with_default rows (filled_option o))

-- ---- what is needed

explicit_by_words : (source : Option ValueSource) → by_words source ≡ true → explicit_source source ≡ true
explicit_by_words None e = absurd (false≢true e)
explicit_by_words (Some DefaultValue) e = absurd (false≢true e)
explicit_by_words (Some CommandLine) e = refl

given_is : (name : Text) (rows : List Row) → all_explicit rows ≡ true → is_given name rows ≡ has_row name rows
given_is name [] e = refl
given_is name (r ∷ rows) e = go (bytes_eq r.id name) (by_words r.source) refl e (given_is name rows)
  where
    go : (b c : Bool) → by_words r.source ≡ c → (c && all_explicit rows) ≡ true → (all_explicit rows ≡ true → is_given name rows ≡ has_row name rows)
        → option_map_or (λ (x : Row). explicit_source x.source) (cond b (Some r) (find (λ x. bytes_eq x.id name) rows)) false ≡ (b || has_row name rows)
    go b false is bad later = absurd (false≢true bad)
    go true true is rest later = explicit_by_words r.source is
    go false true is rest later = later rest

option_missed : (rows : List Row) (named : List (Text × Text)) (kind : OptionKind) (name : Text) → is_given name rows ≡ is_among name named
    → ((filled_kind kind name).required && not (is_given (filled_kind kind name).id rows)) ≡ not (not (is_needed kind) || is_among name named)
option_missed rows named Needed name e = ap not e
option_missed rows named Optional name e = refl
option_missed rows named Flag name e = refl

none_missed_last : (rows : List Row) (takes : Bool) → list_any (λ (a : Rule). a.required && not (is_given a.id rows)) (last_rules takes) ≡ false
none_missed_last rows true = refl
none_missed_last rows false = refl

not_both : (a b : Bool) → (not a || not b) ≡ not (a && b)
not_both true b = refl
not_both false b = refl

missed : (options : List CommandOption) (takes : Bool) (rows : List Row) (named : List (Text × Text))
    → ((name : Text) → bytes_eq name positional_id ≡ false → is_given name rows ≡ is_among name named)
    → list_all (λ o. is_value o.name) options ≡ true
    → list_any (λ (a : Rule). a.required && not (is_given a.id rows)) (map filled_option options ++ last_rules takes) ≡ not (list_all (is_supplied named) options)
missed [] takes rows named given plain = none_missed_last rows takes
missed (o ∷ options) takes rows named given plain =
    let parts = both_true (is_value o.name) _ plain in
    ap₂ (λ a b. a || b) (option_missed rows named o.kind o.name (given o.name (plain_name o.name parts.0))) (missed options takes rows named given parts.1)
    ∙ not_both (is_supplied named o) (list_all (is_supplied named) options)

-- the last checks ask for what is needed
pub check_is : (shape : CommandShape) (rows : List Row) → has_plain_names shape ≡ true → all_explicit rows ≡ true
    → none_of (check_fault (top_with (filled_rules shape)) (fold with_default rows (filled_rules shape)) false)
    ≡ list_all (is_supplied (filter_map row_named rows)) shape.options
check_is shape rows plain explicit =
    let after = fold with_default rows (filled_rules shape) in
    let same = finished_says_same shape rows plain in
    ap (λ b. none_of (if b then MissingRequiredArgument ∷ [] else []))
    (missed shape.options shape.takes_positionals after (filter_map row_named rows)
    (λ name p. same.given name ∙ given_is name rows explicit ∙ rows_have name rows p explicit) plain)
    ∙ go (list_all (is_supplied (filter_map row_named rows)) shape.options)
  where
    go : (b : Bool) → none_of (if not b then MissingRequiredArgument ∷ [] else []) ≡ b
    go true = refl
    go false = refl

-- ---- the values that names find

explicit_find : (rows : List Row) (name : Text) → all_explicit rows ≡ true
    → value_in_rows name rows ≡ option_and_then (λ r. slice_get r.values 0) (find (λ r. bytes_eq r.id name) rows)
explicit_find [] name e = refl
explicit_find (r ∷ rows) name e = go (bytes_eq r.id name) (by_words r.source) refl e (explicit_find rows name)
  where
    go : (b c : Bool) → by_words r.source ≡ c → (c && all_explicit rows) ≡ true
        → (all_explicit rows ≡ true → value_in_rows name rows ≡ option_and_then (λ x. slice_get x.values 0) (find (λ x. bytes_eq x.id name) rows))
        → option_and_then (λ (x : Row). if by_words x.source then slice_get x.values 0 else None) (cond b (Some r) (find (λ x. bytes_eq x.id name) rows))
        ≡ option_and_then (λ (x : Row). slice_get x.values 0) (cond b (Some r) (find (λ x. bytes_eq x.id name) rows))
    go b false is bad later = absurd (false≢true bad)
    go true true is rest later = ap (λ c. if c then slice_get r.values 0 else None) is
    go false true is rest later = later rest

first_of_found : (a : Option Row) (b : Option Text) → option_map (λ r. slice_get r.values 0) a ≡ option_map (λ v. Some v) b
    → option_and_then (λ r. slice_get r.values 0) a ≡ b
first_of_found None None e = refl
first_of_found None (Some v) e = cc
first_of_found (Some r) None e = cc
first_of_found (Some r) (Some v) e = cc

pub finds_values : (shape : CommandShape) (rows : List Row) (named : List (Text × Text)) (positionals : List Text) → has_plain_names shape ≡ true → Holds rows named positionals
    → FindsValues (fold with_default rows (filled_rules shape))
finds_values shape rows named positionals plain h name p =
    let same = finished_says_same shape rows plain in
    same.found name ∙ explicit_find rows name h.explicit
    ∙ first_of_found (find (λ (r : Row). bytes_eq r.id name) rows) (value_among name named) (h.finds name p)
    ∙ ap (value_among name) (sym (same.named ∙ h.named_is))
