-- The rows that pieces leave say what the pieces say.
use Rattle.std.proofs.Common.{◌≡◌, ◌∙◌, sym, ap, ap₂, refl, subst, subst₂, Bool, true, false, not, cond, ◌&&◌, ◌||◌, List, [], ◌∷◌, ◌++◌, append-nil, append_assoc, slice_get, Option, Some, None, is_some, find, filter_map, option_map, option_and_then, codes, if◌then◌else◌}
use Rattle.std.specs.List.{cons_option, list_all}
use Rattle.std.specs.Option.{option_map_or, option_or, unwrap_or}
use Rattle.std.specs.Str.{bytes_eq}
use Rattle.std.proofs.lemmas.Bool.{false≢true}
use Rattle.std.proofs.lemmas.Slice.Eq.{bytes_eq-Decides}
use Rattle.std.proofs.lemmas.List.Elements.{filter_map-append}
use Rattle.std.proofs.lemmas.List.Folds.{find-append, list_all-append}
use Rattle.clap.specs.Walk.{at_row, has_row, more_values, stronger, with_values, without}
use Rattle.clap.specs.Words.{Row, Text}
use Rattle.clap.specs.declared.builder.value_parser.Reading.TheVariants.{AsWritten}
use Rattle.clap.specs.declared.parser.matches.ValueSource.{ValueSource}
use Rattle.clap.specs.declared.parser.matches.ValueSource.TheVariants.{CommandLine, DefaultValue}
use Rattle.sb_words.specs.CommandLine.{Piece, option, flag, positional, has_none, named_of, positionals_of, value_among}
use Rattle.sb_words.specs.Rows.{by_words, positional_id, row_named}
use Rattle.sb_words.proofs.Run.{named_use, piece_use, pieces_use}
use Rattle.sb_words.proofs.Turns.{and_false, or_false}

Named : Type 0
Named = List (Text × Text)

abbrev pub is_explicit_row : Row → Bool
is_explicit_row r = by_words r.source

abbrev pub all_explicit : List Row → Bool
all_explicit = list_all is_explicit_row

abbrev pub positionals_in : List Row → List Text
positionals_in rows = option_map_or (λ r. r.values) (find (λ r. bytes_eq r.id positional_id) rows) []

abbrev pub is_among : Text → List (Text × Text) → Bool
is_among name named = is_some (value_among name named)

pub among_cons : (name : Text) (p : Text × Text) (named : List (Text × Text)) → is_among name (p ∷ named) ≡ (bytes_eq p.0 name || is_among name named)
among_cons name p named = go (bytes_eq p.0 name)
  where
    go : (b : Bool) → is_some (option_map (λ (q : Text × Text). q.1) (cond b (Some p) (find (λ q. bytes_eq q.0 name) named))) ≡ (b || is_among name named)
    go true = refl
    go false = refl

or_assoc : (a b c : Bool) → (a || (b || c)) ≡ ((a || b) || c)
or_assoc true b c = refl
or_assoc false b c = refl

pub among_push : (name : Text) (p : Text × Text) (named : List (Text × Text)) → is_among name (named ++ p ∷ []) ≡ (is_among name named || bytes_eq p.0 name)
among_push name p [] = among_cons name p [] ∙ or_false (bytes_eq p.0 name)
among_push name p (q ∷ named) =
    among_cons name q (named ++ p ∷ []) ∙ ap (λ b. bytes_eq q.0 name || b) (among_push name p named)
    ∙ or_assoc (bytes_eq q.0 name) (is_among name named) (bytes_eq p.0 name)
    ∙ ap (λ b. b || bytes_eq p.0 name) (sym (among_cons name q named))

-- ---- rows with one more

pub at_missing : (id : Text) (change : Row → List Row) (missing rows : List Row) → has_row id rows ≡ false → at_row id change missing rows ≡ rows ++ missing
at_missing id change missing [] none = refl
at_missing id change missing (r ∷ rows) none = go (bytes_eq r.id id) none (at_missing id change missing rows)
  where
    go : (b : Bool) → (b || has_row id rows) ≡ false → (has_row id rows ≡ false → at_row id change missing rows ≡ rows ++ missing)
        → (if b then change r ++ rows else r ∷ at_row id change missing rows) ≡ r ∷ (rows ++ missing)
    go true bad later = absurd (false≢true (sym bad))
    go false fine later = ap (λ rs. r ∷ rs) (later fine)

abbrev pub new_row : Text → ValueSource → List Text → Row
new_row id source values = record { id = id; values = values; count = None; source = Some source; reading = AsWritten }

-- a first use of a name
pub named_rows : (name v : Text) (rows : List Row) → has_row name rows ≡ false
    → with_values name AsWritten CommandLine (v ∷ []) (without name rows) ≡ rows ++ new_row name CommandLine (v ∷ []) ∷ []
named_rows name v rows none =
    ap (with_values name AsWritten CommandLine (v ∷ [])) (at_missing name (λ _. []) [] rows none ∙ append-nil rows)
    ∙ at_missing name (more_values CommandLine (v ∷ [])) (new_row name CommandLine (v ∷ []) ∷ []) rows none

pub find_push : (rows : List Row) (r : Row) → bytes_eq r.id positional_id ≡ false → positionals_in (rows ++ r ∷ []) ≡ positionals_in rows
find_push [] r e = ap (λ b. option_map_or (λ (x : Row). x.values) (cond b (Some r) None) []) e
find_push (x ∷ rows) r e = go (bytes_eq x.id positional_id) (find_push rows r e)
  where
    go : (b : Bool) → positionals_in (rows ++ r ∷ []) ≡ positionals_in rows
        → option_map_or (λ (y : Row). y.values) (cond b (Some x) (find (λ y. bytes_eq y.id positional_id) (rows ++ r ∷ []))) []
        ≡ option_map_or (λ (y : Row). y.values) (cond b (Some x) (find (λ y. bytes_eq y.id positional_id) rows)) []
    go true later = refl
    go false later = later

-- the id of the positional words is no other name
pub other_id : (name : Text) → bytes_eq name positional_id ≡ false → bytes_eq positional_id name ≡ false
other_id name plain = other (bytes_eq positional_id name) refl
  where
    other : (b : Bool) → bytes_eq positional_id name ≡ b → bytes_eq positional_id name ≡ false
    other false e = e
    other true e =
        let same : bytes_eq name positional_id ≡ true = (bytes_eq-Decides name positional_id).1 (sym ((bytes_eq-Decides positional_id name).0 e)) in
        absurd (false≢true (sym plain ∙ same))

-- which names rows have
pub rows_have : (name : Text) (rows : List Row) → bytes_eq name positional_id ≡ false → all_explicit rows ≡ true
    → has_row name rows ≡ is_among name (filter_map row_named rows)
rows_have name [] plain explicit = refl
rows_have name (r ∷ rows) plain explicit = go (by_words r.source) (bytes_eq r.id positional_id) refl refl (rows_have name rows plain)
  where
    no_name : bytes_eq r.id positional_id ≡ true → bytes_eq r.id name ≡ false
    no_name e = ap (λ id. bytes_eq id name) ((bytes_eq-Decides r.id positional_id).0 e) ∙ other_id name plain

    go : (b c : Bool) → by_words r.source ≡ b → bytes_eq r.id positional_id ≡ c
        → (all_explicit rows ≡ true → has_row name rows ≡ is_among name (filter_map row_named rows))
        → has_row name (r ∷ rows) ≡ is_among name (filter_map row_named (r ∷ rows))
    go false c e f later = absurd (false≢true (sym (ap (λ b. b && all_explicit rows) e) ∙ explicit))
    go true true e f later =
        ap₂ (λ b h. b || h) (no_name f) (later (sym (ap (λ b. b && all_explicit rows) e) ∙ explicit))
        ∙ sym (ap₂ (λ b c. is_among name (cons_option (if b && not c then Some (r.id, unwrap_or (slice_get r.values 0) []) else None) (filter_map row_named rows))) e f)
    go true false e f later =
        ap (λ h. bytes_eq r.id name || h) (later (sym (ap (λ b. b && all_explicit rows) e) ∙ explicit))
        ∙ sym (among_cons name (r.id, unwrap_or (slice_get r.values 0) []) (filter_map row_named rows))
        ∙ sym (ap₂ (λ b c. is_among name (cons_option (if b && not c then Some (r.id, unwrap_or (slice_get r.values 0) []) else None) (filter_map row_named rows))) e f)

-- ---- what rows hold

-- each name finds its first value
abbrev pub FindsFirst : List Row → List (Text × Text) → Type 0
FindsFirst rows named =
    (name : Text) → bytes_eq name positional_id ≡ false
    → option_map (λ r. slice_get r.values 0) (find (λ r. bytes_eq r.id name) rows) ≡ option_map (λ v. Some v) (value_among name named)

finds_push : (rows : List Row) (named : List (Text × Text)) (own v : Text) → FindsFirst rows named
    → FindsFirst (rows ++ new_row own CommandLine (v ∷ []) ∷ []) (named ++ (own, v) ∷ [])
finds_push rows named own v h name plain =
    ap (option_map (λ (r : Row). slice_get r.values 0)) (find-append (λ (r : Row). bytes_eq r.id name) rows (new_row own CommandLine (v ∷ []) ∷ []))
    ∙ first_rows (find (λ (r : Row). bytes_eq r.id name) rows) (find (λ (p : Text × Text). bytes_eq p.0 name) named) (bytes_eq own name) (h name plain)
    ∙ sym (ap (λ (o : Option (Text × Text)). option_map (λ v. Some v) (option_map (λ (p : Text × Text). p.1) o))
    (find-append (λ (p : Text × Text). bytes_eq p.0 name) named ((own, v) ∷ [])))
  where
    first_rows : (a : Option Row) (b : Option (Text × Text)) (c : Bool)
        → option_map (λ r. slice_get r.values 0) a ≡ option_map (λ v. Some v) (option_map (λ p. p.1) b)
        → option_map (λ r. slice_get r.values 0) (option_or a (cond c (Some (new_row own CommandLine (v ∷ []))) None))
        ≡ option_map (λ v. Some v) (option_map (λ p. p.1) (option_or b (cond c (Some (own, v)) None)))
    first_rows None None true e = refl
    first_rows None None false e = refl
    first_rows None (Some p) c e = cc
    first_rows (Some r) None c e = cc
    first_rows (Some r) (Some p) c e = e

pub record Holds (rows : List Row) (named : List (Text × Text)) (positionals : List Text) : Type 0 where
  pub named_is : filter_map row_named rows ≡ named
  pub positionals_is : positionals_in rows ≡ positionals
  pub explicit : all_explicit rows ≡ true
  pub finds : FindsFirst rows named

pub holds_named : (rows : List Row) (named : List (Text × Text)) (positionals : List Text) (name v : Text) → bytes_eq name positional_id ≡ false → Holds rows named positionals
    → Holds (rows ++ new_row name CommandLine (v ∷ []) ∷ []) (named ++ (name, v) ∷ []) positionals
holds_named rows named positionals name v plain h = record {
  named_is =
      filter_map-append row_named rows (new_row name CommandLine (v ∷ []) ∷ [])
      ∙ ap (λ b. filter_map row_named rows ++ cons_option (if not b then Some (name, v) else None) []) plain
      ∙ ap (λ xs. xs ++ (name, v) ∷ []) h.named_is;
  positionals_is = find_push rows (new_row name CommandLine (v ∷ [])) plain ∙ h.positionals_is;
  explicit =
      list_all-append is_explicit_row rows (new_row name CommandLine (v ∷ []) ∷ []) ∙ ap (λ b. b && true) h.explicit;
  finds = finds_push rows named name v h.finds;
}

-- ---- one more positional word

abbrev with_positional : Text → List Row → List Row
with_positional word = with_values positional_id AsWritten CommandLine (word ∷ [])

-- the row of the positional words, with one more
abbrev grown : Text → Row → Row
grown word r = record r { values = r.values ++ word ∷ []; source = Some (stronger r.source CommandLine) }

stronger_explicit : (source : Option ValueSource) → by_words (Some (stronger source CommandLine)) ≡ true
stronger_explicit None = refl
stronger_explicit (Some DefaultValue) = refl
stronger_explicit (Some CommandLine) = refl

positional_row_named : (r : Row) → bytes_eq r.id positional_id ≡ true → row_named r ≡ None
positional_row_named r e =
    ap (λ b. if by_words r.source && not b then Some (r.id, unwrap_or (slice_get r.values 0) []) else None) e
    ∙ ap (λ b. if b then Some (r.id, unwrap_or (slice_get r.values 0) []) else None) (and_false (by_words r.source))

grown_named : (word : Text) (rows : List Row) → filter_map row_named (with_positional word rows) ≡ filter_map row_named rows
grown_named word [] = refl
grown_named word (r ∷ rows) = go (bytes_eq r.id positional_id) refl (grown_named word rows)
  where
    go : (b : Bool) → bytes_eq r.id positional_id ≡ b → filter_map row_named (with_positional word rows) ≡ filter_map row_named rows
        → filter_map row_named (if b then grown word r ∷ [] ++ rows else r ∷ with_positional word rows) ≡ filter_map row_named (r ∷ rows)
    go true e later =
        ap (λ o. cons_option o (filter_map row_named rows)) (positional_row_named (grown word r) e ∙ sym (positional_row_named r e))
    go false e later = ap (cons_option (row_named r)) later

grown_positionals : (word : Text) (rows : List Row) → positionals_in (with_positional word rows) ≡ positionals_in rows ++ word ∷ []
grown_positionals word [] = refl
grown_positionals word (r ∷ rows) = go (bytes_eq r.id positional_id) refl (grown_positionals word rows)
  where
    go : (b : Bool) → bytes_eq r.id positional_id ≡ b → positionals_in (with_positional word rows) ≡ positionals_in rows ++ word ∷ []
        → positionals_in (if b then grown word r ∷ [] ++ rows else r ∷ with_positional word rows) ≡ positionals_in (r ∷ rows) ++ word ∷ []
    go true e later =
        ap (λ b. option_map_or (λ (x : Row). x.values) (cond b (Some (grown word r)) (find (λ x. bytes_eq x.id positional_id) rows)) []) e
        ∙ sym (ap (λ b. option_map_or (λ (x : Row). x.values) (cond b (Some r) (find (λ x. bytes_eq x.id positional_id) rows)) [] ++ word ∷ []) e)
    go false e later =
        ap (λ b. option_map_or (λ (x : Row). x.values) (cond b (Some r) (find (λ x. bytes_eq x.id positional_id) (with_positional word rows))) []) e
        ∙ later
        ∙ sym (ap (λ b. option_map_or (λ (x : Row). x.values) (cond b (Some r) (find (λ x. bytes_eq x.id positional_id) rows)) [] ++ word ∷ []) e)

grown_explicit : (word : Text) (rows : List Row) → all_explicit rows ≡ true → all_explicit (with_positional word rows) ≡ true
grown_explicit word [] e = refl
grown_explicit word (r ∷ rows) e = go (bytes_eq r.id positional_id) (by_words r.source) refl e (grown_explicit word rows)
  where
    go : (b c : Bool) → by_words r.source ≡ c → (c && all_explicit rows) ≡ true → (all_explicit rows ≡ true → all_explicit (with_positional word rows) ≡ true)
        → all_explicit (if b then grown word r ∷ [] ++ rows else r ∷ with_positional word rows) ≡ true
    go b false is bad later = absurd (false≢true bad)
    go true true is rest later = ap (λ b. b && all_explicit rows) (stronger_explicit r.source) ∙ rest
    go false true is rest later = ap (λ b. b && all_explicit (with_positional word rows)) is ∙ later rest

-- a name finds as before
grown_finds : (word name : Text) (rows : List Row) → bytes_eq name positional_id ≡ false
    → option_map (λ r. slice_get r.values 0) (find (λ r. bytes_eq r.id name) (with_positional word rows))
    ≡ option_map (λ r. slice_get r.values 0) (find (λ r. bytes_eq r.id name) rows)
grown_finds word name [] plain = ap (λ b. option_map (λ (r : Row). slice_get r.values 0) (cond b (Some (new_row positional_id CommandLine (word ∷ []))) None)) (other_id name plain)
grown_finds word name (r ∷ rows) plain = go (bytes_eq r.id positional_id) refl (grown_finds word name rows plain)
  where
    go : (b : Bool) → bytes_eq r.id positional_id ≡ b
        → option_map (λ x. slice_get x.values 0) (find (λ x. bytes_eq x.id name) (with_positional word rows))
        ≡ option_map (λ x. slice_get x.values 0) (find (λ x. bytes_eq x.id name) rows)
        → option_map (λ x. slice_get x.values 0) (find (λ x. bytes_eq x.id name) (if b then grown word r ∷ [] ++ rows else r ∷ with_positional word rows))
        ≡ option_map (λ x. slice_get x.values 0) (find (λ x. bytes_eq x.id name) (r ∷ rows))
    go true e later =
        let none : bytes_eq r.id name ≡ false = ap (λ id. bytes_eq id name) ((bytes_eq-Decides r.id positional_id).0 e) ∙ other_id name plain in
        ap (λ b. option_map (λ (x : Row). slice_get x.values 0) (cond b (Some (grown word r)) (find (λ x. bytes_eq x.id name) rows))) none
        ∙ sym (ap (λ b. option_map (λ (x : Row). slice_get x.values 0) (cond b (Some r) (find (λ x. bytes_eq x.id name) rows))) none)
    go false e later = same (bytes_eq r.id name)
      where
        same : (c : Bool)
            → option_map (λ x. slice_get x.values 0) (cond c (Some r) (find (λ x. bytes_eq x.id name) (with_positional word rows)))
            ≡ option_map (λ x. slice_get x.values 0) (cond c (Some r) (find (λ x. bytes_eq x.id name) rows))
        same true = refl
        same false = later

pub holds_positional : (rows : List Row) (named : List (Text × Text)) (positionals : List Text) (word : Text) → Holds rows named positionals
    → Holds (with_values positional_id AsWritten CommandLine (word ∷ []) rows) named (positionals ++ word ∷ [])
holds_positional rows named positionals word h = record {
  named_is = grown_named word rows ∙ h.named_is;
  positionals_is = grown_positionals word rows ∙ ap (λ xs. xs ++ word ∷ []) h.positionals_is;
  explicit = grown_explicit word rows h.explicit;
  finds = λ name plain. grown_finds word name rows plain ∙ h.finds name plain;
}

-- ---- all pieces

-- the names are such as no earlier one has
abbrev pub is_fresh : List (Text × Text) → List (Text × Text) → Bool
is_fresh known [] = true
is_fresh known (p ∷ named) = not (is_among p.0 known) && is_fresh (known ++ p ∷ []) named

abbrev pub is_plain_piece : Piece → Bool
is_plain_piece (option name value) = not (bytes_eq name positional_id)
is_plain_piece (flag name) = not (bytes_eq name positional_id)
is_plain_piece (positional word) = true

abbrev pub passes : Bool → List (Text × Text) → List Piece → Bool
passes takes known pieces = is_fresh known (named_of pieces) && (takes || has_none (positionals_of pieces))

-- where the pieces pass there are rows that hold them, and where they do not there are none
pub data Uses (takes : Bool) (pieces : List Piece) (rows : List Row) (named : List (Text × Text)) (positionals : List Text) : Type 0 where
  used : (after : List Row) → pieces_use takes pieces rows ≡ Some after → passes takes named pieces ≡ true
      → Holds after (named ++ named_of pieces) (positionals ++ positionals_of pieces) → Uses takes pieces rows named positionals
  unused : pieces_use takes pieces rows ≡ None → passes takes named pieces ≡ false → Uses takes pieces rows named positionals

not_true : (b : Bool) → not b ≡ true → b ≡ false
not_true true e = absurd (false≢true e)
not_true false e = refl

pub and_parts : (a b : Bool) → (a && b) ≡ true → (a ≡ true) × (b ≡ true)
and_parts true b e = (refl, e)
and_parts false b e = absurd (false≢true e)

or_true : (b : Bool) → (b || true) ≡ true
or_true true = refl
or_true false = refl

named_uses : (takes : Bool) (piece : Piece) (name v : Text) (pieces : List Piece) (rows : List Row) (named : List (Text × Text)) (positionals : List Text)
    → ((rs : List Row) → piece_use takes piece rs ≡ named_use name v rs) → ((ps : List Piece) → named_of (piece ∷ ps) ≡ (name, v) ∷ named_of ps)
    → ((ps : List Piece) → positionals_of (piece ∷ ps) ≡ positionals_of ps)
    → bytes_eq name positional_id ≡ false → Holds rows named positionals
    → ((after : List Row) (more : List (Text × Text)) → Holds after more positionals → Uses takes pieces after more positionals)
    → Uses takes (piece ∷ pieces) rows named positionals
named_uses takes piece name v pieces rows named positionals use_is named_is positionals_is plain h later = go (has_row name rows) refl
  where
    passes_is : passes takes named (piece ∷ pieces)
        ≡ ((not (is_among name named) && is_fresh (named ++ (name, v) ∷ []) (named_of pieces)) && (takes || has_none (positionals_of pieces)))
    passes_is = ap₂ (λ ns ws. is_fresh named ns && (takes || has_none ws)) (named_is pieces) (positionals_is pieces)

    among_is : has_row name rows ≡ is_among name named
    among_is = rows_have name rows plain h.explicit ∙ ap (is_among name) h.named_is

    step : (after : List Row) → pieces_use takes (piece ∷ pieces) rows ≡ pieces_use takes pieces after → is_among name named ≡ false
        → Uses takes pieces after (named ++ (name, v) ∷ []) positionals → Uses takes (piece ∷ pieces) rows named positionals
    step after e new (used end is ok holds) = used end (e ∙ is)
        (passes_is ∙ ap (λ b. (not b && is_fresh (named ++ (name, v) ∷ []) (named_of pieces)) && (takes || has_none (positionals_of pieces))) new ∙ ok)
        (subst₂ (Holds end) (append_assoc named ((name, v) ∷ []) (named_of pieces) ∙ ap (λ ns. named ++ ns) (sym (named_is pieces)))
        (ap (λ ws. positionals ++ ws) (sym (positionals_is pieces))) holds)
    step after e new (unused is fails) = unused (e ∙ is)
        (passes_is ∙ ap (λ b. (not b && is_fresh (named ++ (name, v) ∷ []) (named_of pieces)) && (takes || has_none (positionals_of pieces))) new ∙ fails)

    go : (b : Bool) → has_row name rows ≡ b → Uses takes (piece ∷ pieces) rows named positionals
    go true e = unused
        (ap (option_and_then (pieces_use takes pieces)) (use_is rows ∙ ap (λ b. if b then None else Some (with_values name AsWritten CommandLine (v ∷ []) (without name rows))) e))
        (passes_is ∙ ap (λ b. (not b && is_fresh (named ++ (name, v) ∷ []) (named_of pieces)) && (takes || has_none (positionals_of pieces))) (sym among_is ∙ e))
    go false e = step (rows ++ new_row name CommandLine (v ∷ []) ∷ [])
        (ap (option_and_then (pieces_use takes pieces)) (use_is rows
        ∙ ap (λ b. if b then None else Some (with_values name AsWritten CommandLine (v ∷ []) (without name rows))) e
        ∙ ap Some (named_rows name v rows e)))
        (sym among_is ∙ e)
        (later (rows ++ new_row name CommandLine (v ∷ []) ∷ []) (named ++ (name, v) ∷ []) (holds_named rows named positionals name v plain h))

positional_uses : (takes : Bool) (word : Text) (pieces : List Piece) (rows : List Row) (named : List (Text × Text)) (positionals : List Text)
    → Holds rows named positionals
    → ((after : List Row) (more : List Text) → Holds after named more → Uses takes pieces after named more)
    → Uses takes (positional word ∷ pieces) rows named positionals
positional_uses false word pieces rows named positionals h later = unused refl (and_false (is_fresh named (named_of pieces)))
positional_uses true word pieces rows named positionals h later =
    step (later (with_values positional_id AsWritten CommandLine (word ∷ []) rows) (positionals ++ word ∷ []) (holds_positional rows named positionals word h))
  where
    step : Uses true pieces (with_values positional_id AsWritten CommandLine (word ∷ []) rows) named (positionals ++ word ∷ [])
        → Uses true (positional word ∷ pieces) rows named positionals
    step (used end is ok holds) = used end is ok (subst (Holds end (named ++ named_of pieces)) (append_assoc positionals (word ∷ []) (positionals_of pieces)) holds)
    step (unused is fails) = unused is fails

pub all_used : (takes : Bool) (pieces : List Piece) (rows : List Row) (named : List (Text × Text)) (positionals : List Text)
    → list_all is_plain_piece pieces ≡ true → Holds rows named positionals → Uses takes pieces rows named positionals
all_used takes [] rows named positionals plain h = used rows refl (or_true takes) (record {
  named_is = h.named_is ∙ sym (append-nil named);
  positionals_is = h.positionals_is ∙ sym (append-nil positionals);
  explicit = h.explicit;
  finds = λ name p. h.finds name p ∙ ap (λ ns. option_map (λ v. Some v) (value_among name ns)) (sym (append-nil named));
})
all_used takes (option name v ∷ pieces) rows named positionals plain h =
    let parts = and_parts (not (bytes_eq name positional_id)) (list_all is_plain_piece pieces) plain in
    named_uses takes (option name v) name v pieces rows named positionals (λ _. refl) (λ _. refl) (λ _. refl) (not_true _ parts.0) h
    (λ after more. all_used takes pieces after more positionals parts.1)
all_used takes (flag name ∷ pieces) rows named positionals plain h =
    let parts = and_parts (not (bytes_eq name positional_id)) (list_all is_plain_piece pieces) plain in
    named_uses takes (flag name) name (codes "true") pieces rows named positionals (λ _. refl) (λ _. refl) (λ _. refl) (not_true _ parts.0) h
    (λ after more. all_used takes pieces after more positionals parts.1)
all_used takes (positional word ∷ pieces) rows named positionals plain h =
    positional_uses takes word pieces rows named positionals h (λ after more. all_used takes pieces after named more plain)
