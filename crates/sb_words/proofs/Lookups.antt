-- Which rule of a built command a name, an id or a place finds.
use Rattle.std.proofs.Common.{◌≡◌, ◌∙◌, sym, ap, ap₂, refl, subst, ◌==◌, Bool, true, false, not, cond, ◌&&◌, ◌||◌, List, [], ◌∷◌, ◌++◌, map, Some, None, is_some, option_map, if◌then◌else◌}
use Rattle.std.specs.List.{list_all}
use Rattle.std.specs.Option.{option_map_or}
use Rattle.std.specs.Str.{bytes_eq}
use Rattle.std.proofs.lemmas.Slice.Eq.{bytes_eq-Decides}
use Rattle.std.proofs.lemmas.Bool.{false≢true}
use Rattle.clap.specs.Walk.{arg_by_id, arg_by_index, arg_by_long, has_long}
use Rattle.clap.specs.Words.{Rule, Text}
use Rattle.sb_words.specs.declared.shape.OptionKind.{OptionKind}
use Rattle.sb_words.specs.declared.shape.OptionKind.TheVariants.{Needed, Optional, Flag}
use Rattle.sb_words.specs.CommandLine.{CommandOption, CommandShape, has_plain_names, is_value, option_named}
use Rattle.sb_words.specs.Rows.{positional_id}
use Rattle.sb_words.proofs.Rules.{filled_kind, filled_option, filled_positional, filled_rules, last_rules}

-- the test of a rule that finds an option by its name
long_test : (kind : OptionKind) (own name : Text) → (not (is_some (filled_kind kind own).index) && has_long (filled_kind kind own) name) ≡ (bytes_eq own name || false)
long_test Needed own name = refl
long_test Optional own name = refl
long_test Flag own name = refl

id_test : (kind : OptionKind) (own name : Text) → bytes_eq (filled_kind kind own).id name ≡ bytes_eq own name
id_test Needed own name = refl
id_test Optional own name = refl
id_test Flag own name = refl

place_test : (kind : OptionKind) (own : Text) → option_map_or (λ k. k == 1) (filled_kind kind own).index false ≡ false
place_test Needed own = refl
place_test Optional own = refl
place_test Flag own = refl

or_false : (b : Bool) → (b || false) ≡ b
or_false true = refl
or_false false = refl

long_last : (takes : Bool) (name : Text) → arg_by_long (last_rules takes) name ≡ None
long_last true name = refl
long_last false name = refl

pub by_long : (options : List CommandOption) (takes : Bool) (name : Text)
    → arg_by_long (map filled_option options ++ last_rules takes) name ≡ option_map filled_option (option_named options name)
by_long [] takes name = long_last takes name
by_long (o ∷ options) takes name =
    ap₂ (λ b rest. cond b (Some (filled_option o)) rest) (long_test o.kind o.name name ∙ or_false _) (by_long options takes name)
    ∙ go (bytes_eq o.name name)
  where
    go : (b : Bool) → cond b (Some (filled_option o)) (option_map filled_option (option_named options name))
        ≡ option_map filled_option (cond b (Some o) (option_named options name))
    go true = refl
    go false = refl

pub named_is : (options : List CommandOption) (name : Text) (o : CommandOption) → option_named options name ≡ Some o → o.name ≡ name
named_is [] name o e = cc
named_is (x ∷ options) name o e = go (bytes_eq x.name name) refl (named_is options name o)
  where
    go : (b : Bool) → bytes_eq x.name name ≡ b → (option_named options name ≡ Some o → o.name ≡ name) → o.name ≡ name
    go true t later =
        let same : Some x ≡ Some o = rw t at e in
        let one : x ≡ o = cc in
        ap (λ (y : CommandOption). y.name) (sym one) ∙ (bytes_eq-Decides x.name name).0 t
    go false t later = later (rw t at e)

pub by_id : (options : List CommandOption) (rest : List Rule) (name : Text) (o : CommandOption) → option_named options name ≡ Some o
    → arg_by_id (map filled_option options ++ rest) name ≡ Some (filled_option o)
by_id [] rest name o e = cc
by_id (x ∷ options) rest name o e = go (bytes_eq x.name name) refl (by_id options rest name o)
  where
    go : (b : Bool) → bytes_eq x.name name ≡ b → (option_named options name ≡ Some o → arg_by_id (map filled_option options ++ rest) name ≡ Some (filled_option o))
        → arg_by_id (map filled_option (x ∷ options) ++ rest) name ≡ Some (filled_option o)
    go true t later =
        let same : Some x ≡ Some o = rw t at e in
        ap (λ b. cond b (Some (filled_option x)) (arg_by_id (map filled_option options ++ rest) name)) (id_test x.kind x.name name ∙ t)
        ∙ ap (option_map filled_option) same
    go false t later =
        ap (λ b. cond b (Some (filled_option x)) (arg_by_id (map filled_option options ++ rest) name)) (id_test x.kind x.name name ∙ t)
        ∙ later (rw t at e)

place_last : (takes : Bool) → arg_by_index (last_rules takes) 1 ≡ (if takes then Some filled_positional else None)
place_last true = refl
place_last false = refl

pub by_place : (options : List CommandOption) (takes : Bool)
    → arg_by_index (map filled_option options ++ last_rules takes) 1 ≡ (if takes then Some filled_positional else None)
by_place [] takes = place_last takes
by_place (o ∷ options) takes =
    ap (λ b. cond b (Some (filled_option o)) (arg_by_index (map filled_option options ++ last_rules takes) 1)) (place_test o.kind o.name)
    ∙ by_place options takes

-- a name that may follow two dashes is not the id of the positional words
pub plain_name : (name : Text) → is_value name ≡ true → bytes_eq name positional_id ≡ false
plain_name name plain = go (bytes_eq name positional_id) refl
  where
    go : (b : Bool) → bytes_eq name positional_id ≡ b → b ≡ false
    go false e = refl
    go true e =
        let bad : false ≡ true = subst (λ n. is_value n ≡ true) ((bytes_eq-Decides name positional_id).0 e) plain in
        absurd (false≢true bad)

pub both_true : (a b : Bool) → (a && b) ≡ true → (a ≡ true) × (b ≡ true)
both_true true b e = (refl, e)
both_true false b e = absurd (false≢true e)

pub by_last : (options : List CommandOption) → list_all (λ o. is_value o.name) options ≡ true
    → arg_by_id (map filled_option options ++ filled_positional ∷ []) positional_id ≡ Some filled_positional
by_last [] plain = refl
by_last (o ∷ options) plain =
    let parts = both_true (is_value o.name) _ plain in
    ap (λ b. cond b (Some (filled_option o)) (arg_by_id (map filled_option options ++ filled_positional ∷ []) positional_id))
    (id_test o.kind o.name positional_id ∙ plain_name o.name parts.0)
    ∙ by_last options parts.1

-- what the rules of a shape find
pub record Finds (options : List CommandOption) (takes : Bool) (rules : List Rule) : Type 0 where
  pub long : (name : Text) → arg_by_long rules name ≡ option_map filled_option (option_named options name)
  pub id : (name : Text) (o : CommandOption) → option_named options name ≡ Some o → arg_by_id rules name ≡ Some (filled_option o)
  pub place : arg_by_index rules 1 ≡ (if takes then Some filled_positional else None)
  pub last : takes ≡ true → arg_by_id rules positional_id ≡ Some filled_positional

pub finds : (shape : CommandShape) → has_plain_names shape ≡ true → Finds shape.options shape.takes_positionals (filled_rules shape)
finds shape plain = record {
  long = by_long shape.options shape.takes_positionals;
  id = by_id shape.options (last_rules shape.takes_positionals);
  place = by_place shape.options shape.takes_positionals;
  last = λ t. ap (λ b. arg_by_id (map filled_option shape.options ++ last_rules b) positional_id) t ∙ by_last shape.options plain;
}
