-- What the words of a command line give.
use Rattle.std.proofs.Common.{◌≡◌, ℕ, suc, ◌≤◌, List, [], ◌∷◌, Bool, true, false, length, refl, ap, subst, arith, Option, Some, None}
use Rattle.std.specs.Prelude.{⊤, ◌&&◌, IfSome, if◌then◌else◌, codes, nat_le, nat_lt, option_and_then, option_map, unwrap_or}
use Rattle.std.specs.Option.{option_or}
use Rattle.std.specs.Result.{result_ok}
use Rattle.std.specs.Str.{bytes_eq}
use Rattle.std.specs.Str.Parse.{digits_value}
use Rattle.std.proofs.lemmas.Bool.{leb-true}
use Rattle.sb_model.specs.declared.names.ListName.{ListName}
use Rattle.sb_model.specs.History.{IsPrefixSize}
use Rattle.sb_model.specs.Names.{name_of}
use Rattle.sb_words.specs.CommandLine.{Given, Text, given_of, value_among}
use Rattle.sb_words.specs.Values.{different, few_names_of, has_each_once, is_numeral, lists_named, names_of, number_of, within}
use Rattle.journal_run.specs.declared.command.Call.{Call}
use Rattle.journal_run.specs.declared.command.Command.{Command}
use Rattle.journal_run.specs.declared.command.Command.TheVariants.{New, Change, Check, Compact, Tell}
use Rattle.journal_run.specs.Command.{call_behind, call_named, call_of, change_given, change_shape, command_of, has_given, has_shape, list_given, new_given, new_shape, plain_call, plain_shape, size_given, size_if_given, sync_given, sync_shape, asks_of_maker}

-- ---- what may be there

some_if : {A : Type 0} (P : A → Type 0) (b : Bool) (x y : Option A) → (b ≡ true → IfSome x P) → IfSome y P → IfSome (if b then x else y) P
some_if P true x y h k = h refl
some_if P false x y h k = k

some_then : {A B : Type 0} (P : B → Type 0) (f : A → Option B) (o : Option A) → ((a : A) → IfSome (f a) P) → IfSome (option_and_then f o) P
some_then P f None h = tt
some_then P f (Some a) h = h a

some_after : {A B : Type 0} (Q : A → Type 0) (P : B → Type 0) (f : A → Option B) (o : Option A) → IfSome o Q → ((a : A) → Q a → IfSome (f a) P) → IfSome (option_and_then f o) P
some_after Q P f None h k = tt
some_after Q P f (Some a) h k = k a h

some_mapped : {A B : Type 0} (Q : A → Type 0) (P : B → Type 0) (f : A → B) (o : Option A) → IfSome o Q → ((a : A) → Q a → P (f a)) → IfSome (option_map f o) P
some_mapped Q P f None h k = tt
some_mapped Q P f (Some a) h k = k a h

some_of_any : {A B : Type 0} (P : B → Type 0) (f : A → B) (o : Option A) → ((a : A) → P (f a)) → IfSome (option_map f o) P
some_of_any P f None h = tt
some_of_any P f (Some a) h = h a

some_either : {A : Type 0} (P : A → Type 0) (x y : Option A) → IfSome x P → IfSome y P → IfSome (option_or x y) P
some_either P None y h k = k
some_either P (Some a) y h k = h

both : (a b : Bool) → (a && b) ≡ true → (a ≡ true) × (b ≡ true)
both true b e = (refl, e)
both false b e = absurd (cc)

-- ---- sizes

within_is : (n : ℕ) → IfSome (within 4 32 n) IsPrefixSize
within_is n =
    some_if IsPrefixSize (nat_le 4 n && nat_le n 32) (Some n) None
    (λ e. let h = both (nat_le 4 n) (nat_le n 32) e in record { low = leb-true 4 n h.0; high = leb-true n 32 h.1 }) tt

number_is : (text : Text) → IfSome (number_of 4 32 text) IsPrefixSize
number_is text = some_if IsPrefixSize (is_numeral text) (within 4 32 (digits_value 10 text)) None (λ e. within_is (digits_value 10 text)) tt

abbrev IsSizeOrNone : Option ℕ → Type 0
IsSizeOrNone size = IfSome size IsPrefixSize

size_is : (text : Option Text) → IfSome (size_if_given text) IsSizeOrNone
size_is None = tt
size_is (Some text) = some_mapped IsPrefixSize IsSizeOrNone Some (number_of 4 32 text) (number_is text) (λ n h. h)

size_or_four : (size : Option ℕ) → IsSizeOrNone size → IsPrefixSize (unwrap_or size 4)
size_or_four None h = record { low = omega arith; high = omega arith }
size_or_four (Some n) h = h

-- ---- lists

names_are_as_many : (texts : List Text) → IfSome (names_of texts) (λ names. length names ≡ length texts)
names_are_as_many [] = refl
names_are_as_many (text ∷ texts) =
    some_then (λ (names : List ListName). length names ≡ suc (length texts)) (λ name. option_map (λ names. name ∷ names) (names_of texts)) (result_ok (name_of text)) (λ name.
    some_mapped (λ (names : List ListName). length names ≡ length texts) (λ (names : List ListName). length names ≡ suc (length texts)) (λ names. name ∷ names) (names_of texts)
    (names_are_as_many texts) (λ names e. ap suc e))

abbrev AreFew : List ListName → Type 0
AreFew names = length names ≤ 8

few_are : (texts : List Text) → IfSome (few_names_of texts) AreFew
few_are texts =
    some_if AreFew (nat_lt 0 (length texts) && nat_le (length texts) 8) (names_of texts) None
    (λ e. fewer (names_of texts) (names_are_as_many texts) (leb-true (length texts) 8 (both (nat_lt 0 (length texts)) (nat_le (length texts) 8) e).1)) tt
  where
    fewer : (o : Option (List ListName)) → IfSome o (λ names. length names ≡ length texts) → length texts ≤ 8 → IfSome o AreFew
    fewer None h few = tt
    fewer (Some names) h few = omega (arith, h, few)

abbrev AreFewAndOnce : List ListName → Type 0
AreFewAndOnce names = AreFew names × (has_each_once names ≡ true)

lists_are : (texts : List Text) → IfSome (lists_named texts) AreFewAndOnce
unfolding lists_named
lists_are texts =
    some_after AreFew AreFewAndOnce different (few_names_of texts) (few_are texts) (λ names few.
    some_if AreFewAndOnce (has_each_once names) (Some names) None (λ e. (few, e)) tt)

-- ---- commands

-- the size and the lists of a `new`, and the size of a `change`
abbrev pub HasGiven : Command → Type 0
HasGiven (New line) = IsPrefixSize line.size × AreFewAndOnce line.lists
HasGiven (Change line) = IsSizeOrNone line.size
HasGiven command = ⊤

abbrev IsGivenCall : Call → Type 0
IsGivenCall call = HasGiven call.command

new_is : (given : Given) → IfSome (new_given given) IsGivenCall
new_is given =
    some_after IsSizeOrNone IsGivenCall
    (λ size. option_map (λ lists. plain_call (New (record { size = unwrap_or size 4; lists = lists }))) (lists_named given.positionals)) (size_given given.named)
    (size_is (value_among (codes "size") given.named)) (λ size s.
    some_mapped AreFewAndOnce IsGivenCall (λ lists. plain_call (New (record { size = unwrap_or size 4; lists = lists }))) (lists_named given.positionals)
    (lists_are given.positionals) (λ lists l. (size_or_four size s, l)))

change_is : (given : Given) → IfSome (change_given given) IsGivenCall
change_is given =
    some_after IsSizeOrNone IsGivenCall _ (size_given given.named) (size_is (value_among (codes "size") given.named)) (λ size s.
    some_of_any IsGivenCall _ (list_given given.positionals) (λ list. s))

sync_is : (given : Given) → IfSome (sync_given given) IsGivenCall
sync_is given =
    some_then IsGivenCall _ (value_among (codes "journal") given.named) (λ path. some_of_any IsGivenCall _ (list_given given.positionals) (λ list. tt))

has_is : (given : Given) → IfSome (has_given given) IsGivenCall
has_is given =
    some_then IsGivenCall _ (value_among (codes "journal") given.named) (λ path. some_of_any IsGivenCall _ (list_given given.positionals) (λ list. tt))

named_is : (name : Text) (words : List Text) → IfSome (call_named name words) IsGivenCall
named_is name words =
    some_if IsGivenCall (bytes_eq name (codes "new")) _ _ (λ e. some_then IsGivenCall new_given (given_of new_shape words) new_is)
    (some_if IsGivenCall (bytes_eq name (codes "sync")) _ _ (λ e. some_then IsGivenCall sync_given (given_of sync_shape words) sync_is)
    (some_if IsGivenCall (bytes_eq name (codes "change")) _ _ (λ e. some_then IsGivenCall change_given (given_of change_shape words) change_is)
    (some_if IsGivenCall (bytes_eq name (codes "has")) _ _ (λ e. some_then IsGivenCall has_given (given_of has_shape words) has_is)
    (some_if IsGivenCall (bytes_eq name (codes "check")) _ _ (λ e. some_of_any IsGivenCall (λ _. plain_call Check) (given_of plain_shape words) (λ given. tt))
    (some_if IsGivenCall (bytes_eq name (codes "compact")) _ None (λ e. some_of_any IsGivenCall (λ _. plain_call Compact) (given_of plain_shape words) (λ given. tt)) tt)))))

call_behind_is : (words : List Text) → IfSome (call_behind words) IsGivenCall
call_behind_is [] = tt
call_behind_is (program ∷ []) = tt
call_behind_is (program ∷ name ∷ words) = some_if IsGivenCall (bytes_eq program (codes "sbjournal")) (call_named name words) None (λ e. named_is name words) tt

call_is : (words : List Text) → IfSome (call_of words) IsGivenCall
unfolding call_of
call_is words =
    some_either IsGivenCall (option_map (λ about. plain_call (Tell about)) (asks_of_maker words)) (call_behind words)
    (some_of_any IsGivenCall (λ about. plain_call (Tell about)) (asks_of_maker words) (λ about. tt)) (call_behind_is words)

command_has : (call : Option Call) (command : Command) → IfSome call IsGivenCall → option_map (λ (c : Call). c.command) call ≡ Some command → HasGiven command
command_has None command h e = absurd (cc)
command_has (Some call) command h e = subst HasGiven (the_same call.command command e) h
  where
    the_same : (a b : Command) → (let some : Option Command = Some a in some ≡ Some b) → a ≡ b
    the_same a b e = cc

-- What words give has been read by its rules.
pub words_give : (words : List Text) (command : Command) → command_of words ≡ Some command → HasGiven command
words_give words command e = command_has (call_of words) command (call_is words) e
