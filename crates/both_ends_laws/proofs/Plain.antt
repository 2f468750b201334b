-- What is written compactly of a value with no float reads as that value.
use Rattle.std.proofs.Common.{◌≡◌, ℕ, ◌^◌, ◌<◌, ◌≤◌, List, [], ◌∷◌, ◌++◌, Bool, true, false, cond, refl, sym, ap, ◌∙◌, Option, Some, None, Ok, arith, append-nil}
use Rattle.std.specs.Prelude.{⊤, decimal, option_map, option_and_then}
use Rattle.std.specs.Ordering.{nat_cmp, match_ordering, ordering_reverse}
use Rattle.std.specs.Cmp.Lexicographic.{slice_cmp}
use Rattle.std.specs.List.{AllByRecursion}
use Rattle.std.specs.Str.{IsUtf8}
use Rattle.std.specs.declared.cmp.Ordering.{Ordering}
use Rattle.std.specs.declared.cmp.Ordering.TheVariants.{Less, Equal, Greater}
use Rattle.std.proofs.lemmas.Cmp.{nat_list_cmp_total}
use Rattle.std.proofs.lemmas.Fmt.{IsAscii-decimal}
use Rattle.std.proofs.lemmas.Str.{IsUtf8-append, IsUtf8-nil, IsUtf8-from_ascii, is_utf8-from_IsUtf8}
use Rattle.json.specs.Lex.{tokens}
use Rattle.json.specs.Json as json
use Rattle.json.specs.Print.{quoted, token_text}
use Rattle.json.specs.Token.{Token}
use Rattle.json.specs.Tree as tree
use Rattle.json.specs.Tree.{json_tokens}
use Rattle.json.proofs.Printed.Decimals.{IsNumber-decimal}
use Rattle.json.proofs.Printed.Tokens.{tokens-print}
use Rattle.json.proofs.Printed.Trees.{ArePrintable-json_tokens, value-json_tokens}
use Rattle.json.proofs.Printed.Utf8.{IsUtf8-are_ascii, IsUtf8-quoted}
use Rattle.serde_json.specs.Data.{Num, unsigned, negative, float, Data, null, boolean, number, string, array, object, Items, no_items, item, Members, no_members, member, put, depth, items_depth, members_depth}
use Rattle.serde_json.specs.Read.{read, max_depth, of_json, of_items, of_members}
use Rattle.serde_json.specs.View.{items_of}
use Rattle.serde_json.specs.Written.{compact_text, items_text, members_text, comma_if, number_text, outline, items_outline, members_outline}
use Rattle.serde_json.proofs.Numbers.{number_of-decimal}
use Rattle.serde_json.proofs.Texts.{print-outline}
use Rattle.sb_json.specs.Density.{too_dense}
use Rattle.sb_json.specs.Values.{json_of, or_no_json, unless_dense, value_of}

-- ---- plain values

-- a number of 64 bits without a sign
abbrev IsPlainNumber : Num → Type 0
IsPlainNumber (unsigned n) = n < 2 ^ 64
IsPlainNumber (negative z) = ⊥
IsPlainNumber (float x) = ⊥

abbrev pub IsBefore : List ℕ → List ℕ → Type 0
IsBefore k l = slice_cmp nat_cmp k l ≡ Less

-- a key stands before those of members
abbrev pub IsBeforeAll : List ℕ → Members → Type 0
IsBeforeAll k no_members = ⊤
IsBeforeAll k (member l e ms) = IsBefore k l × IsBeforeAll k ms

-- Its numbers are plain, its texts are UTF-8, and the keys of each object rise.
abbrev mutual
  pub IsPlain : Data → Type 0
  IsPlain null = ⊤
  IsPlain (boolean b) = ⊤
  IsPlain (number n) = IsPlainNumber n
  IsPlain (string s) = IsUtf8 s
  IsPlain (array ds) = ItemsArePlain ds
  IsPlain (object ms) = MembersArePlain ms

  pub ItemsArePlain : Items → Type 0
  ItemsArePlain no_items = ⊤
  ItemsArePlain (item d ds) = IsPlain d × ItemsArePlain ds

  pub MembersArePlain : Members → Type 0
  MembersArePlain no_members = ⊤
  MembersArePlain (member k d ms) = IsUtf8 k × IsPlain d × IsBeforeAll k ms × MembersArePlain ms

-- ---- numbers, depths

number_there : (n : Num) → IsPlainNumber n → tree.HasNumbers (json.number (number_text n))
number_there (unsigned n) h = IsNumber-decimal n h
number_there (negative z) h = absurd h
number_there (float x) h = absurd h

mutual
  numbers_there : (d : Data) → IsPlain d → tree.HasNumbers (outline d)
  numbers_there null h = tt
  numbers_there (boolean b) h = tt
  numbers_there (number n) h = number_there n h
  numbers_there (string s) h = tt
  numbers_there (array ds) h = items_numbers ds h
  numbers_there (object ms) h = members_numbers ms h

  items_numbers : (ds : Items) → ItemsArePlain ds → tree.ItemsHaveNumbers (items_outline ds)
  items_numbers no_items h = tt
  items_numbers (item d ds) h = (numbers_there d h.0, items_numbers ds h.1)

  members_numbers : (ms : Members) → MembersArePlain ms → tree.MembersHaveNumbers (members_outline ms)
  members_numbers no_members h = tt
  members_numbers (member k d ms) h = (numbers_there d h.1, members_numbers ms h.3)

mutual
  as_deep : (d : Data) → tree.depth (outline d) ≡ depth d
  as_deep null = refl
  as_deep (boolean b) = refl
  as_deep (number n) = refl
  as_deep (string s) = refl
  as_deep (array ds) = omega (arith, items_as_deep ds)
  as_deep (object ms) = omega (arith, members_as_deep ms)

  items_as_deep : (ds : Items) → tree.items_depth (items_outline ds) ≡ items_depth ds
  items_as_deep no_items = refl
  items_as_deep (item d ds) = omega (arith, as_deep d, items_as_deep ds)

  members_as_deep : (ms : Members) → tree.members_depth (members_outline ms) ≡ members_depth ms
  members_as_deep no_members = refl
  members_as_deep (member k d ms) = omega (arith, as_deep d, members_as_deep ms)

-- ---- members go in one after another

-- members and then others
abbrev joined_to : Members → Members → Members
joined_to no_members ms = ms
joined_to (member k d found) ms = member k d (joined_to found ms)

abbrev AllBefore : Members → List ℕ → Type 0
AllBefore no_members k = ⊤
AllBefore (member l e found) k = IsBefore l k × AllBefore found k

abbrev AllBeforeAll : Members → Members → Type 0
AllBeforeAll found no_members = ⊤
AllBeforeAll found (member k d ms) = AllBefore found k × AllBeforeAll found ms

turned : (k l : List ℕ) → IsBefore l k → slice_cmp nat_cmp k l ≡ Greater
turned k l h = nat_list_cmp_total.antisymm k l ∙ ap ordering_reverse h

turned_back : (k l : List ℕ) → slice_cmp nat_cmp k l ≡ Greater → IsBefore l k
turned_back k l h = nat_list_cmp_total.antisymm l k ∙ ap ordering_reverse h

put_at_end : (k : List ℕ) (d : Data) (found : Members) → AllBefore found k → put k d found ≡ joined_to found (member k d no_members)
put_at_end k d no_members h = refl
put_at_end k d (member l e found) h =
    ap (λ (order : Ordering). match_ordering order (member k d (member l e found)) (member l d found) (member l e (put k d found))) (turned k l h.0)
    ∙ ap (λ (more : Members). member l e more) (put_at_end k d found h.1)

joined_once : (found : Members) (k : List ℕ) (d : Data) (ms : Members) → joined_to (joined_to found (member k d no_members)) ms ≡ joined_to found (member k d ms)
joined_once no_members k d ms = refl
joined_once (member l e found) k d ms = ap (λ (more : Members). member l e more) (joined_once found k d ms)

before_more : (found : Members) (k l : List ℕ) (d : Data) → AllBefore found l → IsBefore k l → AllBefore (joined_to found (member k d no_members)) l
before_more no_members k l d h g = (g, tt)
before_more (member m e found) k l d h g = (h.0, before_more found k l d h.1 g)

all_before_more : (found : Members) (k : List ℕ) (d : Data) (ms : Members) → AllBeforeAll found ms → IsBeforeAll k ms → AllBeforeAll (joined_to found (member k d no_members)) ms
all_before_more found k d no_members h g = tt
all_before_more found k d (member l e ms) h g = (before_more found k l d h.0 g.0, all_before_more found k d ms h.1 g.1)

none_before : (ms : Members) → AllBeforeAll no_members ms
none_before no_members = tt
none_before (member k d ms) = (tt, none_before ms)

joined_nothing : (found : Members) → joined_to found no_members ≡ found
joined_nothing no_members = refl
joined_nothing (member k d found) = ap (λ (more : Members). member k d more) (joined_nothing found)

-- ---- reading

number_read : (n : Num) → IsPlainNumber n → of_json (json.number (number_text n)) ≡ Some (number n)
number_read (unsigned n) h = ap (option_map number) (number_of-decimal n h)
number_read (negative z) h = absurd h
number_read (float x) h = absurd h

mutual
  value_read : (d : Data) → IsPlain d → of_json (outline d) ≡ Some d
  value_read null h = refl
  value_read (boolean b) h = refl
  value_read (number n) h = number_read n h
  value_read (string s) h = refl
  value_read (array ds) h = ap (option_map array) (items_read ds h)
  value_read (object ms) h = ap (option_map object) (members_read ms no_members h (none_before ms))

  items_read : (ds : Items) → ItemsArePlain ds → of_items (items_outline ds) ≡ Some ds
  items_read no_items h = refl
  items_read (item d ds) h =
      ap (option_and_then (λ (first : Data). option_map (item first) (of_items (items_outline ds)))) (value_read d h.0)
      ∙ ap (option_map (item d)) (items_read ds h.1)

  members_read : (ms found : Members) → MembersArePlain ms → AllBeforeAll found ms → of_members (members_outline ms) found ≡ Some (joined_to found ms)
  members_read no_members found h g = ap (λ (all : Members). Some all) (sym (joined_nothing found))
  members_read (member k d ms) found h g =
      ap (option_and_then (λ (first : Data). of_members (members_outline ms) (put k first found))) (value_read d h.1)
      ∙ ap (of_members (members_outline ms)) (put_at_end k d found g.0)
      ∙ members_read ms (joined_to found (member k d no_members)) h.3 (all_before_more found k d ms g.1 h.2)
      ∙ ap (λ (all : Members). Some all) (joined_once found k d ms)

abbrev whole : Option (json.Json × List Token) → Option Data
whole found = option_and_then of_json (option_and_then (λ p. json.if_last p.0 p.1) found)

read_plain : (d : Data) → IsPlain d → depth d ≤ max_depth → read (compact_text d) ≡ Some d
read_plain d plain shallow =
    let same : tokens (compact_text d) ≡ json_tokens (outline d) =
    ap tokens (sym (print-outline d)) ∙ tokens-print (json_tokens (outline d)) (ArePrintable-json_tokens (outline d) (numbers_there d plain)) in
    ap whole (ap (json.value max_depth) (same ∙ sym (append-nil _)) ∙ value-json_tokens (outline d) max_depth [] (omega (arith, as_deep d, shallow))) ∙ value_read d plain

-- ---- the bytes are UTF-8

one_byte : (x : ℕ) → x < 128 → IsUtf8 (x ∷ [])
one_byte x h = IsUtf8-are_ascii (x ∷ []) (grind (arith, h))

comma_text : (later : Bool) → IsUtf8 (comma_if later)
comma_text true = IsUtf8-are_ascii (44 ∷ []) refl
comma_text false = IsUtf8-nil

number_utf8 : (n : Num) → IsPlainNumber n → IsUtf8 (number_text n)
number_utf8 (unsigned n) h = IsUtf8-from_ascii (decimal n) (IsAscii-decimal n h)
number_utf8 (negative z) h = absurd h
number_utf8 (float x) h = absurd h

mutual
  text_utf8 : (d : Data) → IsPlain d → IsUtf8 (compact_text d)
  text_utf8 null h = IsUtf8-are_ascii (token_text Token.null) refl
  text_utf8 (boolean true) h = IsUtf8-are_ascii (token_text (Token.boolean true)) refl
  text_utf8 (boolean false) h = IsUtf8-are_ascii (token_text (Token.boolean false)) refl
  text_utf8 (number n) h = number_utf8 n h
  text_utf8 (string s) h = IsUtf8-quoted s h
  text_utf8 (array ds) h = IsUtf8-append (91 ∷ []) (items_text false ds) (IsUtf8-are_ascii (91 ∷ []) refl) (items_utf8 false ds h)
  text_utf8 (object ms) h = IsUtf8-append (123 ∷ []) (members_text false ms) (IsUtf8-are_ascii (123 ∷ []) refl) (members_utf8 false ms h)

  items_utf8 : (later : Bool) (ds : Items) → ItemsArePlain ds → IsUtf8 (items_text later ds)
  items_utf8 later no_items h = IsUtf8-are_ascii (93 ∷ []) refl
  items_utf8 later (item d ds) h =
      IsUtf8-append (comma_if later) (compact_text d ++ items_text true ds) (comma_text later) (IsUtf8-append (compact_text d) (items_text true ds) (text_utf8 d h.0) (items_utf8 true ds h.1))

  members_utf8 : (later : Bool) (ms : Members) → MembersArePlain ms → IsUtf8 (members_text later ms)
  members_utf8 later no_members h = IsUtf8-are_ascii (125 ∷ []) refl
  members_utf8 later (member k d ms) h =
      IsUtf8-append (comma_if later) (quoted k ++ 58 ∷ (compact_text d ++ members_text true ms)) (comma_text later)
      (IsUtf8-append (quoted k) (58 ∷ (compact_text d ++ members_text true ms)) (IsUtf8-quoted k h.0)
      (IsUtf8-append (58 ∷ []) (compact_text d ++ members_text true ms) (IsUtf8-are_ascii (58 ∷ []) refl)
      (IsUtf8-append (compact_text d) (members_text true ms) (text_utf8 d h.1) (members_utf8 true ms h.3))))

-- A plain value is what its text is read as, where this is not too dense.
pub value_again : (d : Data) → IsPlain d → depth d ≤ max_depth → too_dense (compact_text d) ≡ None → value_of (compact_text d) ≡ Ok d
value_again d plain shallow thin =
    let json : json_of (compact_text d) ≡ Some d =
    ap (λ (b : Bool). cond b (read (compact_text d)) None) (is_utf8-from_IsUtf8 (compact_text d) (text_utf8 d plain)) ∙ read_plain d plain shallow in
    ap (λ (place : Option ℕ). unless_dense place (json_of (compact_text d))) thin ∙ ap (λ (found : Option Data). or_no_json found) json

-- ---- members that are put at their place

before_put : (l k : List ℕ) (d : Data) (ms : Members) → IsBefore l k → IsBeforeAll l ms → IsBeforeAll l (put k d ms)
before_put l k d no_members h g = (h, tt)
before_put l k d (member m e ms) h g = go (slice_cmp nat_cmp k m) (before_put l k d ms h g.1)
  where
    go : (order : Ordering) → IsBeforeAll l (put k d ms) → IsBeforeAll l (match_ordering order (member k d (member m e ms)) (member m d ms) (member m e (put k d ms)))
    go Less rest = (h, g)
    go Equal rest = g
    go Greater rest = (g.0, rest)

all_later : (k l : List ℕ) (ms : Members) → IsBefore k l → IsBeforeAll l ms → IsBeforeAll k ms
all_later k l no_members h g = tt
all_later k l (member m e ms) h g = (nat_list_cmp_total.trans k l m h g.0, all_later k l ms h g.1)

pub put_plain : (k : List ℕ) (d : Data) (ms : Members) → IsUtf8 k → IsPlain d → MembersArePlain ms → MembersArePlain (put k d ms)
put_plain k d no_members key value h = (key, value, tt, tt)
put_plain k d (member l e ms) key value h = go (slice_cmp nat_cmp k l) refl (put_plain k d ms key value h.3)
  where
    go : (order : Ordering) → slice_cmp nat_cmp k l ≡ order → MembersArePlain (put k d ms)
        → MembersArePlain (match_ordering order (member k d (member l e ms)) (member l d ms) (member l e (put k d ms)))
    go Less is rest = (key, value, (is, all_later k l ms is h.2), h)
    go Equal is rest = (h.0, value, h.2, h.3)
    go Greater is rest = (h.0, h.1, before_put l k d ms (turned_back k l is) h.2, rest)

pub items_plain : (ds : List Data) → AllByRecursion IsPlain ds → ItemsArePlain (items_of ds)
items_plain [] h = tt
items_plain (d ∷ ds) h = (h.0, items_plain ds h.1)
