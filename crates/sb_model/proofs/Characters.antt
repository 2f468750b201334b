-- Characters of a text, by place.
use Rattle.std.proofs.Math.Utf8.{encode, encodes}
use Rattle.std.specs.Char.{IsScalar}
use Rattle.std.specs.Cmp.Lexicographic.{pointwise, bytes_decides}
use Rattle.std.proofs.Common.{append-nil, ◌≡◌, ℕ, zero, suc, ◌<◌, List, [], ◌∷◌, ◌++◌, length, get_or, refl, sym, ap, ◌∙◌, Option, Some, None, arith, Bool, true, false, nat_eq}
use Rattle.std.specs.Prelude.{slice_get, option_map, IsSome}
use Rattle.std.specs.Str.{chars, IsUtf8}
use Rattle.std.proofs.lemmas.Str.{chars-nil, encodes-chars, chars-append, chars_past_char, IsUtf8-encode}

pub option_map_same : {A : Type 0} (o : Option A) → option_map (λ x. x) o ≡ o
option_map_same None = refl
option_map_same (Some x) = refl

-- there is a member at each place within
pub some_within : (xs : List ℕ) (i : ℕ) → i < length xs → IsSome (slice_get xs i)
some_within [] i h = absurd (omega arith)
some_within (x ∷ xs) zero h = refl
some_within (x ∷ xs) (suc i) h = some_within xs i (omega arith)

pub index_is : (xs : List ℕ) (i x : ℕ) → slice_get xs i ≡ Some x → x ≡ get_or xs i 0
index_is [] i x h = absurd (cc)
index_is (y ∷ xs) zero x h = cc
index_is (y ∷ xs) (suc i) x h = index_is xs i x h

-- a text without bytes has no characters, and one without characters no bytes
pub no_chars : (bs : List ℕ) → length bs ≡ 0 → chars bs ≡ []
no_chars [] h = chars-nil
no_chars (b ∷ bs) h = absurd (omega arith)

pub no_bytes : (bs : List ℕ) → IsUtf8 bs → chars bs ≡ [] → length bs ≡ 0
no_bytes bs u h = ap length (sym (encodes-chars bs u) ∙ ap encodes h)

-- one more character
pub chars_push : (bs : List ℕ) (c : ℕ) → IsUtf8 bs → IsScalar c → chars (bs ++ encode c) ≡ chars bs ++ c ∷ []
chars_push bs c u s =
    chars-append bs (encode c) u
    ∙ ap (λ cs. chars bs ++ cs) (chars_past_char (encode c) [] c (IsUtf8-encode c s) (sym (append-nil (encode c))) ∙ ap (λ cs. c ∷ cs) chars-nil)

-- two tests that decide the same are one
same_test : (b c : Bool) → (b ≡ true → c ≡ true) → (c ≡ true → b ≡ true) → b ≡ c
same_test true c there back = sym (there refl)
same_test false true there back = back refl
same_test false false there back = refl

-- texts have the same bytes exactly where they have the same characters
pub pointwise-chars : (a b : List ℕ) → IsUtf8 a → IsUtf8 b → pointwise nat_eq a b ≡ pointwise nat_eq (chars a) (chars b)
pointwise-chars a b ua ub =
    same_test _ _
    (λ same. (bytes_decides (chars a) (chars b)).1 (ap chars ((bytes_decides a b).0 same)))
    (λ same. (bytes_decides a b).1 (sym (encodes-chars a ua) ∙ ap encodes ((bytes_decides (chars a) (chars b)).0 same) ∙ encodes-chars b ub))
