-- A word by its leading dashes, and what `clap` sees of it.
use Rattle.std.proofs.Common.{◌≡◌, sym, refl, subst, ℕ, Bool, true, false, eqb, [], ◌∷◌, Some, None}
use Rattle.std.specs.Str.{bytes_eq}
use borrow.Author.Tests.{eqb-true}
use Rattle.clap.specs.Lexer.{long_of, short_of}
use Rattle.sb_words.specs.CommandLine.{Text, after_dash, is_value}
use Rattle.sb_words.specs.Barred.{is_barred}

some≢none : {X : Type 0} {x : X} → Some x ≡ None → ⊥
some≢none e = cc

-- a word either begins with no dash, or is a dash and more
dash_or_not : (P : Text → Type 0) → ((word : Text) → after_dash word ≡ None → P word) → ((rest : Text) → P (45 ∷ rest)) → (word : Text) → P word
dash_or_not P none some [] = none [] refl
dash_or_not P none some (x ∷ xs) = go (eqb x 45) refl
  where
    go : (b : Bool) → eqb x 45 ≡ b → P (x ∷ xs)
    go true e = subst (λ y. P (y ∷ xs)) (sym (eqb-true x 45 e)) (some xs)
    go false e = none (x ∷ xs) (rw e refl)

-- no dash, one dash alone, two dashes alone, or two dashes and more
pub by_dashes : (P : Text → Type 0) → ((word : Text) → after_dash word ≡ None → P word) → ((rest : Text) → after_dash rest ≡ None → P (45 ∷ rest))
    → P (45 ∷ 45 ∷ []) → ((b : ℕ) (bs : Text) → P (45 ∷ 45 ∷ b ∷ bs)) → (word : Text) → P word
by_dashes P none one two more = dash_or_not P none (dash_or_not (λ rest. P (45 ∷ rest)) one after_two)
  where
    after_two : (text : Text) → P (45 ∷ 45 ∷ text)
    after_two [] = two
    after_two (b ∷ bs) = more b bs

-- what a word with no dash is
no_dash_first : (x : ℕ) (xs : Text) → after_dash (x ∷ xs) ≡ None → eqb x 45 ≡ false
no_dash_first x xs e = go (eqb x 45) refl
  where
    go : (b : Bool) → eqb x 45 ≡ b → eqb x 45 ≡ false
    go false f = f
    go true f =
        let bad : Some xs ≡ None = rw f at e in
        cc

pub plain_ends : (word : Text) → after_dash word ≡ None → bytes_eq word (45 ∷ 45 ∷ []) ≡ false
plain_ends [] e = refl
plain_ends (x ∷ xs) e = rw (no_dash_first x xs e) refl

pub plain_long : (word : Text) → after_dash word ≡ None → long_of word ≡ None
plain_long [] e = refl
plain_long (x ∷ xs) e = rw (no_dash_first x xs e) refl

pub plain_short : (word : Text) → after_dash word ≡ None → short_of word ≡ None
plain_short [] e = refl
plain_short (x ∷ xs) e = rw (no_dash_first x xs e) refl

pub not_plain_value : (rest : Text) → is_value (45 ∷ rest) ≡ false
not_plain_value rest = refl

pub one_dash_barred : (rest : Text) → after_dash rest ≡ None → is_barred (45 ∷ rest) ≡ true
one_dash_barred rest e = rw e refl
