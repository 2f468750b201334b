-- A field that is read was written so, and what was written is read again.
use Rattle.std.proofs.Common.{◌≡◌, ℕ, suc, ◌+◌, ◌^◌, ◌<◌, ◌≤◌, Bool, true, false, cond, ltb, List, [], ◌∷◌, ◌++◌, length, get_or, take, drop, Option, Some, None, Result, Ok, Err, refl, sym, ap, subst, ◌∙◌, append_assoc, arith, inl, inr}
use Rattle.std.specs.Int.{Width, w16, w32, byte_len, from_be_bytes, to_be_bytes}
use Rattle.std.proofs.lemmas.Bool.{cases_lt, ltb-false, le-ltb}
use Rattle.std.proofs.lemmas.List.{take_at, drop_at, take-append-drop, length-append, length-take, get_or-drop, get_or-take, get_or_past}
use Rattle.std.proofs.lemmas.Nat.{be_bytes_2, be_bytes_4, from_be_bytes-to_be_bytes_2, from_be_bytes-to_be_bytes_4}
use Rattle.client_store.specs.Reading.{◌>>=◌, or_broken, byte_at, bytes_at, number_at}

-- ---- strings of bytes

abbrev pub IsBytes : List ℕ → Type 0
IsBytes bytes = (i : ℕ) → get_or bytes i 0 < 256

pub IsBytes-drop : (n : ℕ) (bytes : List ℕ) → IsBytes bytes → IsBytes (drop n bytes)
IsBytes-drop n bytes fits i = rw get_or-drop (fits (n + i))

pub IsBytes-take : (n : ℕ) (bytes : List ℕ) → IsBytes bytes → IsBytes (take n bytes)
IsBytes-take n bytes fits i =
    elim (cases_lt i n) [
      | inl below ↦ rw (get_or-take n bytes i 0 below) (fits i)
      | inr past ↦ rw (get_or_past (take n bytes) i 0 (omega (arith, length-take n bytes))) (omega arith)
    ]

-- ---- steps that did not fail

pub bind_ok : {A B : Type 0} (r : Result A ℕ) (f : A → Result B ℕ) (y : B) → (r >>= f) ≡ Ok y → (x : A) × (r ≡ Ok x) × (f x ≡ Ok y)
bind_ok (Ok x) f y e = (x, refl, e)
bind_ok (Err left) f y e = absurd cc

pub unless_ok : {A : Type 0} (b : Bool) (left : ℕ) (r : Result A ℕ) (y : A) → cond b (Err left) r ≡ Ok y → (b ≡ false) × (r ≡ Ok y)
unless_ok true left r y e = absurd cc
unless_ok false left r y e = (refl, e)

pub if_ok : {A : Type 0} (b : Bool) (left : ℕ) (r : Result A ℕ) (y : A) → cond b r (Err left) ≡ Ok y → (b ≡ true) × (r ≡ Ok y)
if_ok true left r y e = (refl, e)
if_ok false left r y e = absurd cc

pub or_broken_ok : {A : Type 0} (left : ℕ) (o : Option A) (a : A) → or_broken left o ≡ Ok a → o ≡ Some a
or_broken_ok left None a e = absurd cc
or_broken_ok left (Some b) a e = cc

abbrev done : {A : Type 0} → A → Result A ℕ
done x = Ok x

pub ok_is : {A : Type 0} (x y : A) → done x ≡ done y → x ≡ y
ok_is x y e = cc

-- ---- what a field takes from the front of a string

pub record Takes (bytes text rest : List ℕ) : Type 0 where
  pub parts : bytes ≡ text ++ rest
  pub fits : IsBytes rest

pub joined : (a x b y c : List ℕ) → Takes a x b → Takes b y c → Takes a (x ++ y) c
joined a x b y c first second =
    record { parts = first.parts ∙ ap (λ (t : List ℕ). x ++ t) second.parts ∙ sym (append_assoc x y c); fits = second.fits }

-- ---- one byte

IsBytes-rest : (byte : ℕ) (rest : List ℕ) → IsBytes (byte ∷ rest) → IsBytes rest
IsBytes-rest byte rest fits i = fits (suc i)

pub byte_takes : (bytes : List ℕ) (x : ℕ × List ℕ) → IsBytes bytes → byte_at bytes ≡ Ok x → Takes bytes (x.0 ∷ []) x.1
byte_takes [] x fits e = absurd cc
byte_takes (byte ∷ rest) x fits e =
    subst (λ (y : ℕ × List ℕ). Takes (byte ∷ rest) (y.0 ∷ []) y.1) (ok_is (byte, rest) x e) (record { parts = refl; fits = IsBytes-rest byte rest fits })

-- ---- several bytes

pub bytes_take : (count : ℕ) (bytes : List ℕ) (x : List ℕ × List ℕ) → IsBytes bytes → bytes_at count bytes ≡ Ok x → Takes bytes x.0 x.1 × (length x.0 ≡ count)
unfolding bytes_at
bytes_take count bytes x fits e =
    let kept = unless_ok (ltb (length bytes) count) (length bytes) (done (take count bytes, drop count bytes)) x e in
    let long : count ≤ length bytes = ltb-false _ _ kept.0 in
    subst (λ (y : List ℕ × List ℕ). Takes bytes y.0 y.1 × (length y.0 ≡ count)) (ok_is (take count bytes, drop count bytes) x kept.1)
    (record { parts = sym (take-append-drop count bytes); fits = IsBytes-drop count bytes fits }, omega (arith, length-take count bytes))

pub bytes_again : (text rest : List ℕ) (count : ℕ) → length text ≡ count → bytes_at count (text ++ rest) ≡ Ok (text, rest)
unfolding bytes_at
bytes_again text rest count is =
    let long : ltb (length (text ++ rest)) count ≡ false = le-ltb _ _ (omega (arith, length-append text rest)) in
    rw (long, take_at text rest count is, drop_at text rest count is) refl

-- ---- numbers

pub record IsWide (width : Width) (limit : ℕ) : Type 0 where
  pub long : (n : ℕ) → length (to_be_bytes width n) ≡ byte_len width
  pub back : (bytes : List ℕ) → length bytes ≡ byte_len width → IsBytes bytes → to_be_bytes width (from_be_bytes width bytes) ≡ bytes
  pub again : (n : ℕ) → n < limit → from_be_bytes width (to_be_bytes width n) ≡ n

pub two_bytes : IsWide w16 (2 ^ 16)
two_bytes = record {
  long = λ n. refl;
  back = λ bytes long fits. be_bytes_2 bytes _ long fits refl;
  again = λ n below. from_be_bytes-to_be_bytes_2 n below;
}

pub four_bytes : IsWide w32 (2 ^ 32)
four_bytes = record {
  long = λ n. refl;
  back = λ bytes long fits. be_bytes_4 bytes _ long fits refl;
  again = λ n below. from_be_bytes-to_be_bytes_4 n below;
}

pub number_takes : (width : Width) (limit : ℕ) (wide : IsWide width limit) (bytes : List ℕ) (x : ℕ × List ℕ) → IsBytes bytes → number_at width bytes ≡ Ok x → Takes bytes (to_be_bytes width x.0) x.1
unfolding number_at
number_takes width limit wide bytes x fits e =
    let front : List ℕ = take (byte_len width) bytes in
    let kept = unless_ok (ltb (length bytes) (byte_len width)) (length bytes) (done (from_be_bytes width front, drop (byte_len width) bytes)) x e in
    let long : byte_len width ≤ length bytes = ltb-false _ _ kept.0 in
    let back : to_be_bytes width (from_be_bytes width front) ≡ front = wide.back front (omega (arith, length-take (byte_len width) bytes)) (IsBytes-take (byte_len width) bytes fits) in
    subst (λ (y : ℕ × List ℕ). Takes bytes (to_be_bytes width y.0) y.1) (ok_is (from_be_bytes width front, drop (byte_len width) bytes) x kept.1)
    (record { parts = rw back (sym (take-append-drop (byte_len width) bytes)); fits = IsBytes-drop (byte_len width) bytes fits })

pub number_again : (width : Width) (limit : ℕ) (wide : IsWide width limit) (n : ℕ) (rest : List ℕ) → n < limit → number_at width (to_be_bytes width n ++ rest) ≡ Ok (n, rest)
unfolding number_at
number_again width limit wide n rest below =
    let is = wide.long n in
    let long : ltb (length (to_be_bytes width n ++ rest)) (byte_len width) ≡ false = le-ltb _ _ (omega (arith, length-append (to_be_bytes width n) rest)) in
    rw (long, take_at (to_be_bytes width n) rest (byte_len width) is, drop_at (to_be_bytes width n) rest (byte_len width) is, wide.again n below) refl
