-- The lines of each of several seats.
use Rattle.std.proofs.Common.{◌≡◌, ◌≢◌, ℕ, zero, suc, ◌+◌, ◌*◌, ◌<◌, ◌≤◌, min, ◌⊎◌, inl, inr, ⊎_elim, refl, ap, ◌∙◌, arith}

pub less_or : (t u : ℕ) → (t < u) ⊎ (u ≤ t)
less_or t zero = inr (omega arith)
less_or zero (suc u) = inl (omega arith)
less_or (suc t) (suc u) = ⊎_elim (λ (h : t < u). inl (omega (arith, h))) (λ (h : u ≤ t). inr (omega (arith, h))) (less_or t u)

pub same_or : (p q : ℕ) → (p ≡ q) ⊎ (p ≢ q)
same_or zero zero = inl refl
same_or zero (suc q) = inr (λ e. absurd (omega (arith, e)))
same_or (suc p) zero = inr (λ e. absurd (omega (arith, e)))
same_or (suc p) (suc q) = ⊎_elim (λ (e : p ≡ q). inl (ap suc e)) (λ (away : p ≢ q). inr (λ e. away (omega (arith, e)))) (same_or p q)

pub suc_more : (t s : ℕ) → suc t * s ≡ t * s + s
suc_more t s = omega arith

pub one_more : (t s : ℕ) → (t + 1) * s ≡ t * s + s
one_more t s = let e : t + 1 ≡ suc t = omega arith in ap (λ (m : ℕ). m * s) e ∙ suc_more t s

-- a line is of one seat, at one turn
pub same_line : (p t q u s : ℕ) → p < s → q < s → p + t * s ≡ q + u * s → (p ≡ q) × (t ≡ u)
same_line p zero q zero s i j e = (omega (arith, e), refl)
same_line p zero q (suc u) s i j e = absurd (omega (arith, i, e, suc_more u s))
same_line p (suc t) q zero s i j e = absurd (omega (arith, j, e, suc_more t s))
same_line p (suc t) q (suc u) s i j e =
    let both = same_line p t q u s i j (omega (arith, e, suc_more t s, suc_more u s)) in (both.0, ap suc both.1)

-- later turns have later lines
pub rises : (t u s : ℕ) → t ≤ u → t * s ≤ u * s
rises zero u s h = omega arith
rises (suc t) zero s h = absurd (omega arith)
rises (suc t) (suc u) s h = omega (arith, rises t u s (omega arith), suc_more t s, suc_more u s)

-- a turn whose line is within comes before one whose line is not
pub before : (p t u s n : ℕ) → p + t * s < n → n ≤ p + u * s → t < u
before p t u s n i j = ⊎_elim (λ (h : t < u). h) (λ (h : u ≤ t). absurd (omega (arith, i, j, rises u t s h))) (less_or t u)

-- on to the next line
pub next_is : (index p t s n next : ℕ) → index ≡ min n (p + t * s) → index < n → next ≡ min n (index + s) → next ≡ min n (p + (t + 1) * s)
next_is index p t s n next h i e = omega (arith, h, i, e, one_more t s)

-- the lines of two turns are two
pub apart : (p t u s : ℕ) → 0 < s → t < u → p + t * s ≢ p + u * s
apart p t u s i h = λ e. absurd (omega (arith, i, e, rises (t + 1) u s (omega (arith, h)), one_more t s))
