-- The forms of an address, by the numbers of its parts.
use Rattle.std.proofs.Common.{◌≡◌, ℕ, zero, suc, ◌+◌, ◌*◌, ◌^◌, ◌<◌, List, [], ◌∷◌, Bool, true, false, cond, ltb, map, Option, Some, None, option_and_then, refl, sym, ap, ◌∙◌, arith}
use Rattle.std.specs.Prelude.{◌↔◌}
use Rattle.std.specs.List.{slice_split}
use Rattle.std.proofs.lemmas.Bool.{cond-true, lt-ltb, ltb-true}
use Rattle.url_canon.specs.Address.{number_of_part, address_in, address_of, StandFor, IsAddressOf}
use Rattle.url_canon.specs.Words.{is_dot}

-- the address of so many bytes that numbers stand for
abbrev value_of : ℕ → List ℕ → Option ℕ
value_of zero ns = None
value_of (suc w) [] = None
value_of (suc w) (n ∷ []) = cond (ltb n (256 ^ suc w)) (Some n) None
value_of (suc w) (n ∷ m ∷ ns) = option_and_then (λ low. cond (ltb n 256) (Some (n * 256 ^ w + low)) None) (value_of w (m ∷ ns))

numbered : (w : ℕ) (parts : List (List ℕ)) (ns : List ℕ) → map number_of_part parts ≡ map Some ns → address_in w parts ≡ value_of w ns
numbered zero parts ns e = refl
numbered (suc w) [] [] e = refl
numbered (suc w) [] (n ∷ ns) e = absurd (cc)
numbered (suc w) (part ∷ parts) [] e = absurd (cc)
numbered (suc w) (part ∷ []) (n ∷ []) e =
    let first : number_of_part part ≡ Some n = cc in ap (option_and_then (λ m. cond (ltb m (256 ^ suc w)) (Some m) None)) first
numbered (suc w) (part ∷ []) (n ∷ m ∷ ns) e = absurd (cc)
numbered (suc w) (part ∷ next ∷ parts) (n ∷ []) e = absurd (cc)
numbered (suc w) (part ∷ next ∷ parts) (n ∷ m ∷ ns) e =
    let first : number_of_part part ≡ Some n = cc in
    let rest : map number_of_part (next ∷ parts) ≡ map Some (m ∷ ns) = cc in
    ap (option_and_then (λ number. option_and_then (λ low. cond (ltb number 256) (Some (number * 256 ^ w + low)) None) (address_in w (next ∷ parts)))) first
    ∙ ap (option_and_then (λ low. cond (ltb n 256) (Some (n * 256 ^ w + low)) None)) (numbered w (next ∷ parts) (m ∷ ns) rest)

some_of : (o : Option ℕ) (f : ℕ → Option ℕ) (v : ℕ) → option_and_then f o ≡ Some v → (n : ℕ) × (o ≡ Some n) × (f n ≡ Some v)
some_of None f v e = absurd (cc)
some_of (Some n) f v e = (n, refl, e)

numbers_there : (w : ℕ) (parts : List (List ℕ)) (v : ℕ) → address_in w parts ≡ Some v → (ns : List ℕ) × (map number_of_part parts ≡ map Some ns)
numbers_there zero parts v e = absurd (cc)
numbers_there (suc w) [] v e = absurd (cc)
numbers_there (suc w) (part ∷ []) v e =
    let found = some_of (number_of_part part) (λ m. cond (ltb m (256 ^ suc w)) (Some m) None) v e in (found.0 ∷ [], ap (λ o. o ∷ []) found.1)
numbers_there (suc w) (part ∷ next ∷ parts) v e =
    let found = some_of (number_of_part part) (λ m. option_and_then (λ low. cond (ltb m 256) (Some (m * 256 ^ w + low)) None) (address_in w (next ∷ parts))) v e in
    let low = some_of (address_in w (next ∷ parts)) (λ low. cond (ltb found.0 256) (Some (found.0 * 256 ^ w + low)) None) v found.2 in
    let rest = numbers_there w (next ∷ parts) low.0 low.1 in
    (found.0 ∷ rest.0, ap (λ o. o ∷ map number_of_part (next ∷ parts)) found.1 ∙ ap (λ os. Some found.0 ∷ os) rest.1)

chosen : (b : Bool) (x v : ℕ) → cond b (Some x) None ≡ Some v → (b ≡ true) × (x ≡ v)
chosen true x v e = (refl, cc)
chosen false x v e = absurd (cc)

-- a number before the rest
before : (n w v : ℕ) (o : Option ℕ) → option_and_then (λ low. cond (ltb n 256) (Some (n * w + low)) None) o ≡ Some v → (low : ℕ) × (o ≡ Some low) × (n < 256) × (n * w + low ≡ v)
before n w v o e =
    let found = some_of o (λ low. cond (ltb n 256) (Some (n * w + low)) None) v e in
    let both = chosen (ltb n 256) (n * w + found.0) v found.2 in
    (found.0, found.1, ltb-true n 256 both.0, both.1)

abbrev address : ℕ → ℕ → ℕ → ℕ → ℕ
address a b c d = ((a * 256 + b) * 256 + c) * 256 + d

stand : (ns : List ℕ) (a b c d : ℕ) → a < 256 → b < 256 → c < 256 → d < 256 → value_of 4 ns ≡ Some (address a b c d) → StandFor ns a b c d
stand [] a b c d ha hb hc hd e = absurd (cc)
stand (n ∷ []) a b c d ha hb hc hd e = (chosen (ltb n (256 ^ 4)) n (address a b c d) e).1
stand (x ∷ n ∷ []) a b c d ha hb hc hd e =
    let first = before x (256 ^ 3) (address a b c d) (value_of 3 (n ∷ [])) e in
    let last = chosen (ltb n (256 ^ 3)) n first.0 first.1 in
    let inside = ltb-true n (256 ^ 3) last.0 in
    let byte = first.2 in
    let whole = first.3 in
    let same = last.1 in
    (omega arith, omega arith)
stand (x ∷ y ∷ n ∷ []) a b c d ha hb hc hd e =
    let first = before x (256 ^ 3) (address a b c d) (value_of 3 (y ∷ n ∷ [])) e in
    let second = before y (256 ^ 2) first.0 (value_of 2 (n ∷ [])) first.1 in
    let last = chosen (ltb n (256 ^ 2)) n second.0 second.1 in
    let inside = ltb-true n (256 ^ 2) last.0 in
    let byte_x = first.2 in
    let byte_y = second.2 in
    let whole = first.3 in
    let rest = second.3 in
    let same = last.1 in
    (omega arith, omega arith, omega arith)
stand (x ∷ y ∷ z ∷ n ∷ []) a b c d ha hb hc hd e =
    let first = before x (256 ^ 3) (address a b c d) (value_of 3 (y ∷ z ∷ n ∷ [])) e in
    let second = before y (256 ^ 2) first.0 (value_of 2 (z ∷ n ∷ [])) first.1 in
    let third = before z (256 ^ 1) second.0 (value_of 1 (n ∷ [])) second.1 in
    let last = chosen (ltb n (256 ^ 1)) n third.0 third.1 in
    let inside = ltb-true n (256 ^ 1) last.0 in
    let byte_x = first.2 in
    let byte_y = second.2 in
    let byte_z = third.2 in
    let whole = first.3 in
    let rest = second.3 in
    let more = third.3 in
    let same = last.1 in
    (omega arith, omega arith, omega arith, omega arith)
stand (x ∷ y ∷ z ∷ u ∷ n ∷ ns) a b c d ha hb hc hd e =
    let first = before x (256 ^ 3) (address a b c d) (value_of 3 (y ∷ z ∷ u ∷ n ∷ ns)) e in
    let second = before y (256 ^ 2) first.0 (value_of 2 (z ∷ u ∷ n ∷ ns)) first.1 in
    let third = before z (256 ^ 1) second.0 (value_of 1 (u ∷ n ∷ ns)) second.1 in
    let fourth = before u (256 ^ 0) third.0 (value_of 0 (n ∷ ns)) third.1 in
    absurd (none_some fourth.0 fourth.1)
  where
    none_some : (v : ℕ) → value_of 0 (n ∷ ns) ≡ Some v → ⊥
    none_some v f = cc

joined : (n w low : ℕ) (o : Option ℕ) → n < 256 → o ≡ Some low → option_and_then (λ low. cond (ltb n 256) (Some (n * w + low)) None) o ≡ Some (n * w + low)
joined n w low o h e =
    ap (option_and_then (λ low. cond (ltb n 256) (Some (n * w + low)) None)) e ∙ cond-true (ltb n 256) (Some (n * w + low)) None (lt-ltb n 256 h)

last : (n top : ℕ) → n < top → cond (ltb n top) (Some n) None ≡ Some n
last n top h = cond-true (ltb n top) (Some n) None (lt-ltb n top h)

stands : (ns : List ℕ) (a b c d : ℕ) → a < 256 → b < 256 → c < 256 → d < 256 → StandFor ns a b c d → value_of 4 ns ≡ Some (address a b c d)
stands [] a b c d ha hb hc hd h = absurd h
stands (n ∷ []) a b c d ha hb hc hd h = last n (256 ^ 4) (omega arith) ∙ ap Some h
stands (x ∷ n ∷ []) a b c d ha hb hc hd h =
    joined x (256 ^ 3) n (value_of 3 (n ∷ [])) (omega arith) (last n (256 ^ 3) (omega arith)) ∙ ap Some (omega arith)
stands (x ∷ y ∷ n ∷ []) a b c d ha hb hc hd h =
    joined x (256 ^ 3) (y * 256 ^ 2 + n) (value_of 3 (y ∷ n ∷ [])) (omega arith) (joined y (256 ^ 2) n (value_of 2 (n ∷ [])) (omega arith) (last n (256 ^ 2) (omega arith))) ∙ ap Some (omega arith)
stands (x ∷ y ∷ z ∷ n ∷ []) a b c d ha hb hc hd h =
    joined x (256 ^ 3) (y * 256 ^ 2 + (z * 256 ^ 1 + n)) (value_of 3 (y ∷ z ∷ n ∷ [])) (omega arith) (joined y (256 ^ 2) (z * 256 ^ 1 + n) (value_of 2 (z ∷ n ∷ [])) (omega arith) (joined z (256 ^ 1) n (value_of 1 (n ∷ [])) (omega arith) (last n (256 ^ 1) (omega arith)))) ∙ ap Some (omega arith)
stands (x ∷ y ∷ z ∷ u ∷ n ∷ ns) a b c d ha hb hc hd h = absurd h

pub four_bytes : (host : List ℕ) (a b c d : ℕ) → a < 256 → b < 256 → c < 256 → d < 256 → (address_of host ≡ Some (((a * 256 + b) * 256 + c) * 256 + d)) ↔ IsAddressOf host a b c d
unfolding address_of
four_bytes host a b c d ha hb hc hd = (
  λ e. let ns = numbers_there 4 (slice_split is_dot host) (address a b c d) e in record { first = ha; second = hb; third = hc; fourth = hd; numbers = ns.0; parts = ns.1; bytes = stand ns.0 a b c d ha hb hc hd (sym (numbered 4 (slice_split is_dot host) ns.0 ns.1) ∙ e) },
  λ h. numbered 4 (slice_split is_dot host) h.numbers h.parts ∙ stands h.numbers a b c d ha hb hc hd h.bytes,
)

below : (ns : List ℕ) (v : ℕ) → value_of 4 ns ≡ Some v → v < 2 ^ 32
below [] v e = absurd (cc)
below (n ∷ []) v e =
    let last = chosen (ltb n (256 ^ 4)) n v e in
    let inside = ltb-true n (256 ^ 4) last.0 in
    let same = last.1 in
    omega arith
below (x ∷ n ∷ []) v e =
    let first = before x (256 ^ 3) v (value_of 3 (n ∷ [])) e in
    let last = chosen (ltb n (256 ^ 3)) n first.0 first.1 in
    let inside = ltb-true n (256 ^ 3) last.0 in
    let byte = first.2 in
    let whole = first.3 in
    let same = last.1 in
    omega arith
below (x ∷ y ∷ n ∷ []) v e =
    let first = before x (256 ^ 3) v (value_of 3 (y ∷ n ∷ [])) e in
    let second = before y (256 ^ 2) first.0 (value_of 2 (n ∷ [])) first.1 in
    let last = chosen (ltb n (256 ^ 2)) n second.0 second.1 in
    let inside = ltb-true n (256 ^ 2) last.0 in
    let byte_x = first.2 in
    let byte_y = second.2 in
    let whole = first.3 in
    let rest = second.3 in
    let same = last.1 in
    omega arith
below (x ∷ y ∷ z ∷ n ∷ []) v e =
    let first = before x (256 ^ 3) v (value_of 3 (y ∷ z ∷ n ∷ [])) e in
    let second = before y (256 ^ 2) first.0 (value_of 2 (z ∷ n ∷ [])) first.1 in
    let third = before z (256 ^ 1) second.0 (value_of 1 (n ∷ [])) second.1 in
    let last = chosen (ltb n (256 ^ 1)) n third.0 third.1 in
    let inside = ltb-true n (256 ^ 1) last.0 in
    let byte_x = first.2 in
    let byte_y = second.2 in
    let byte_z = third.2 in
    let whole = first.3 in
    let rest = second.3 in
    let more = third.3 in
    let same = last.1 in
    omega arith
below (x ∷ y ∷ z ∷ u ∷ n ∷ ns) v e =
    let first = before x (256 ^ 3) v (value_of 3 (y ∷ z ∷ u ∷ n ∷ ns)) e in
    let second = before y (256 ^ 2) first.0 (value_of 2 (z ∷ u ∷ n ∷ ns)) first.1 in
    let third = before z (256 ^ 1) second.0 (value_of 1 (u ∷ n ∷ ns)) second.1 in
    let fourth = before u (256 ^ 0) third.0 (value_of 0 (n ∷ ns)) third.1 in
    absurd (none_some fourth.0 fourth.1)
  where
    none_some : (w : ℕ) → value_of 0 (n ∷ ns) ≡ Some w → ⊥
    none_some w f = cc

pub no_more : (host : List ℕ) (address : ℕ) → address_of host ≡ Some address → address < 2 ^ 32
unfolding address_of
no_more host address e =
    let ns = numbers_there 4 (slice_split is_dot host) address e in below ns.0 address (sym (numbered 4 (slice_split is_dot host) ns.0 ns.1) ∙ e)
