-- One more at the end of a rising list.
use Rattle.std.proofs.Common.{◌≡◌, ℕ, ◌+◌, ◌<◌, List, [], ◌∷◌, ◌++◌, length, refl, ap, ◌∙◌, arith, append-nil}
use Rattle.std.specs.declared.cmp.Ordering.{Ordering}
use Rattle.std.specs.declared.cmp.Ordering.TheVariants.{Less}
use Rattle.std.specs.List.{AllByRecursion}
use Rattle.std.specs.List.Sorted.{IsStrictlySortedBy}
use Rattle.std.proofs.lemmas.Cmp.{nat_list_cmp_total}
use Rattle.std.proofs.lemmas.List.{length-append}
use Rattle.std.proofs.lemmas.List.Concat.{flat_map-append}
use Rattle.std.proofs.lemmas.Map.Keys.{sorted_head, sorted_tail}
use Rattle.sb_model.specs.Prefixes.{bytes_cmp, IsRising, concatenation}
use Rattle.client_store.specs.Reading.{last_of}

pub sorted_nil : {K : Type 0} (R : K → K → Ordering) → IsStrictlySortedBy R []
unfolding IsStrictlySortedBy
sorted_nil R = tt

sorted_cons : {K : Type 0} (R : K → K → Ordering) (x : K) (xs : List K) → AllByRecursion (λ y. R x y ≡ Less) xs → IsStrictlySortedBy R xs → IsStrictlySortedBy R (x ∷ xs)
unfolding IsStrictlySortedBy
sorted_cons R x xs above rising = (above, rising)

all_push : {K : Type 0} (P : K → Type 0) (xs : List K) (y : K) → AllByRecursion P xs → P y → AllByRecursion P (xs ++ y ∷ [])
all_push P [] y each last = (last, tt)
all_push P (x ∷ xs) y each last = (each.0, all_push P xs y each.1 last)

-- what holds of each holds of one among them
all_middle : {K : Type 0} (P : K → Type 0) (xs : List K) (y : K) (ys : List K) → AllByRecursion P (xs ++ y ∷ ys) → P y
all_middle P [] y ys each = each.0
all_middle P (x ∷ xs) y ys each = all_middle P xs y ys each.1

pub sorted_push : {K : Type 0} (R : K → K → Ordering) (xs : List K) (y : K) → AllByRecursion (λ x. R x y ≡ Less) xs → IsStrictlySortedBy R xs → IsStrictlySortedBy R (xs ++ y ∷ [])
sorted_push R [] y before rising = sorted_cons R y [] tt (sorted_nil R)
sorted_push R (x ∷ xs) y before rising =
    sorted_cons R x (xs ++ y ∷ []) (all_push (λ z. R x z ≡ Less) xs y (sorted_head R x xs rising) before.0)
    (sorted_push R xs y before.1 (sorted_tail R x xs rising))

pub before_next : {K : Type 0} (R : K → K → Ordering) (xs : List K) (y : K) (ys : List K) → IsStrictlySortedBy R (xs ++ y ∷ ys) → AllByRecursion (λ x. R x y ≡ Less) xs
before_next R [] y ys rising = tt
before_next R (x ∷ xs) y ys rising =
    (all_middle (λ z. R x z ≡ Less) xs y ys (sorted_head R x (xs ++ y ∷ ys) rising), before_next R xs y ys (sorted_tail R x (xs ++ y ∷ ys) rising))

-- ---- the last of a rising list of prefixes

pub last-push : (set : List (List ℕ)) (prefix : List ℕ) → last_of (set ++ prefix ∷ []) ≡ prefix
last-push [] prefix = refl
last-push (first ∷ []) prefix = refl
last-push (first ∷ next ∷ set) prefix = last-push (next ∷ set) prefix

pub all_before : (set : List (List ℕ)) (prefix : List ℕ) → IsRising set → bytes_cmp (last_of set) prefix ≡ Less → AllByRecursion (λ other. bytes_cmp other prefix ≡ Less) set
all_before [] prefix rising less = tt
all_before (first ∷ []) prefix rising less = (less, tt)
all_before (first ∷ next ∷ set) prefix rising less =
    let others = all_before (next ∷ set) prefix (sorted_tail bytes_cmp first (next ∷ set) rising) less in
    let above = sorted_head bytes_cmp first (next ∷ set) rising in
    (nat_list_cmp_total.trans first next prefix above.0 others.0, others)

pub last_before : (set : List (List ℕ)) (prefix : List ℕ) → 0 < length prefix → AllByRecursion (λ other. bytes_cmp other prefix ≡ Less) set → bytes_cmp (last_of set) prefix ≡ Less
last_before [] [] some each = absurd (omega (arith, some))
last_before [] (byte ∷ prefix) some each = refl
last_before (first ∷ []) prefix some each = each.0
last_before (first ∷ next ∷ set) prefix some each = last_before (next ∷ set) prefix some each.1

-- ---- the bytes of prefixes

pub bytes-push : (set : List (List ℕ)) (prefix : List ℕ) → length (concatenation (set ++ prefix ∷ [])) ≡ length (concatenation set) + length prefix
bytes-push set prefix =
    ap length (flat_map-append (λ (member : List ℕ). member) set (prefix ∷ []) ∙ ap (λ (t : List ℕ). concatenation set ++ t) (append-nil prefix))
    ∙ length-append (concatenation set) prefix
