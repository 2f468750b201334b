-- How many openings and values objects and lists have at most, by those of their parts.
use Rattle.std.proofs.Common.{◌≡◌, ℕ, ◌+◌, ◌*◌, ◌≤◌, Bool, true, false, ◌||◌, if◌then◌else◌, List, [], ◌∷◌, length, map, Option, Some, None, refl, arith}
use Rattle.std.specs.Ordering.{match_ordering}
use Rattle.std.specs.List.{AllByRecursion}
use Rattle.std.specs.declared.cmp.Ordering.{Ordering}
use Rattle.std.specs.declared.cmp.Ordering.TheVariants.{Less, Equal, Greater}
use Rattle.serde_json.specs.Data.{Data, string, object, Members, no_members, member, put}
use Rattle.serde_json.specs.View.{items_of}
use Rattle.serde_json.specs.Written.{compact_text, has_float, items_have_float, members_have_float}
use Rattle.sb_json.specs.Fields.{key_of}
use Rattle.sb_json.specs.declared.fields.Field.{Field}
use Rattle.sb_members.specs.Parts.{Parts, made}
use Rattle.sb_members.specs.Writing.{with_member_if_any, list_written}
use Rattle.sb_json.specs.Counts.{openings_in, openings_in_items, openings_in_members, values_in, values_in_items, values_in_members}
use Rattle.both_ends_laws.proofs.Sparse.{IsSparse}

-- what a value has at most
pub record Costs (openings values : ℕ) (d : Data) : Type 0 where
  pub opens : openings_in d ≤ openings
  pub has : values_in d ≤ values
  pub whole : has_float d ≡ false

pub cheaper : (a b c e : ℕ) (d : Data) → a ≤ c → b ≤ e → Costs a b d → Costs c e d
cheaper a b c e d ac be h = record { opens = omega (arith, ac, h.opens); has = omega (arith, be, h.has); whole = h.whole }

pub string_costs : (s : List ℕ) → Costs 0 0 (string s)
string_costs s = record { opens = omega arith; has = omega arith; whole = refl }

-- ---- members

-- what members weigh, where each value weighs something and its key so much more
module _ (weight : Data → ℕ) (key : ℕ) where
  abbrev weight_of : Members → ℕ
  weight_of no_members = 0
  weight_of (member k d ms) = key + weight d + weight_of ms

  put_at : (o : Ordering) (k l : List ℕ) (d e : Data) (ms : Members) → weight_of (put k d ms) ≤ key + weight d + weight_of ms
      → weight_of (match_ordering o (member k d (member l e ms)) (member l d ms) (member l e (put k d ms))) ≤ key + weight d + (key + weight e + weight_of ms)
  put_at Less k l d e ms h = omega arith
  put_at Equal k l d e ms h = omega arith
  put_at Greater k l d e ms h = omega (arith, h)

  weight_put : (k : List ℕ) (d : Data) (ms : Members) → weight_of (put k d ms) ≤ key + weight d + weight_of ms
  weight_put k d no_members = omega arith
  weight_put k d (member l e ms) = put_at _ k l d e ms (weight_put k d ms)

  abbrev weight_there : Option Data → ℕ
  weight_there None = 0
  weight_there (Some d) = key + weight d

  abbrev weight_in : Parts → ℕ
  weight_in [] = 0
  weight_in (p ∷ ps) = weight_there p.1 + weight_in ps

  weight_with : (f : Field) (o : Option Data) (ms : Members) → weight_of (with_member_if_any f o ms) ≤ weight_there o + weight_of ms
  weight_with f None ms = omega arith
  weight_with f (Some d) ms = weight_put (key_of f) d ms

  weight_made : (ps : Parts) → weight_of (made ps) ≤ weight_in ps
  weight_made [] = omega arith
  weight_made (p ∷ ps) = omega (arith, weight_with p.0 p.1 (made ps), weight_made ps)

openings_weigh : (ms : Members) → openings_in_members ms ≡ weight_of openings_in 0 ms
openings_weigh no_members = refl
openings_weigh (member k d ms) = omega (arith, openings_weigh ms)

values_weigh : (ms : Members) → values_in_members true ms ≡ weight_of values_in 2 ms
values_weigh no_members = refl
values_weigh (member k d ms) = omega (arith, values_weigh ms)

first_values : (ms : Members) → values_in_members false ms ≤ values_in_members true ms
first_values no_members = omega arith
first_values (member k d ms) = omega arith

abbrev floats_in : Data → ℕ
floats_in d = if has_float d then 1 else 0

floats_weigh : (ms : Members) → weight_of floats_in 0 ms ≤ 0 → members_have_float ms ≡ false
floats_weigh no_members h = refl
floats_weigh (member k d ms) h = both (has_float d) (floats_weigh ms (omega (arith, h))) h
  where
    both : (b : Bool) → members_have_float ms ≡ false → (0 + (if b then 1 else 0) + weight_of floats_in 0 ms) ≤ 0
        → (b || members_have_float ms) ≡ false
    both true rest none = absurd (omega (arith, none))
    both false rest none = rest

-- ---- objects

-- what a value that may be absent has at most
abbrev pub MayCost : ℕ → ℕ → Option Data → Type 0
MayCost o v None = Unit {0}
MayCost o v (Some d) = Costs o v d

-- the parts have at most so many, each in its turn
abbrev pub EachCosts : List (ℕ × ℕ) → Parts → Type 0
EachCosts bs [] = Unit {0}
EachCosts [] (p ∷ ps) = ⊥
EachCosts (b ∷ bs) (p ∷ ps) = MayCost b.0 b.1 p.1 × EachCosts bs ps

abbrev pub all_openings : List (ℕ × ℕ) → ℕ
all_openings [] = 0
all_openings (b ∷ bs) = b.0 + all_openings bs

-- with the comma and the colon of each
abbrev pub all_values : List (ℕ × ℕ) → ℕ
all_values [] = 0
all_values (b ∷ bs) = 2 + b.1 + all_values bs

part_openings : (a v : ℕ) (o : Option Data) → MayCost a v o → weight_there openings_in 0 o ≤ a
part_openings a v None h = omega arith
part_openings a v (Some d) h = omega (arith, h.opens)

part_values : (a v : ℕ) (o : Option Data) → MayCost a v o → weight_there values_in 2 o ≤ 2 + v
part_values a v None h = omega arith
part_values a v (Some d) h = omega (arith, h.has)

part_floats : (a v : ℕ) (o : Option Data) → MayCost a v o → weight_there floats_in 0 o ≤ 0
part_floats a v None h = omega arith
part_floats a v (Some d) h = rw h.whole (omega arith)

openings_at_most : (bs : List (ℕ × ℕ)) (ps : Parts) → EachCosts bs ps → weight_in openings_in 0 ps ≤ all_openings bs
openings_at_most bs [] h = omega arith
openings_at_most [] (p ∷ ps) h = absurd h
openings_at_most (b ∷ bs) (p ∷ ps) h = omega (arith, part_openings b.0 b.1 p.1 h.0, openings_at_most bs ps h.1)

values_at_most : (bs : List (ℕ × ℕ)) (ps : Parts) → EachCosts bs ps → weight_in values_in 2 ps ≤ all_values bs
values_at_most bs [] h = omega arith
values_at_most [] (p ∷ ps) h = absurd h
values_at_most (b ∷ bs) (p ∷ ps) h = omega (arith, part_values b.0 b.1 p.1 h.0, values_at_most bs ps h.1)

floats_at_most : (bs : List (ℕ × ℕ)) (ps : Parts) → EachCosts bs ps → weight_in floats_in 0 ps ≤ 0
floats_at_most bs [] h = omega arith
floats_at_most [] (p ∷ ps) h = absurd h
floats_at_most (b ∷ bs) (p ∷ ps) h = omega (arith, part_floats b.0 b.1 p.1 h.0, floats_at_most bs ps h.1)

pub object_costs : (bs : List (ℕ × ℕ)) (ps : Parts) → EachCosts bs ps → Costs (1 + all_openings bs) (1 + all_values bs) (object (made ps))
object_costs bs ps h = record {
  opens = omega (arith, openings_weigh (made ps), weight_made openings_in 0 ps, openings_at_most bs ps h);
  has = omega (arith, first_values (made ps), values_weigh (made ps), weight_made values_in 2 ps, values_at_most bs ps h);
  whole = floats_weigh (made ps) (omega (arith, weight_made floats_in 0 ps, floats_at_most bs ps h));
}

-- ---- lists

-- what is said of the members of a list, added up
abbrev pub total : {A : Type 0} → (A → ℕ) → List A → ℕ
total f [] = 0
total f (x ∷ xs) = f x + total f xs

pub total_constant : {A : Type 0} (k : ℕ) (xs : List A) → total (λ (x : A). k) xs ≡ k * length xs
total_constant k [] = omega arith
total_constant k (x ∷ xs) = omega (arith, total_constant k xs)

pub each : {A : Type 0} (P : A → Type 0) → ((x : A) → P x) → (xs : List A) → AllByRecursion P xs
each P h [] = tt
each P h (x ∷ xs) = (h x, each P h xs)

module _ {A : Type 0} (write : A → Data) (openings values : A → ℕ) where
  abbrev pub EachItem : List A → Type 0
  EachItem xs = AllByRecursion (λ x. Costs (openings x) (values x) (write x)) xs

  items_open : (xs : List A) → EachItem xs → openings_in_items (items_of (map write xs)) ≤ total openings xs
  items_open [] h = omega arith
  items_open (x ∷ xs) h = omega (arith, h.0.opens, items_open xs h.1)

  items_have : (xs : List A) → EachItem xs → values_in_items true (items_of (map write xs)) ≤ total (λ x. 1 + values x) xs
  items_have [] h = omega arith
  items_have (x ∷ xs) h = omega (arith, h.0.has, items_have xs h.1)

  items_whole : (xs : List A) → EachItem xs → items_have_float (items_of (map write xs)) ≡ false
  items_whole [] h = refl
  items_whole (x ∷ xs) h = rw (h.0.whole, items_whole xs h.1) refl

  pub list_costs : (xs : List A) → EachItem xs → MayCost (1 + total openings xs) (1 + total (λ x. 1 + values x) xs) (list_written write xs)
  list_costs [] h = tt
  list_costs (x ∷ xs) h = record {
    opens = omega (arith, h.0.opens, items_open xs h.1);
    has = omega (arith, h.0.has, items_have xs h.1);
    whole = items_whole (x ∷ xs) h;
  }

pub cost_less : (a b c d : ℕ) (o : Option Data) → a ≤ c → b ≤ d → MayCost a b o → MayCost c d o
cost_less a b c d None ac bd h = tt
cost_less a b c d (Some x) ac bd h = cheaper a b c d x ac bd h

-- a list of so many items, of which each has so much at most
pub alike_cost : {A : Type 0} (write : A → Data) (o v : ℕ) → ((x : A) → Costs o v (write x)) → (xs : List A)
    → MayCost (1 + o * length xs) (1 + (1 + v) * length xs) (list_written write xs)
alike_cost {A} write o v h xs =
    cost_less _ _ _ _ (list_written write xs)
    (omega (arith, total_constant o xs)) (omega (arith, total_constant (1 + v) xs))
    (list_costs write (λ (x : A). o) (λ (x : A). v) xs (each (λ (x : A). Costs o v (write x)) h xs))

-- ---- the limit

pub sparse : (o v : ℕ) (d : Data) → Costs o v d → 48 * o ≤ length (compact_text d) + 393216
    → 6 * v ≤ length (compact_text d) + 393216 → IsSparse d
sparse o v d h openings values = record {
  openings = omega (arith, h.opens, openings);
  values = omega (arith, h.has, values);
  whole = h.whole;
}
