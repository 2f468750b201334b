-- All names of lists: they rise, each is among them, and so of those that pass a test.
use Rattle.std.proofs.Common.{◌≡◌, zero, suc, ◌⊎◌, inl, inr, ◌&&◌, Bool, true, false, cond, List, [], ◌∷◌, map, filter, flat_map, Contains, refl, sym, subst, arith}
use Rattle.std.specs.declared.cmp.Ordering.{Ordering}
use Rattle.std.specs.declared.cmp.Ordering.TheVariants.{Less, Equal, Greater}
use Rattle.std.specs.Ordering.{is_lt}
use Rattle.std.specs.Cmp.{IsTotalOrder}
use Rattle.std.specs.List.{AllByRecursion}
use Rattle.std.specs.List.Sorted.{IsStrictlySortedBy}
use Rattle.std.proofs.lemmas.Bool.{and_parts}
use Rattle.std.proofs.lemmas.Cmp.{nat_cmp_total, on_total, then_total}
use Rattle.std.proofs.lemmas.List.Elements.{Contains-append_left, Contains-append_right}
use Rattle.std.proofs.lemmas.List.Kept.{IsStrictlySortedBy-filter}
use Rattle.std.proofs.lemmas.Map.Keys.{sorted_head}
use Rattle.sb_model.specs.declared.names.ThreatType.{ThreatType}
use Rattle.sb_model.specs.declared.names.ThreatType.TheVariants as threat
use Rattle.sb_model.specs.declared.names.PlatformType.{PlatformType}
use Rattle.sb_model.specs.declared.names.PlatformType.TheVariants as platform
use Rattle.sb_model.specs.declared.names.EntryType.{EntryType}
use Rattle.sb_model.specs.declared.names.EntryType.TheVariants as entry
use Rattle.sb_model.specs.declared.names.ListName.{ListName}
use Rattle.sb_model.specs.Names.{threats, threat_code, platforms, platform_code, entries, entry_code, name_cmp}
use Rattle.hash_messages.specs.Matches.{all_names}

-- ---- their order

name_total : IsTotalOrder name_cmp
name_total =
    then_total (on_total (λ (name : ListName). threat_code name.threat) nat_cmp_total)
    (then_total (on_total (λ (name : ListName). platform_code name.platform) nat_cmp_total) (on_total (λ (name : ListName). entry_code name.entry) nat_cmp_total))

-- whether each name comes before the next
abbrev rises : List ListName → Bool
rises [] = true
rises (a ∷ []) = true
rises (a ∷ b ∷ names) = is_lt (name_cmp a b) && rises (b ∷ names)

is_less : (o : Ordering) → is_lt o ≡ true → o ≡ Less
is_less Less e = refl
is_less Equal e = absurd (cc e)
is_less Greater e = absurd (cc e)

before_all : (a b : ListName) (others : List ListName) → name_cmp a b ≡ Less → AllByRecursion (λ other. name_cmp b other ≡ Less) others
    → AllByRecursion (λ other. name_cmp a other ≡ Less) others
before_all a b [] h above = tt
before_all a b (c ∷ others) h above = (name_total.trans a b c h above.0, before_all a b others h above.1)

sorted_if_rising : (names : List ListName) → rises names ≡ true → IsStrictlySortedBy name_cmp names
unfolding IsStrictlySortedBy
sorted_if_rising [] e = tt
sorted_if_rising (a ∷ []) e = (tt, tt)
sorted_if_rising (a ∷ b ∷ names) e =
    let both = and_parts (is_lt (name_cmp a b)) (rises (b ∷ names)) e in
    let before : name_cmp a b ≡ Less = is_less (name_cmp a b) both.0 in
    let sorted = sorted_if_rising (b ∷ names) both.1 in
    ((before, before_all a b names before (sorted_head name_cmp b names sorted)), sorted)

pub names_rise : (test : ListName → Bool) → IsStrictlySortedBy name_cmp (filter test all_names)
names_rise test = IsStrictlySortedBy-filter name_cmp test all_names (sorted_if_rising all_names refl)

-- ---- members

here : {A : Type 0} (x : A) (xs : List A) → Contains (x ∷ xs) x
here x xs = (0, omega arith, refl)

there : {A : Type 0} (y x : A) (xs : List A) → Contains xs x → Contains (y ∷ xs) x
there y x xs h = (suc h.0, omega (arith, h.1), h.2)

cases : {A : Type 0} (y x : A) (xs : List A) → Contains (y ∷ xs) x → (y ≡ x) ⊎ Contains xs x
cases y x xs (zero, below, is) = inl is
cases y x xs (suc k, below, is) = inr (k, omega (arith, below), is)

nothing : {A : Type 0} (x : A) → Contains [] x → ⊥
nothing x h = omega (arith, h.1)

in_flat_map : {A B : Type 0} (f : A → List B) (xs : List A) (x : A) (y : B) → Contains xs x → Contains (f x) y → Contains (flat_map f xs) y
in_flat_map f [] x y h k = absurd (nothing x h)
in_flat_map f (z ∷ xs) x y h k = elim (cases z x xs h) [
  | inl same ↦ Contains-append_left (f z) (flat_map f xs) y (subst (λ w. Contains (f w) y) (sym same) k)
  | inr later ↦ Contains-append_right (f z) (flat_map f xs) y (in_flat_map f xs x y later k)
]

in_map : {A B : Type 0} (f : A → B) (xs : List A) (x : A) → Contains xs x → Contains (map f xs) (f x)
in_map f [] x h = absurd (nothing x h)
in_map f (z ∷ xs) x h = elim (cases z x xs h) [
  | inl same ↦ subst (λ w. Contains (map f (z ∷ xs)) (f w)) same (here (f z) (map f xs))
  | inr later ↦ there (f z) (f x) (map f xs) (in_map f xs x later)
]

in_filter : {A : Type 0} (p : A → Bool) (xs : List A) (x : A) → Contains xs x → p x ≡ true → Contains (filter p xs) x
in_filter p [] x h k = absurd (nothing x h)
in_filter {A = A} p (z ∷ xs) x h k = go (p z) refl (cases z x xs h) (λ later. in_filter p xs x later k)
  where
    go : (b : Bool) → p z ≡ b → (z ≡ x) ⊎ Contains xs x → (Contains xs x → Contains (filter p xs) x) → Contains (cond b (z ∷ filter p xs) (filter p xs)) x
    go true e (inl same) more = subst (Contains (z ∷ filter p xs)) same (here z (filter p xs))
    go true e (inr later) more = there z x (filter p xs) (more later)
    go false e (inl same) more = absurd (cc (e, same, k))
    go false e (inr later) more = more later

passes : {A : Type 0} (p : A → Bool) (xs : List A) (x : A) → Contains (filter p xs) x → p x ≡ true
passes p [] x h = absurd (nothing x h)
passes {A = A} p (z ∷ xs) x h = go (p z) refl h (passes p xs x)
  where
    go : (b : Bool) → p z ≡ b → Contains (cond b (z ∷ filter p xs) (filter p xs)) x → (Contains (filter p xs) x → p x ≡ true) → p x ≡ true
    go true e k more = elim (cases z x (filter p xs) k) [
      | inl same ↦ subst (λ w. p w ≡ true) same e
      | inr later ↦ more later
    ]
    go false e k more = more k

-- ---- each name is one of them

in_threats : (t : ThreatType) → Contains threats t
in_threats threat.Malware = (0, omega arith, refl)
in_threats threat.SocialEngineering = (1, omega arith, refl)
in_threats threat.UnwantedSoftware = (2, omega arith, refl)
in_threats threat.PotentiallyHarmfulApplication = (3, omega arith, refl)

in_platforms : (p : PlatformType) → Contains platforms p
in_platforms platform.Windows = (0, omega arith, refl)
in_platforms platform.Linux = (1, omega arith, refl)
in_platforms platform.Android = (2, omega arith, refl)
in_platforms platform.Osx = (3, omega arith, refl)
in_platforms platform.Ios = (4, omega arith, refl)
in_platforms platform.AnyPlatform = (5, omega arith, refl)
in_platforms platform.AllPlatforms = (6, omega arith, refl)
in_platforms platform.Chrome = (7, omega arith, refl)

in_entries : (e : EntryType) → Contains entries e
in_entries entry.Url = (0, omega arith, refl)
in_entries entry.Executable = (1, omega arith, refl)

abbrev names_for : ThreatType → PlatformType → List ListName
names_for t p = map (λ e. record { threat = t; platform = p; entry = e }) entries

every_name : (name : ListName) → Contains all_names name
every_name name =
    in_flat_map (λ t. flat_map (names_for t) platforms) threats name.threat name (in_threats name.threat)
    (in_flat_map (names_for name.threat) platforms name.platform name (in_platforms name.platform)
    (in_map (λ e. record { threat = name.threat; platform = name.platform; entry = e }) entries name.entry (in_entries name.entry)))

-- the names that pass a test are those among all that do
pub name_passes : (test : ListName → Bool) (name : ListName) → Contains (filter test all_names) name → test name ≡ true
name_passes test name h = passes test all_names name h

pub name_there : (test : ListName → Bool) (name : ListName) → test name ≡ true → Contains (filter test all_names) name
name_there test name h = in_filter test all_names name (every_name name) h
