-- All names of lists, in their order.
use Rattle.std.proofs.Common.{◌≡◌, ◌&&◌, Bool, true, List, [], ◌∷◌, map, flat_map, Contains, refl, arith}
use Rattle.std.specs.declared.cmp.Ordering.{Ordering}
use Rattle.std.specs.declared.cmp.Ordering.TheVariants.{Less, Equal, Greater}
use Rattle.std.specs.Ordering.{is_lt}
use Rattle.std.specs.Cmp.{IsTotalOrder}
use Rattle.std.specs.List.Sorted.{IsStrictlySortedBy}
use Rattle.std.proofs.lemmas.Bool.{and_parts}
use Rattle.std.proofs.lemmas.Cmp.{nat_cmp_total, on_total, then_total}
use Rattle.std.proofs.lemmas.Map.Keys.{sorted_head}
use Rattle.sb_model.specs.declared.names.ThreatType.{ThreatType}
use Rattle.sb_model.specs.declared.names.ThreatType.TheVariants as threat
use Rattle.sb_model.specs.declared.names.PlatformType.{PlatformType}
use Rattle.sb_model.specs.declared.names.PlatformType.TheVariants as platform
use Rattle.sb_model.specs.declared.names.EntryType.{EntryType}
use Rattle.sb_model.specs.declared.names.EntryType.TheVariants as entry
use Rattle.sb_model.specs.declared.names.ListName.{ListName}
use Rattle.sb_model.specs.Names.{threats, threat_code, platforms, platform_code, entries, entry_code, name_cmp}
use Rattle.hash_messages.specs.Matches.{all_names}
use Rattle.hash_messages.proofs.Memberships.{in_flat_map, in_map}
use Rattle.hash_messages.proofs.Rising.{before_all, sorted_nil, sorted_cons}

-- ---- their order

name_total : IsTotalOrder name_cmp
name_total =
    then_total (on_total (λ (name : ListName). threat_code name.threat) nat_cmp_total)
    (then_total (on_total (λ (name : ListName). platform_code name.platform) nat_cmp_total) (on_total (λ (name : ListName). entry_code name.entry) nat_cmp_total))

-- whether each name comes before the next
abbrev rises : List ListName → Bool
rises [] = true
rises (a ∷ []) = true
rises (a ∷ b ∷ names) = is_lt (name_cmp a b) && rises (b ∷ names)

is_less : (o : Ordering) → is_lt o ≡ true → o ≡ Less
is_less Less e = refl
is_less Equal e = absurd (cc e)
is_less Greater e = absurd (cc e)

sorted_if_rising : (names : List ListName) → rises names ≡ true → IsStrictlySortedBy name_cmp names
sorted_if_rising [] e = sorted_nil name_cmp
sorted_if_rising (a ∷ []) e = sorted_cons name_cmp a [] tt (sorted_nil name_cmp)
sorted_if_rising (a ∷ b ∷ names) e =
    let both = and_parts (is_lt (name_cmp a b)) (rises (b ∷ names)) e in
    let before : name_cmp a b ≡ Less = is_less (name_cmp a b) both.0 in
    let sorted = sorted_if_rising (b ∷ names) both.1 in
    sorted_cons name_cmp a (b ∷ names) (before, before_all name_cmp name_total a b names before (sorted_head name_cmp b names sorted)) sorted

pub names_rise : IsStrictlySortedBy name_cmp all_names
names_rise = sorted_if_rising all_names refl

-- ---- they are all names

in_threats : (t : ThreatType) → Contains threats t
in_threats threat.Malware = (0, omega arith, refl)
in_threats threat.SocialEngineering = (1, omega arith, refl)
in_threats threat.UnwantedSoftware = (2, omega arith, refl)
in_threats threat.PotentiallyHarmfulApplication = (3, omega arith, refl)

in_platforms : (p : PlatformType) → Contains platforms p
in_platforms platform.Windows = (0, omega arith, refl)
in_platforms platform.Linux = (1, omega arith, refl)
in_platforms platform.Android = (2, omega arith, refl)
in_platforms platform.Osx = (3, omega arith, refl)
in_platforms platform.Ios = (4, omega arith, refl)
in_platforms platform.AnyPlatform = (5, omega arith, refl)
in_platforms platform.AllPlatforms = (6, omega arith, refl)
in_platforms platform.Chrome = (7, omega arith, refl)

in_entries : (e : EntryType) → Contains entries e
in_entries entry.Url = (0, omega arith, refl)
in_entries entry.Executable = (1, omega arith, refl)

-- the names of one threat type and one platform type, and those of one threat type
abbrev names_for : ThreatType → PlatformType → List ListName
names_for t p = map (λ e. record { threat = t; platform = p; entry = e }) entries

pub every_name : (name : ListName) → Contains all_names name
every_name name =
    in_flat_map (λ t. flat_map (names_for t) platforms) threats name.threat name (in_threats name.threat)
    (in_flat_map (names_for name.threat) platforms name.platform name (in_platforms name.platform)
    (in_map (λ e. record { threat = name.threat; platform = name.platform; entry = e }) entries name.entry (in_entries name.entry)))
