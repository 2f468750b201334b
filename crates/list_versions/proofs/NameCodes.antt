-- Names that have the same codes are the same.
use Rattle.std.proofs.Common.{◌≡◌, ℕ, Bool, true, false, ◌&&◌, nat_eq, refl, sym, ap, ◌∙◌, Some, eq-eqb}
use Rattle.std.proofs.lemmas.Bool.{eqb-true}
use Rattle.sb_model.specs.declared.names.ThreatType.{ThreatType}
use Rattle.sb_model.specs.declared.names.ThreatType.TheVariants as threat
use Rattle.sb_model.specs.declared.names.PlatformType.{PlatformType}
use Rattle.sb_model.specs.declared.names.PlatformType.TheVariants as platform
use Rattle.sb_model.specs.declared.names.EntryType.{EntryType}
use Rattle.sb_model.specs.declared.names.EntryType.TheVariants as entry
use Rattle.sb_model.specs.declared.names.ListName.{ListName}
use Rattle.sb_model.specs.Names.{threat_code, platform_code, entry_code, threat_with_code, platform_with_code, entry_with_code, same_name}

threat_back : (t : ThreatType) → threat_with_code (threat_code t) ≡ Some t
unfolding threat_with_code
threat_back threat.Malware = refl
threat_back threat.SocialEngineering = refl
threat_back threat.UnwantedSoftware = refl
threat_back threat.PotentiallyHarmfulApplication = refl

platform_back : (p : PlatformType) → platform_with_code (platform_code p) ≡ Some p
unfolding platform_with_code
platform_back platform.Windows = refl
platform_back platform.Linux = refl
platform_back platform.Android = refl
platform_back platform.Osx = refl
platform_back platform.Ios = refl
platform_back platform.AnyPlatform = refl
platform_back platform.AllPlatforms = refl
platform_back platform.Chrome = refl

entry_back : (e : EntryType) → entry_with_code (entry_code e) ≡ Some e
unfolding entry_with_code
entry_back entry.Url = refl
entry_back entry.Executable = refl

some_same : {A : Type 0} (a b : A) → Some a ≡ Some b → a ≡ b
some_same a b h = cc

threat_same : (a b : ThreatType) → nat_eq (threat_code a) (threat_code b) ≡ true → a ≡ b
threat_same a b h = some_same a b (sym (threat_back a) ∙ ap threat_with_code (eqb-true _ _ h) ∙ threat_back b)

platform_same : (a b : PlatformType) → nat_eq (platform_code a) (platform_code b) ≡ true → a ≡ b
platform_same a b h = some_same a b (sym (platform_back a) ∙ ap platform_with_code (eqb-true _ _ h) ∙ platform_back b)

entry_same : (a b : EntryType) → nat_eq (entry_code a) (entry_code b) ≡ true → a ≡ b
entry_same a b h = some_same a b (sym (entry_back a) ∙ ap entry_with_code (eqb-true _ _ h) ∙ entry_back b)

pub first_true : (a b : Bool) → (a && b) ≡ true → a ≡ true
first_true true b h = refl
first_true false b h = h

pub second_true : (a b : Bool) → (a && b) ≡ true → b ≡ true
second_true true b h = h
second_true false b h = absurd (cc)

both_codes : (a b : ListName) → same_name a b ≡ true → (nat_eq (threat_code a.threat) (threat_code b.threat) && nat_eq (platform_code a.platform) (platform_code b.platform)) ≡ true
both_codes a b h = first_true (nat_eq (threat_code a.threat) (threat_code b.threat) && nat_eq (platform_code a.platform) (platform_code b.platform)) (nat_eq (entry_code a.entry) (entry_code b.entry)) h

pub names_same : (a b : ListName) → same_name a b ≡ true → a ≡ b
names_same a b h =
    let t = threat_same a.threat b.threat (first_true _ (nat_eq (platform_code a.platform) (platform_code b.platform)) (both_codes a b h)) in
    let p = platform_same a.platform b.platform (second_true (nat_eq (threat_code a.threat) (threat_code b.threat)) _ (both_codes a b h)) in
    let e = entry_same a.entry b.entry (second_true (nat_eq (threat_code a.threat) (threat_code b.threat) && nat_eq (platform_code a.platform) (platform_code b.platform)) _ h) in
    λ i. record { threat = t i; platform = p i; entry = e i }

equal_to_itself : (n : ℕ) → nat_eq n n ≡ true
equal_to_itself n = eq-eqb n n refl

pub name_is_same : (a : ListName) → same_name a a ≡ true
name_is_same a = rw (equal_to_itself (threat_code a.threat), equal_to_itself (platform_code a.platform), equal_to_itself (entry_code a.entry)) refl
