-- Names of lists with equal codes are equal.
use Rattle.std.proofs.Common.{rules, ◌≡◌, nat_eq, Bool, true}
use Rattle.std.specs.Prelude.{◌&&◌}
use Rattle.sb_model.specs.declared.names.ThreatType.{ThreatType}
use Rattle.sb_model.specs.declared.names.PlatformType.{PlatformType}
use Rattle.sb_model.specs.declared.names.EntryType.{EntryType}
use Rattle.sb_model.specs.declared.names.ListName.{ListName}
use Rattle.sb_model.specs.Names.{threat_code, platform_code, entry_code, same_name}

threat_by_code : (a b : ThreatType) → nat_eq (threat_code a) (threat_code b) ≡ true → a ≡ b
threat_by_code a b h = search rules

platform_by_code : (a b : PlatformType) → nat_eq (platform_code a) (platform_code b) ≡ true → a ≡ b
platform_by_code a b h = search rules

entry_by_code : (a b : EntryType) → nat_eq (entry_code a) (entry_code b) ≡ true → a ≡ b
entry_by_code a b h = search rules

all_three : (p q r : Bool) → (p && q && r) ≡ true → (p ≡ true) × (q ≡ true) × (r ≡ true)
all_three p q r h = search rules

named : (a b : ListName) → a.threat ≡ b.threat → a.platform ≡ b.platform → a.entry ≡ b.entry → a ≡ b
named a b t p e = search rules

pub equal_from_same_name : (a b : ListName) → same_name a b ≡ true → a ≡ b
equal_from_same_name a b h =
    let parts = all_three _ _ _ h in
    named a b (threat_by_code _ _ parts.0) (platform_by_code _ _ parts.1) (entry_by_code _ _ parts.2)
