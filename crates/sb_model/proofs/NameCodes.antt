-- A type is known by its code, and a name by its three.
use Rattle.std.proofs.Common.{rules, ◌≡◌, ap, ◌∙◌, IsTrue, Bool, nat_eq}
use Rattle.std.specs.Prelude.{◌&&◌}
use Rattle.std.specs.declared.cmp.Ordering.{Ordering}
use Rattle.std.specs.Ordering.{ordering_then}
use Rattle.sb_model.specs.Names.{threat_code, platform_code, entry_code, same_name}
use Rattle.sb_model.specs.declared.names.ThreatType.{ThreatType}
use Rattle.sb_model.specs.declared.names.PlatformType.{PlatformType}
use Rattle.sb_model.specs.declared.names.EntryType.{EntryType}
use Rattle.sb_model.specs.declared.names.ListName.{ListName}

pub then_equal : (a b c a' b' c' : Ordering) → a ≡ a' → b ≡ b' → c ≡ c' → ordering_then a (ordering_then b c) ≡ ordering_then a' (ordering_then b' c')
then_equal a b c a' b' c' p q r =
    ap (λ order. ordering_then order (ordering_then b c)) p
    ∙ ap (λ order. ordering_then a' (ordering_then order c)) q
    ∙ ap (λ order. ordering_then a' (ordering_then b' order)) r

pub threat_by_code : (a b : ThreatType) → IsTrue (nat_eq (threat_code a) (threat_code b)) → a ≡ b
threat_by_code a b h = search rules

pub platform_by_code : (a b : PlatformType) → IsTrue (nat_eq (platform_code a) (platform_code b)) → a ≡ b
platform_by_code a b h = search rules

pub entry_by_code : (a b : EntryType) → IsTrue (nat_eq (entry_code a) (entry_code b)) → a ≡ b
entry_by_code a b h = search rules

all_three : (p q r : Bool) → IsTrue (p && q && r) → IsTrue p × IsTrue q × IsTrue r
all_three p q r h = search rules

named : (a b : ListName) → a.threat ≡ b.threat → a.platform ≡ b.platform → a.entry ≡ b.entry → a ≡ b
named a b t p e = search rules

pub name_by_codes : (a b : ListName) → IsTrue (same_name a b) → a ≡ b
name_by_codes a b h =
    let parts = all_three _ _ _ h in
    named a b (threat_by_code _ _ parts.0) (platform_by_code _ _ parts.1) (entry_by_code _ _ parts.2)

pub same_name-self : (a : ListName) → IsTrue (same_name a a)
same_name-self a = search rules
