use Rattle.std.proofs.Common.{◌≡◌, ℕ, List, [], ◌∷◌, Bool, true, false, Some, refl, sym, ap, ◌∙◌, cond}
use Rattle.std.specs.Prelude.{find, ◌==◌}
use Rattle.std.proofs.lemmas.Bool.{eqb-true}
use Rattle.sb_model.specs.Names.{threat_code, platform_code, entry_code, threat_with_code, platform_with_code, entry_with_code, threats, platforms, entries}
use Rattle.sb_model.specs.declared.names.ThreatType.{ThreatType}
use Rattle.sb_model.specs.declared.names.ThreatType.TheVariants as threat
use Rattle.sb_model.specs.declared.names.PlatformType.{PlatformType}
use Rattle.sb_model.specs.declared.names.PlatformType.TheVariants as platform
use Rattle.sb_model.specs.declared.names.EntryType.{EntryType}
use Rattle.sb_model.specs.declared.names.EntryType.TheVariants as entry
use Rattle.sb_model.proofs.laws.codes_name_types.Goals as goal

-- what is found passes the test
found_passes : {A : Type 0} (test : A → Bool) (xs : List A) (x : A) → find test xs ≡ Some x → test x ≡ true
found_passes test [] x h = absurd (cc)
found_passes test (y ∷ ys) x h = go (test y) refl h (found_passes test ys x)
  where
    go : (b : Bool) → test y ≡ b → cond b (Some y) (find test ys) ≡ Some x → (find test ys ≡ Some x → test x ≡ true) → test x ≡ true
    go true e k later = cc
    go false e k later = later k

threat_itself : (t : ThreatType) → threat_with_code (threat_code t) ≡ Some t
unfolding threat_with_code
threat_itself threat.Malware = refl
threat_itself threat.SocialEngineering = refl
threat_itself threat.UnwantedSoftware = refl
threat_itself threat.PotentiallyHarmfulApplication = refl

threat_found : (code : ℕ) (t : ThreatType) → threat_with_code code ≡ Some t → threat_code t ≡ code
unfolding threat_with_code
threat_found code t h = eqb-true _ _ (found_passes (λ x. threat_code x == code) threats t h)

platform_itself : (p : PlatformType) → platform_with_code (platform_code p) ≡ Some p
unfolding platform_with_code
platform_itself platform.Windows = refl
platform_itself platform.Linux = refl
platform_itself platform.Android = refl
platform_itself platform.Osx = refl
platform_itself platform.Ios = refl
platform_itself platform.AnyPlatform = refl
platform_itself platform.AllPlatforms = refl
platform_itself platform.Chrome = refl

platform_found : (code : ℕ) (p : PlatformType) → platform_with_code code ≡ Some p → platform_code p ≡ code
unfolding platform_with_code
platform_found code p h = eqb-true _ _ (found_passes (λ x. platform_code x == code) platforms p h)

entry_itself : (e : EntryType) → entry_with_code (entry_code e) ≡ Some e
unfolding entry_with_code
entry_itself entry.Url = refl
entry_itself entry.Executable = refl

entry_found : (code : ℕ) (e : EntryType) → entry_with_code code ≡ Some e → entry_code e ≡ code
unfolding entry_with_code
entry_found code e h = eqb-true _ _ (found_passes (λ x. entry_code x == code) entries e h)

pub returns-clause-threats : goal.returns-clause-threats
returns-clause-threats c code t = (threat_found code t, λ is. ap threat_with_code (sym is) ∙ threat_itself t)

pub returns-clause-platforms : goal.returns-clause-platforms
returns-clause-platforms c code p = (platform_found code p, λ is. ap platform_with_code (sym is) ∙ platform_itself p)

pub returns-clause-entries : goal.returns-clause-entries
returns-clause-entries c code e = (entry_found code e, λ is. ap entry_with_code (sym is) ∙ entry_itself e)
