-- The words of types are read as them.
use Rattle.std.proofs.Common.{◌≡◌, Some, Ok, refl, ap, ◌∙◌}
use Rattle.serde_json.specs.Data.{string, object}
use Rattle.sb_json.specs.Values.{◌>>=◌, or_field_fault}
use Rattle.sb_json.specs.declared.fields.Field.TheVariants as field
use Rattle.sb_json.specs.declared.faults.FieldFault.TheVariants.{Name}
use Rattle.sb_model.specs.Names.{threat_word, threat_of, platform_word, platform_of, entry_word, entry_of}
use Rattle.sb_model.specs.declared.names.ThreatType.{ThreatType}
use Rattle.sb_model.specs.declared.names.ThreatType.TheVariants as threat
use Rattle.sb_model.specs.declared.names.PlatformType.{PlatformType}
use Rattle.sb_model.specs.declared.names.PlatformType.TheVariants as platform
use Rattle.sb_model.specs.declared.names.EntryType.{EntryType}
use Rattle.sb_model.specs.declared.names.EntryType.TheVariants as entry
use Rattle.sb_members.specs.Rows.{threat_row, platform_row, entry_row}
use Rattle.sb_members.specs.Parts.{Parts, made, found}
use Rattle.sb_members.specs.Laws.{NamesReadAgain}
use Rattle.sb_members.proofs.WrittenRows.{string_found}

threat_back : (t : ThreatType) → threat_of (threat_word t) ≡ Some t
unfolding threat_of
threat_back threat.Malware = refl
threat_back threat.SocialEngineering = refl
threat_back threat.UnwantedSoftware = refl
threat_back threat.PotentiallyHarmfulApplication = refl

platform_back : (p : PlatformType) → platform_of (platform_word p) ≡ Some p
unfolding platform_of
platform_back platform.Windows = refl
platform_back platform.Linux = refl
platform_back platform.Android = refl
platform_back platform.Osx = refl
platform_back platform.Ios = refl
platform_back platform.AnyPlatform = refl
platform_back platform.AllPlatforms = refl
platform_back platform.Chrome = refl

entry_back : (e : EntryType) → entry_of (entry_word e) ≡ Some e
unfolding entry_of
entry_back entry.Url = refl
entry_back entry.Executable = refl

threat_found : (ps : Parts) (t : ThreatType) → found field.ThreatType ps ≡ Some (string (threat_word t)) → threat_row (object (made ps)) ≡ Ok t
threat_found ps t e =
    ap (λ r. r >>= λ word. or_field_fault (Name field.ThreatType) (threat_of word)) (string_found field.ThreatType ps (threat_word t) e)
    ∙ ap (or_field_fault (Name field.ThreatType)) (threat_back t)

platform_found : (ps : Parts) (p : PlatformType) → found field.PlatformType ps ≡ Some (string (platform_word p)) → platform_row (object (made ps)) ≡ Ok p
platform_found ps p e =
    ap (λ r. r >>= λ word. or_field_fault (Name field.PlatformType) (platform_of word)) (string_found field.PlatformType ps (platform_word p) e)
    ∙ ap (or_field_fault (Name field.PlatformType)) (platform_back p)

entry_found : (ps : Parts) (e : EntryType) → found field.ThreatEntryType ps ≡ Some (string (entry_word e)) → entry_row (object (made ps)) ≡ Ok e
entry_found ps e h =
    ap (λ r. r >>= λ word. or_field_fault (Name field.ThreatEntryType) (entry_of word)) (string_found field.ThreatEntryType ps (entry_word e) h)
    ∙ ap (or_field_fault (Name field.ThreatEntryType)) (entry_back e)

pub names_again : NamesReadAgain
names_again = record {
  threat_words = threat_back;
  platform_words = platform_back;
  entry_words = entry_back;
  threats = threat_found;
  platforms = platform_found;
  entries = entry_found;
}
