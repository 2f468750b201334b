-- What becomes of a look-up whose URLs are decided, or open still.
use Rattle.std.specs.Prelude.{◌≡◌, Bool, List, [], ◌∷◌, Option, Some, None, ⊤}
use Rattle.std.specs.List.{list_any}
use Rattle.find_desk.specs.Desk.{DeskStart}
use Rattle.find_desk.specs.Events.{DeskEvent}
use Rattle.find_desk.specs.Verdicts.{IsVerdictByLook}
use Rattle.proxy_looks.specs.declared.urls.LookUrl.{LookUrl}
use Rattle.proxy_serving.specs.Told.{fate_told, leaves_url_open}
use Rattle.proxy_serving.specs.declared.fate.LookFate.{LookFate}
use Rattle.proxy_serving.specs.declared.told.SeenUrl.{SeenUrl}
use Rattle.url_checker.specs.declared.findings.Hit.{Hit}
use Rattle.verdict_report.specs.declared.verdicts.Verdict.{Verdict}

-- whether a verdict leaves one of the URLs open
abbrev pub is_one_left_open : List LookUrl → Bool
is_one_left_open urls = list_any (λ (one : LookUrl). leaves_url_open one.verdict) urls

-- The verdict that is told of a URL: its own, or, if it is open still, that by its look alone.
abbrev pub IsToldVerdict : DeskStart → List DeskEvent → Option (List Hit) → (verdict told : Option Verdict) → Type 0
IsToldVerdict start events None verdict told = told ≡ verdict
IsToldVerdict start events (Some hits) (Some verdict) told = told ≡ Some verdict
IsToldVerdict start events (Some hits) None told = (given : Verdict) × (told ≡ Some given) × IsVerdictByLook start events hits given

-- of each URL, in their order
abbrev pub AreTold : DeskStart → List DeskEvent → List LookUrl → List SeenUrl → Type 0
AreTold start events [] [] = ⊤
AreTold start events (one ∷ urls) (told ∷ all) = (told.url ≡ one.url) × IsToldVerdict start events one.hits one.verdict told.verdict × AreTold start events urls all
AreTold start events [] (told ∷ all) = ⊥
AreTold start events (one ∷ urls) [] = ⊥

-- This is the fate of a look-up of these URLs.
pub record IsFateOf (start : DeskStart) (events : List DeskEvent) (urls : List LookUrl) (fate : LookFate) : Type 0 where
  pub told : List SeenUrl
  pub are : AreTold start events urls told
  pub is : fate ≡ fate_told told
