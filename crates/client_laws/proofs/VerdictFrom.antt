-- A verdict from the names of unsafe lists and a cause.
use Rattle.std.proofs.Common.{◌≡◌, List, [], ◌∷◌, Contains, Option, Some, None, refl}
use Rattle.std.specs.Prelude.{◌↔◌}
use Rattle.std.specs.List.Sorted.{IsStrictlySortedBy}
use Rattle.sb_model.specs.declared.names.ListName.{ListName}
use Rattle.sb_model.specs.History.{History}
use Rattle.sb_model.specs.Names.{name_cmp}
use Rattle.sb_model.specs.Naming.{Naming}
use Rattle.url_canon.specs.Url.{Url}
use Rattle.update_client.specs.Held.{Held}
use Rattle.verdict_report.specs.declared.verdicts.Cause.{Cause}
use Rattle.url_checker.specs.Resolving.{verdict_from}
use Rattle.client_laws.specs.Full.{IsListed}
use Rattle.client_laws.specs.Resolved.{IsLookup, IsBorneOut}
use Rattle.client_laws.proofs.Members.{nothing}

not_empty : (name : ListName) (names : List ListName) → name ∷ names ≡ [] → ⊥
not_empty name names h = cc h

module _ (history : History) (token_at : Naming) (lists : List Held) (url : Url) where
  pub is_lookup : (names : List ListName) (cause : Option Cause) → cause ≡ None → IsStrictlySortedBy name_cmp names
      → ((name : ListName) → Contains names name ↔ IsListed history token_at lists url name) → IsLookup history token_at lists url (verdict_from names cause)
  is_lookup (name ∷ names) cause none rising exactly = record { some = not_empty name names; rising = rising; exactly = exactly }
  is_lookup [] None none rising exactly = λ name listed. nothing name ((exactly name).1 listed)
  is_lookup [] (Some cause) none rising exactly = cc none

  pub is_borne_out : (names : List ListName) (cause : Option Cause) → ((name : ListName) → Contains names name → IsListed history token_at lists url name)
      → (cause ≡ None → (name : ListName) → IsListed history token_at lists url name → Contains names name) → IsBorneOut history token_at lists url (verdict_from names cause)
  is_borne_out (name ∷ names) cause some all = some
  is_borne_out [] None some all = λ name listed. nothing name (all refl name listed)
  is_borne_out [] (Some cause) some all = tt
