-- A look at the lists of a client for a URL.
use Rattle.std.specs.Prelude.{◌≡◌, ℕ, List, Ok}
use Rattle.url_canon.specs.Url.{Url, text_of_url}
use Rattle.url_canon.specs.Canonical.{canonical_of}
use Rattle.url_canon.specs.declared.fault.UrlFault.{UrlFault}
use Rattle.url_canon.specs.declared.fault.UrlFault.TheVariants as url
use Rattle.update_client.specs.Held.{Held}
use Rattle.url_checker.specs.Hits.{hits_of}
use Rattle.url_checker.specs.declared.fault.CheckFault.{CheckFault}
use Rattle.url_checker.specs.declared.fault.CheckFault.TheVariants as check
use Rattle.url_checker.specs.declared.findings.Finding.{Finding}

-- what the fault of a URL comes to: want of memory is not the URL's
abbrev pub fault_of_url : UrlFault → CheckFault
fault_of_url url.Empty = check.Url url.Empty
fault_of_url url.NoHost = check.Url url.NoHost
fault_of_url (url.TooLong len) = check.Url (url.TooLong len)
fault_of_url url.OutOfMemory = check.OutOfMemory

-- What is found of a text on some lists, which are the publication of a number: the text has a canonical form, and the finding
-- has its text and its hits.
pub record IsFindingOf (lists : List Held) (number : ℕ) (text : List ℕ) (finding : Finding) : Type 0 where
  pub url : Url
  pub canonical : canonical_of text ≡ Ok url
  pub numbered : finding.number ≡ number
  pub text_is : finding.text ≡ text_of_url url
  pub hits : finding.hits ≡ hits_of lists url
