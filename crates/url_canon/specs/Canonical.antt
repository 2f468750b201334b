-- The canonical URL of a text (Safe Browsing v4, "URLs and Hashing", section "Canonicalization").
use Rattle.std.specs.Prelude.{◌≡◌, ◌≢◌, ◌≤◌, All, ℕ, List, [], ◌∷◌, nat_lt, if◌then◌else◌, Option, Some, None, Result, Ok, Err, option_map, length, map}
use Rattle.url_canon.specs.Cleaning.{without_fragment, trimmed}
use Rattle.url_canon.specs.Unescaping.{unescaped}
use Rattle.url_canon.specs.Escaping.{escaped}
use Rattle.url_canon.specs.Parts.{scheme_of, after_scheme, authority_of, after_authority, path_part, query_part}
use Rattle.url_canon.specs.Host.{HostParts, host_of}
use Rattle.url_canon.specs.Path.{path_of, IsNormalPath}
use Rattle.url_canon.specs.Url.{Url, text_of_url}
use Rattle.url_canon.specs.declared.fault.UrlFault.{UrlFault}
use Rattle.url_canon.specs.declared.fault.UrlFault.TheVariants.{Empty, NoHost, TooLong, OutOfMemory}

abbrev pub url_at : List ℕ → Option HostParts → List ℕ → Result Url UrlFault
url_at scheme None rest = Err NoHost
url_at scheme (Some host) rest =
    Ok (record {
      scheme = scheme;
      host = host.text;
      path = path_of (path_part rest);
      query = query_part rest;
      is_address = host.is_address;
    })

-- the host that an unescaped text names, where it names one
abbrev pub host_in : List ℕ → Option HostParts
host_in plain = host_of (authority_of (after_scheme plain))

-- the parts of an unescaped text, still unescaped
unfoldable pub url_parts_of : List ℕ → Result Url UrlFault
url_parts_of plain = url_at (scheme_of plain) (host_in plain) (after_authority (after_scheme plain))

-- the host, the path and the query escaped
abbrev pub escaped_url : Url → Url
escaped_url url =
    record url {
      host = escaped url.host;
      path = map escaped url.path;
      query = option_map escaped url.query;
    }

abbrev pub escaped_parts : Result Url UrlFault → Result Url UrlFault
escaped_parts (Ok url) = Ok (escaped_url url)
escaped_parts (Err fault) = Err fault

-- the canonical URL of a text that is cleaned, of which nothing may be left
abbrev pub canonical_of_cleaned : List ℕ → Result Url UrlFault
canonical_of_cleaned [] = Err Empty
canonical_of_cleaned (byte ∷ text) = escaped_parts (url_parts_of (unescaped (byte ∷ text)))

-- the canonical URL of a text, or its fault
unfoldable pub canonical_of : List ℕ → Result Url UrlFault
canonical_of text =
    if nat_lt 8192 (length text) then Err (TooLong (length text))
    else canonical_of_cleaned (trimmed (without_fragment text))

-- What the code answers is what the definition says, unless memory is refused.
abbrev pub Answers : Result Url UrlFault → Result Url UrlFault → Type 0
Answers (Ok url) wanted = wanted ≡ Ok url
Answers (Err OutOfMemory) wanted = Unit {0}
Answers (Err fault) wanted = wanted ≡ Err fault

-- The text of the URL has this URL again, where it is not too long to be read.
abbrev pub StaysCanonical : Url → Type 0
StaysCanonical url = length (text_of_url url) ≤ 8192 → canonical_of (text_of_url url) ≡ Ok url

-- what a canonical URL is
pub record IsCanonical (url : Url) : Type 0 where
  pub again : StaysCanonical url
  pub host : All (λ byte. byte ≢ 47) url.host
  pub path : IsNormalPath url.path
