-- The printed causes of texts that have no canonical URL.
use Rattle.std.specs.Prelude.{ℕ, List, [], ◌++◌, codes, decimal}
use Rattle.url_canon.specs.declared.fault.UrlFault.{UrlFault}
use Rattle.url_canon.specs.declared.fault.UrlFault.TheVariants.{Empty, NoHost, TooLong, OutOfMemory}

-- why a text has no canonical URL; want of memory is never told
abbrev pub url_cause : UrlFault → List ℕ
url_cause Empty = codes "empty"
url_cause NoHost = codes "no-host"
url_cause (TooLong len) = codes "too-long " ++ decimal len
url_cause OutOfMemory = []
