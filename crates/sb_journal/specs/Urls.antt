-- What the code answers for URLs.
use Rattle.std.specs.Prelude.{◌≡◌, ⊤, Result, Ok, Err}
use Rattle.url_canon.specs.declared.fault.UrlFault.{UrlFault}
use Rattle.url_canon.specs.declared.fault.UrlFault.TheVariants.{OutOfMemory}

-- It is what the definition says, unless memory is refused.
abbrev pub IsAsDefined : {A : Type 0} → Result A UrlFault → Result A UrlFault → Type 0
IsAsDefined (Ok a) wanted = wanted ≡ Ok a
IsAsDefined (Err OutOfMemory) wanted = ⊤
IsAsDefined (Err fault) wanted = wanted ≡ Err fault
