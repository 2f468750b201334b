-- A connection in two parts: it is heard, and it is answered. Between them it may be put off, while others are taken and given back.
use Rattle.std.specs.Prelude.{◌≡◌, ◌<◌, ◌↔◌, ℕ, Bool, List, [], length, Option, Some, Result, Err, IfSome}
use Rattle.sb_outside.specs.Outside.{IfTold}
use Rattle.http_edge.specs.Requests.{Gives, ReadsToRequest, RequestOutcome}
use Rattle.http_edge.specs.declared.faults.RequestFault.{RequestFault}
use Rattle.http_edge.specs.declared.faults.RequestFault.TheVariants as fault
use Rattle.http_edge.specs.declared.messages.HttpRequest.{HttpRequest}

-- A connection was heard: the bytes that it gave, with its end or without, and what these come to. No more was read than decides that.
pub record Hears (received : Result HttpRequest RequestFault) (left left' : Option (List (List ℕ))) : Type 0 where
  pub bytes : List ℕ
  pub ended : Bool
  pub gives : Gives bytes ended left left'
  pub outcome : RequestOutcome bytes ended received
  pub prompt : ReadsToRequest bytes ended received

-- A wire of which this was heard, to which nothing was written yet, and which had these pieces to give when it was handed out.
pub record IsHeard (received : Result HttpRequest RequestFault) (pieces : List (List ℕ)) (start left : Option (List (List ℕ)))
    (contents : Option (List ℕ)) (read_faults write_faults : ℕ) : Type 0 where
  pub some : 0 < length pieces
  pub started : IfTold start (Some pieces)
  pub hears : IfSome left (λ rest. Hears received (Some pieces) (Some rest))
  pub nothing : IfTold contents (Some [])
  pub read_fault : (0 < read_faults) ↔ (received ≡ Err fault.ReadFault)
  pub no_writes : write_faults ≡ 0
