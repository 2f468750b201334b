-- The look-ups that a proxy holds at one moment of its run, as what happened so far tells them.
use Rattle.std.specs.Prelude.{ℕ, Bool, false, List, [], Option, None, Result}
use Rattle.std.specs.List.{flat_map}
use Rattle.find_desk.specs.Events.{DeskEvent, MadeFind}
use Rattle.held_connections.specs.Over.{ServedConnection}
use Rattle.http_edge.specs.declared.faults.RequestFault.{RequestFault}
use Rattle.http_edge.specs.declared.messages.HttpRequest.{HttpRequest}
use Rattle.proxy_looks.specs.Urls.{open_hits}
use Rattle.proxy_looks.specs.declared.urls.LookUrl.{LookUrl}
use Rattle.proxy_run.specs.declared.stop.ProxyStop.{ProxyStop}
use Rattle.proxy_serving.specs.Response.{ProxyServed}
use Rattle.sb_model.specs.declared.time.Moment.{Moment}
use Rattle.url_checker.specs.declared.findings.Hit.{Hit}

-- A look-up that waits: which connection it is of those that were taken, counted from 0, what was heard of it, and its URLs.
pub record HeldLook : Type 0 where
  pub number : ℕ
  pub received : Result HttpRequest RequestFault
  pub urls : List LookUrl

-- The connection in hand: which it is, what was heard of it, its URLs if they were looked up, whether it was taken just now, and whether no
-- find is to be had for it.
pub record HandLook : Type 0 where
  pub number : ℕ
  pub received : Result HttpRequest RequestFault
  pub urls : Option (List LookUrl)
  pub fresh : Bool
  pub released : Bool

-- A find whose session is open: the states that it carries, the hits that it asks for, how many URLs these are of, and when it began.
pub record StartedAsking : Type 0 where
  pub states : List (List ℕ)
  pub asked : List Hit
  pub count : ℕ
  pub at : Moment

-- By what those go who are to be settled: by a find that is over; by what is known alone; or by nothing, since memory was refused.
pub data GoesBy : Type 0 where
  ByFind : MadeFind → GoesBy
  ByKept : GoesBy
  ByNothing : GoesBy

pub record LookState : Type 0 where
  -- what was looked up and found, the find that is open, and how many were told
  pub desk : List DeskEvent
  pub find_open : Option StartedAsking
  pub finds : ℕ
  -- those that are to be settled, by what, and how many of their URLs that find asked for
  pub unsettled : List HeldLook
  pub by : GoesBy
  pub asked : ℕ
  -- those that wait for the next find, and how many connections waited
  pub waiting : List HeldLook
  pub waited : ℕ
  -- what each connection that was taken had to give, the one in hand, and those that are over
  pub taken : List (List (List ℕ))
  pub hand : Option HandLook
  pub over : List (ServedConnection ProxyServed)
  -- what was printed, whether the counts were, what ended the run before its end, and whether the output failed
  pub printed : List ℕ
  pub counted : Bool
  pub stop : Option ProxyStop
  pub output_failed : Bool

-- what it begins with
abbrev pub no_looks : LookState
no_looks = record {
  desk = [];
  find_open = None;
  finds = 0;
  unsettled = [];
  by = GoesBy.ByNothing;
  asked = 0;
  waiting = [];
  waited = 0;
  taken = [];
  hand = None;
  over = [];
  printed = [];
  counted = false;
  stop = None;
  output_failed = false;
}

-- the hits of each URL that is open, of some look-ups, in their order
abbrev pub open_of : List HeldLook → List (List Hit)
open_of all = flat_map (λ (one : HeldLook). open_hits one.urls) all
