-- The values of the look-ups, and what is seen outside them, by their fields.
use Rattle.std.proofs.Common.{ℕ, List, Option}
use Rattle.client_line.specs.Lines.{LineView}
use Rattle.find_desk.specs.Desk.{DeskSeen}
use Rattle.find_desk.specs.declared.desk.EndedFind.{EndedFind}
use Rattle.held_connections.specs.Held.{HeldView}
use Rattle.held_connections.specs.Over.{door_view}
use Rattle.proxy_looks.specs.declared.urls.LookUrl.{LookUrl}
use Rattle.proxy_run.specs.LookSoFar.{LookOutside, LookOwn}
use Rattle.proxy_run.specs.declared.stop.ProxyStop.{ProxyStop}
use Rattle.sb_outside.specs.declared.doors.Connection.{Connection}
use Rattle.url_checker.specs.declared.looking.Looks.{Looks}

abbrev pub looks_own_of : DeskSeen → HeldView (List LookUrl) → (looks past : List Looks) → (place left asked : ℕ) → Option EndedFind → (waited finds : ℕ) → Option ProxyStop → LookOwn
looks_own_of desk connections looks past place left asked ended waited finds stop = record {
  desk = desk;
  connections = connections;
  looks = looks;
  past = past;
  place = place;
  left = left;
  asked = asked;
  ended = ended;
  waited = waited;
  finds = finds;
  stop = stop;
}

abbrev pub looks_outside_of : LineView → Option (List ℕ) → Option (List Connection) → Option (List (List (List ℕ))) → (output_faults door_faults : ℕ) → LookOutside
looks_outside_of finds output log coming output_faults door_faults =
    record { finds = finds; output = output; door = door_view log coming; output_faults = output_faults; door_faults = door_faults }
