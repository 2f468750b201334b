use Rattle.std.proofs.Common.{◌≡◌, ◌++◌, Bool, List, Option, length}
use Rattle.std.specs.Prelude.{All}
use Rattle.std.specs.Option.{option_copied}
use Rattle.std.specs.Vec.Iter.{into_iter_items, into_iter_len}
use Rattle.client_line.specs.Lines.{LineView}
use Rattle.find_desk.specs.Desk.{DeskStart, HasKeptDesk}
use Rattle.find_desk.specs.Events.{DeskEvent, MadeFind}
use Rattle.http_edge.specs.declared.messages.Target.{Target}
use Rattle.proxy_looks.specs.Settled.{AreAskedBy, HasAskedForAll}
use Rattle.proxy_looks.specs.Urls.{open_hits, IsAskableUrl}
use Rattle.proxy_looks.proofs.OneMore.{SettledSoFar, asked_left}
use Rattle.proxy_looks.proofs.settling.settle_urls.Given as goal

abbrev pub invariant-loop-one : goal.invariant-loop-one
invariant-loop-one l = record {
  all : l.yielded ++ into_iter_items l.one-iterator ≡ l.fn.urls;
  count : into_iter_len l.one-iterator ≡ length (into_iter_items l.one-iterator);
  left : l.left ≡ asked_left l.asked l.yielded;
  asks : HasAskedForAll l.left (option_copied l.ended);
  to_do : All IsAskableUrl (into_iter_items l.one-iterator);
  askable : All IsAskableUrl l.done;
  waits : l.desk.waits ≡ l.fn.desk.waits;
  opened : l.desk.opened ≡ l.fn.desk.opened;
  settled : (target : Target) (need : Bool) (start : DeskStart) (events : List DeskEvent) (line : LineView) (by : Option MadeFind)
      → HasKeptDesk target need start events l.fn.desk line → AreAskedBy start events (open_hits l.fn.urls) l.asked (option_copied l.ended) by
      → SettledSoFar target need start events l.now by l.asked (option_copied l.ended) l.yielded (into_iter_items l.one-iterator) l.left l.done l.looks l.desk line;
}
