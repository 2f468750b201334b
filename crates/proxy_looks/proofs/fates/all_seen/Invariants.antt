use Rattle.std.proofs.Common.{◌≡◌, ◌++◌, List, length}
use Rattle.std.specs.Vec.Iter.{into_iter_items, into_iter_len}
use Rattle.find_desk.specs.Desk.{DeskStart}
use Rattle.find_desk.specs.Events.{DeskEvent}
use Rattle.proxy_looks.specs.Fates.{AreTold}
use Rattle.proxy_looks.specs.Settled.{AreLooksOf}
use Rattle.proxy_looks.specs.Urls.{open_hits}
use Rattle.proxy_looks.proofs.fates.all_seen.Given as goal

abbrev pub invariant-loop-one : goal.invariant-loop-one
invariant-loop-one l = record {
  all : l.yielded ++ into_iter_items l.one-iterator ≡ l.fn.urls;
  count : into_iter_len l.one-iterator ≡ length (into_iter_items l.one-iterator);
  left : length l.left ≡ length (open_hits (into_iter_items l.one-iterator));
  told : (start : DeskStart) (events : List DeskEvent) → AreLooksOf start events (open_hits l.fn.urls) l.fn.looks
      → AreLooksOf start events (open_hits (into_iter_items l.one-iterator)) l.left × AreTold start events l.yielded l.seen;
}
