use Rattle.std.proofs.Common.{◌≡◌, vec_len}
use Rattle.update_client.specs.Held.{AreHeldLists}
use Rattle.client_store.specs.Selected.{selected}
use Rattle.client_store.proofs.Filling.{fill}
use Rattle.client_store.proofs.selecting.select.Given as goal

abbrev pub invariant-loop-held : goal.invariant-loop-held
invariant-loop-held l = record {
  filled : fill l.stored.items l.lists.items ≡ selected l.fn.store l.names;
  kept : AreHeldLists l.lists.items;
}

abbrev pub decreases-loop-held : goal.decreases-loop-held
decreases-loop-held l = vec_len l.stored
