use Rattle.std.proofs.Common.{length, sym, ap, subst, arith}
use Rattle.update_client.specs.Held.{AreHeldLists}
use Rattle.client_store.proofs.Named.{AreNamedInOrder, lists_are_held}
use Rattle.client_store.proofs.Parts.{byte_takes}
use Rattle.client_store.proofs.lists.lists_in.Goals as goal

pub from_lists-requires-clause-few : goal.from_lists-requires-clause-few
from_lists-requires-clause-few c =
    let held : AreHeldLists c.in_ok-lists.lists = lists_are_held c.args.format c.in_ok-count.count c.in_ok-count.rest.now c.in_ok-lists.lists c.in_ok-lists.rest.now (byte_takes c.args.bytes.now (c.in_ok-count.count, c.in_ok-count.rest.now) (λ i. omega (arith, c.type_inv.bytes i)) c.in_ok-count.ensures).fits c.if-count-gt-MAX_LISTS.false c.in_ok-lists.ensures in
    omega (arith, held.few, ap length c.into_vec.ensures)

pub from_lists-requires-clause-rising : goal.from_lists-requires-clause-rising
from_lists-requires-clause-rising c =
    let held : AreHeldLists c.in_ok-lists.lists = lists_are_held c.args.format c.in_ok-count.count c.in_ok-count.rest.now c.in_ok-lists.lists c.in_ok-lists.rest.now (byte_takes c.args.bytes.now (c.in_ok-count.count, c.in_ok-count.rest.now) (λ i. omega (arith, c.type_inv.bytes i)) c.in_ok-count.ensures).fits c.if-count-gt-MAX_LISTS.false c.in_ok-lists.ensures in
    subst AreNamedInOrder (sym c.into_vec.ensures) held.rising
