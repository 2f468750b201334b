use Rattle.std.proofs.Common.{◌∙◌, ap, map}
use Rattle.update_client.specs.Held.{nothing_held}
use Rattle.update_client.proofs.Births.{born}
use Rattle.update_client.proofs.lists.ClientLists.new.Goals as goal

pub invariant_of-result : goal.invariant_of-result
invariant_of-result c =
    born c.args.names.now c.in_ok-lists.lists.items (c.in_ok-lists.ensures ∙ ap (map nothing_held) (c.deref.ensures.value ∙ c.in_ok-names.ensures)) c.requires
