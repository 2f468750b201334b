use Rattle.std.proofs.Common.{ap, ◌∙◌}
use Rattle.std.specs.List.{flat_map}
use Rattle.hash_messages.specs.Messages.{AskedHashes}
use Rattle.delta_server.specs.Finding.{hashes_begun}
use Rattle.delta_server.proofs.FindFacts.{hashes_found}
use Rattle.delta_server.proofs.finding.hashes_asked.Goals as goal

pub returns : goal.returns
returns c =
    hashes_found c.args.history.now.versions c.args.request.now c.args.list c.sets_go_by_members.ensures.members
    c.in_ok-hashes.hashes.items c.put_in_order.new.hashes.items c.sets_go_by_members.ensures.same
    (c.in_ok-hashes.ensures ∙ ap (flat_map (hashes_begun c.args.history.now.versions c.args.list))
    (c.as_slice.ensures ∙ ap (λ (asked : AskedHashes). asked.prefixes) c.request.view_is))
    c.put_in_order.ensures
