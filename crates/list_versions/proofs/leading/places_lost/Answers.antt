use Rattle.std.proofs.Common.{◌∙◌, ◌+◌, ◌-◌, ap, sym}
use Rattle.list_versions.specs.Leading.{count_before, older_place}
use Rattle.list_versions.proofs.Leads.{placed_more}
use Rattle.list_versions.proofs.Ranks.{member_count}
use Rattle.list_versions.proofs.leading.places_lost.Goals as goal

pub loop-i-preserved : goal.loop-i-preserved
loop-i-preserved c =
    let x = c.at.result in
    let newest = c.args.newest.now in
    let gained = c.args.gained.now in
    placed_more (older_place newest c.args.lost.now gained) c.args.lost.now c.loop-i.i x c.loop-i.places c.push.new.self c.place_in_older.result c.at.ensures c.loop-i.invariant c.in_ok-push.ensures.ok
    (c.place_in_older.ensures ∙ ap (λ n. count_before newest x + n - count_before gained x) (sym (member_count c.args.lost.now c.loop-i.i x c.len.ensures.rising c.at.ensures)))
