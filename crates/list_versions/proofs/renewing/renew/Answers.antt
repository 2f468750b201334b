use Rattle.std.proofs.Common.{◌<◌, ◌∙◌, length, ◌∷◌, [], arith, ap, length-append}
use Rattle.list_versions.proofs.Renewed.{names_more, renewed_more}
use Rattle.list_versions.proofs.renewing.renew.Goals as goal

pub loop-i-preserved : goal.loop-i-preserved
loop-i-preserved c =
    let lt : c.loop-i.i < length c.args.draft.now.lists.items = omega (arith, c.loop-i-test.true, c.len-i-end.ensures) in
    let items = c.in_ok-push.ensures.items in
    record {
      names = names_more c.loop-i.newest.items c.push.new.self.items c.args.draft.now.lists.items c.loop-i.i c.in_ok-renewed.field-0 lt items c.in_ok-renewed.ensures.name c.loop-i.invariant.names;
      long = ap length items ∙ length-append c.loop-i.newest.items (c.in_ok-renewed.field-0 ∷ []) ∙ omega (arith, c.loop-i.invariant.long);
      newest = renewed_more c.args.draft.now c.args.before c.loop-i.newest.items c.push.new.self.items c.loop-i.i c.in_ok-renewed.field-0 c.loop-i.invariant.long items c.loop-i.invariant.newest c.in_ok-renewed.ensures.newest;
    }
