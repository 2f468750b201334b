use Rattle.std.proofs.Common.{◌≡◌, ◌++◌, ◌∷◌, []}
use Rattle.std.proofs.lemmas.Result.{err_from_is_err_and}
use Rattle.client_store.specs.Reading.{lists_at}
use Rattle.client_store.proofs.Walks.{next_list, no_next_list, all_lists}
use Rattle.client_store.proofs.lists.lists_at.Goals as goal

pub returns-in_err-held : goal.returns-in_err-held
returns-in_err-held c =
    let p = err_from_is_err_and c.from_residual.result c.from_residual.ensures.1 in
    let lent = c.as_slice.ensures in
    rw (p.1, p.2)
    (no_next_list c.in_err-held.field-0.0 c.args.format c.args.count c.loop.counter c.loop.lists c.loop.rest.now (lists_at c.args.format c.args.count [] c.args.bytes.now) c.loop-test.true (rw lent at c.in_err-held.ensures) c.loop.invariant)

pub loop-preserved : goal.loop-preserved
loop-preserved c =
    let held = c.in_ok-held.held in
    let lent = c.as_slice.ensures in
    let e : c.push.new.self ≡ c.loop.lists ++ held ∷ [] = c.in_ok-push.ensures.ok in
    rw e
    (next_list c.args.format c.args.count c.loop.counter c.loop.lists c.loop.rest.now held c.in_ok-held.after.now (lists_at c.args.format c.args.count [] c.args.bytes.now) c.loop-test.true (rw lent at c.in_ok-held.ensures) c.loop.invariant)

pub returns : goal.returns
returns c = all_lists c.args.format c.args.count c.loop.counter c.loop.lists c.loop.rest.now (lists_at c.args.format c.args.count [] c.args.bytes.now) c.loop-test.false c.loop.invariant
