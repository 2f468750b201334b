use Rattle.std.proofs.Common.{◌≡◌, ◌++◌, ◌∷◌, []}
use Rattle.std.proofs.lemmas.Result.{err_from_is_err_and}
use Rattle.client_store.specs.Reading.{more_prefixes_at}
use Rattle.client_store.proofs.Walks.{next_prefix, no_next_prefix, all_prefixes}
use Rattle.client_store.proofs.prefixes.prefixes_at.Goals as goal

pub returns-in_err-prefix : goal.returns-in_err-prefix
returns-in_err-prefix c =
    let p = err_from_is_err_and c.from_residual.result c.from_residual.ensures.1 in
    rw (p.1, p.2)
    (no_next_prefix c.in_err-prefix.field-0.0 c.args.common c.args.count c.loop.counter c.loop.so_far c.loop.rest.now (more_prefixes_at c.args.common c.args.count [] c.args.bytes.now) c.loop-test.true c.in_err-prefix.ensures.value c.loop.invariant)

pub loop-preserved : goal.loop-preserved
loop-preserved c =
    let prefix = c.in_ok-prefix.prefix.now in
    let e : c.push.new.self ≡ c.loop.so_far ++ prefix ∷ [] = c.in_ok-push.ensures in
    rw e
    (next_prefix c.args.common c.args.count c.loop.counter c.loop.so_far c.loop.rest.now prefix c.in_ok-prefix.after.now (more_prefixes_at c.args.common c.args.count [] c.args.bytes.now) c.loop-test.true c.in_ok-prefix.ensures.value c.loop.invariant)

pub returns : goal.returns
returns c = all_prefixes c.args.common c.args.count c.loop.counter c.loop.so_far c.loop.rest.now (more_prefixes_at c.args.common c.args.count [] c.args.bytes.now) c.loop-test.false c.loop.invariant
