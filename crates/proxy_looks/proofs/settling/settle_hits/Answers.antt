use Rattle.std.proofs.Common.{◌≡◌, ◌∷◌, [], drop, ap, arith}
use Rattle.std.specs.Option.{option_copied}
use Rattle.std.proofs.lemmas.List.{nil_from_length}
use Rattle.std.proofs.lemmas.Result.{IfOk-weaker}
use Rattle.proxy_looks.proofs.OneMore.{goes_nowhere}
use Rattle.proxy_looks.proofs.OneUrl.{asked_for_first, decided_by_find, err_says, first_is, looked_without_find}
use Rattle.proxy_looks.proofs.settling.settle_hits.Goals as goal

pub returns-in_default-clause-settled : goal.returns-in_default-clause-settled
returns-in_default-clause-settled c target need start events line by others has asked =
    let none : c.args.asked.now ≡ [] = nil_from_length c.args.asked.now (omega (arith, c.in_default.len_below)) in
    IfOk-weaker c.look_up.result _ _
    (λ verdict is. looked_without_find target need start events c.args.now by c.args.asked.now c.args.hits.now verdict c.args.looks.now c.look_up.new.looks c.look_up.new.desk line none is)
    (c.look_up.ensures.settled target need start events line has)

pub verdict_after-requires : goal.verdict_after-requires
verdict_after-requires c =
    let first : c.args.asked.now ≡ c.look-item.result ∷ drop 1 c.args.asked.now = first_is c.args.asked.now c.look-item.result c.in-len1-up.len_at_least c.look-item.is in
    record {
      asked = asked_for_first c.args.asked.now (option_copied c.args.ended) c.look-item.result (drop 1 c.args.asked.now) c.in-Some.ended.now first (ap option_copied c.in-Some.is) c.requires.all;
    }

pub returns-clause-settled : goal.returns-clause-settled
returns-clause-settled c target need start events line by others has asked =
    let first : c.args.asked.now ≡ c.look-item.result ∷ drop 1 c.args.asked.now = first_is c.args.asked.now c.look-item.result c.in-len1-up.len_at_least c.look-item.is in
    decided_by_find target need start events c.args.now by c.args.asked.now c.args.hits.now others (option_copied c.args.ended) c.look-item.result (drop 1 c.args.asked.now) c.in-Some.ended.now
    c.in_ok-verdict_after.field-0 c.args.looks.now c.args.desk.now line first (ap option_copied c.in-Some.is) has asked
    (λ before more found look ends. c.in_ok-verdict_after.ensures.by_find start before more c.args.hits.now found look ends)

pub returns-in_err-verdict_after-clause-stopped : goal.returns-in_err-verdict_after-clause-stopped
returns-in_err-verdict_after-clause-stopped c target need start events line by others has asked =
    err_says c.from_residual.result _ (goes_nowhere target need start events c.args.now c.args.desk.now line has)
