use Rattle.std.proofs.Common.{rules, ◌≡◌, ◌++◌, ◌∷◌, [], List, length, refl, sym, ap, ◌∙◌, subst, append_assoc, arith}
use Rattle.std.specs.Prelude.{All}
use Rattle.std.specs.Option.{option_copied}
use Rattle.std.specs.Vec.Iter.{into_iter_items}
use Rattle.std.proofs.lemmas.List.{nil_from_length}
use Rattle.std.proofs.lemmas.List.Elements.{All-head, All-nil, All-push, All-tail}
use Rattle.proxy_looks.specs.Settled.{HasAskedForAll, asked_after}
use Rattle.proxy_looks.specs.Urls.{open_hits, IsAskableUrl}
use Rattle.proxy_looks.specs.declared.urls.LookUrl.{LookUrl}
use Rattle.proxy_looks.proofs.OneMore.{asked_for_rest, asked_left_more, goes_nowhere, goes_step, settled_all, settled_first, settled_step}
use Rattle.proxy_looks.proofs.OneUrl.{err_says}
use Rattle.url_checker.specs.declared.looking.Looks.{Looks}
use Rattle.proxy_looks.proofs.settling.settle_urls.Goals as goal

pub returns-in_err-done-clause-stopped : goal.returns-in_err-done-clause-stopped
returns-in_err-done-clause-stopped c target need start events line by has asked =
    err_says c.from_residual.result _ (goes_nowhere target need start events c.args.now c.args.desk.now line has)

pub loop-one-init : goal.loop-one-init
loop-one-init c =
    let items : into_iter_items c.into_iter-one-iterator.result ≡ c.args.urls = c.into_iter-one-iterator.ensures.into_iter_gives.0 ∙ c.into_vec-one-items.ensures in
    record {
      all = items;
      count = search rules;
      left = refl;
      asks = c.requires.all;
      to_do = subst (λ (urls : List LookUrl). All IsAskableUrl urls) (sym items) c.requires.askable;
      askable = subst (λ (urls : List LookUrl). All IsAskableUrl urls) (sym c.in_ok-done.ensures) (All-nil IsAskableUrl);
      waits = refl;
      opened = refl;
      settled = λ target need start events line by has asked.
          settled_first target need start events c.args.now by c.args.asked.now (option_copied c.args.ended) c.args.urls (into_iter_items c.into_iter-one-iterator.result) c.in_ok-done.done
          c.new-looks.result c.args.desk.now line items c.in_ok-done.ensures c.new-looks.ensures has asked;
    }

pub settle_one-requires-clause-askable : goal.settle_one-requires-clause-askable
settle_one-requires-clause-askable c =
    let steps : into_iter_items c.loop-one.one-iterator ≡ c.in-Some.one ∷ into_iter_items c.next.new.self = c.in-Some.ensures.steps.0 in
    All-head IsAskableUrl c.in-Some.one (into_iter_items c.next.new.self) (subst (λ (urls : List LookUrl). All IsAskableUrl urls) steps c.loop-one.invariant.to_do)

pub settle_one-requires-clause-all : goal.settle_one-requires-clause-all
settle_one-requires-clause-all c = c.loop-one.invariant.asks

pub returns-in_err-next-clause-stopped : goal.returns-in_err-next-clause-stopped
returns-in_err-next-clause-stopped c target need start events line by has asked =
    let at = c.loop-one in let one = c.in-Some.one in let rest = into_iter_items c.next.new.self in
    let steps : into_iter_items at.one-iterator ≡ one ∷ rest = c.in-Some.ensures.steps.0 in
    err_says c.from_residual-in_err-next.result _
    (goes_step target need start events c.args.now by c.args.asked.now (option_copied c.args.ended) at.yielded one (into_iter_items at.one-iterator) rest at.left.now at.done at.looks at.desk
    c.settle_one.new.desk line steps (at.invariant.settled target need start events line by has asked)
    (λ more kept asks. c.in_err-next.ensures.stopped target need start (events ++ more) line by (open_hits rest) kept asks))

pub returns-in_err-next-clause-waits : goal.returns-in_err-next-clause-waits
returns-in_err-next-clause-waits c = c.settle_one.ensures.waits ∙ c.loop-one.invariant.waits

pub returns-in_err-next-clause-opened : goal.returns-in_err-next-clause-opened
returns-in_err-next-clause-opened c = c.settle_one.ensures.opened ∙ c.loop-one.invariant.opened

pub loop-one-preserved : goal.loop-one-preserved
loop-one-preserved c =
    let at = c.loop-one in let one = c.in-Some.one in let rest = into_iter_items c.next.new.self in let next = c.in_ok-next.next in
    let steps : into_iter_items at.one-iterator ≡ one ∷ rest = c.in-Some.ensures.steps.0 in
    record {
      all = append_assoc at.yielded (one ∷ []) _ ∙ rw (← steps) at.invariant.all;
      count = (let was = at.invariant.count in let gone = c.in-Some.ensures.steps.1 in let short = ap length steps in omega arith);
      left = c.left_after-rest.ensures ∙ ap (λ (left : List Looks). asked_after left one) at.invariant.left ∙ sym (asked_left_more c.args.asked.now at.yielded one);
      asks = subst (λ (left : List Looks). HasAskedForAll left (option_copied c.args.ended)) (sym c.left_after-rest.ensures)
          (asked_for_rest one at.left.now (option_copied c.args.ended) at.invariant.asks);
      to_do = All-tail IsAskableUrl one rest (subst (λ (urls : List LookUrl). All IsAskableUrl urls) steps at.invariant.to_do);
      askable = subst (λ (urls : List LookUrl). All IsAskableUrl urls) (sym c.in_ok-push.ensures.ok) (All-push IsAskableUrl at.done next at.invariant.askable c.in_ok-next.ensures.askable);
      waits = c.settle_one.ensures.waits ∙ at.invariant.waits;
      opened = c.settle_one.ensures.opened ∙ at.invariant.opened;
      settled = λ target need start events line by has asked.
          settled_step c.looks_stay.ensures target need start events c.args.now by c.args.asked.now (option_copied c.args.ended) at.yielded one next (into_iter_items at.one-iterator) rest
          at.left.now c.left_after-rest.result.now at.done c.push.new.self at.looks c.settle_one.new.looks at.desk c.settle_one.new.desk line steps at.invariant.left c.left_after-rest.ensures
          c.in_ok-push.ensures.ok (at.invariant.settled target need start events line by has asked)
          (λ more kept asks. c.in_ok-next.ensures.settled target need start (events ++ more) line by (open_hits rest) kept asks);
    }

pub returns-in_err-push-clause-stopped : goal.returns-in_err-push-clause-stopped
returns-in_err-push-clause-stopped c target need start events line by has asked =
    let at = c.loop-one in let one = c.in-Some.one in let rest = into_iter_items c.next.new.self in
    let steps : into_iter_items at.one-iterator ≡ one ∷ rest = c.in-Some.ensures.steps.0 in
    err_says c.from_residual-in_err-push.result _
    (goes_step target need start events c.args.now by c.args.asked.now (option_copied c.args.ended) at.yielded one (into_iter_items at.one-iterator) rest at.left.now at.done at.looks at.desk
    c.settle_one.new.desk line steps (at.invariant.settled target need start events line by has asked)
    (λ more kept asks. (c.in_ok-next.ensures.settled target need start (events ++ more) line by (open_hits rest) kept asks).goes))

pub returns-in_err-push-clause-waits : goal.returns-in_err-push-clause-waits
returns-in_err-push-clause-waits c = c.settle_one.ensures.waits ∙ c.loop-one.invariant.waits

pub returns-in_err-push-clause-opened : goal.returns-in_err-push-clause-opened
returns-in_err-push-clause-opened c = c.settle_one.ensures.opened ∙ c.loop-one.invariant.opened

pub returns-clause-settled : goal.returns-clause-settled
returns-clause-settled c target need start events line by has asked =
    let at = c.loop-one in
    let rest = into_iter_items at.one-iterator in
    let none : rest ≡ [] = nil_from_length rest (sym at.invariant.count ∙ c.in-None.ensures.steps.0) in
    settled_all target need start events c.args.now by c.args.asked.now (option_copied c.args.ended) at.yielded c.args.urls rest at.left.now at.done at.looks at.desk line at.invariant.all none
    (at.invariant.settled target need start events line by has asked)

pub returns-clause-askable : goal.returns-clause-askable
returns-clause-askable c = c.loop-one.invariant.askable

pub returns-clause-waits : goal.returns-clause-waits
returns-clause-waits c = c.loop-one.invariant.waits

pub returns-clause-opened : goal.returns-clause-opened
returns-clause-opened c = c.loop-one.invariant.opened
