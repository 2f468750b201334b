use Rattle.std.proofs.Common.{rules, ◌≡◌, ◌++◌, ◌∷◌, [], List, length, sym, ap, ◌∙◌, subst, append_assoc, arith}
use Rattle.std.specs.Vec.Iter.{into_iter_items}
use Rattle.std.proofs.lemmas.List.{append-nil, nil_from_length}
use Rattle.proxy_looks.specs.Fates.{AreTold}
use Rattle.proxy_looks.specs.Settled.{AreLooksOf}
use Rattle.proxy_looks.specs.Urls.{open_hits}
use Rattle.proxy_looks.specs.declared.urls.LookUrl.{LookUrl}
use Rattle.proxy_serving.specs.declared.told.SeenUrl.{SeenUrl}
use Rattle.proxy_looks.proofs.Told.{are_told_push, count_left, enough_left, looks_left, looks_of_first}
use Rattle.proxy_looks.proofs.fates.all_seen.Goals as goal

pub loop-one-init : goal.loop-one-init
loop-one-init c =
    let items : into_iter_items c.into_iter-one-iterator.result ≡ c.args.urls = c.into_iter-one-iterator.ensures.into_iter_gives.0 ∙ c.into_vec-one-items.ensures in
    record {
      all = items;
      count = search rules;
      left = c.requires ∙ ap (λ (urls : List LookUrl). length (open_hits urls)) (sym items);
      told = λ start events are. (
        subst (λ (urls : List LookUrl). AreLooksOf start events (open_hits urls) c.args.looks.now) (sym items) are,
        subst (λ (seen : List SeenUrl). AreTold start events [] seen) (sym c.in_ok-seen.ensures) tt,
      );
    }

pub seen_of-requires : goal.seen_of-requires
seen_of-requires c =
    enough_left c.in-Some.one (into_iter_items c.loop-one.one-iterator) (into_iter_items c.next.new.self) c.loop-one.left.now c.in-Some.ensures.steps.0 c.loop-one.invariant.left

pub loop-one-preserved : goal.loop-one-preserved
loop-one-preserved c =
    let at = c.loop-one in let one = c.in-Some.one in let rest = into_iter_items c.next.new.self in let told = c.in_ok-seen_of.field-0 in
    let steps : into_iter_items at.one-iterator ≡ one ∷ rest = c.in-Some.ensures.steps.0 in
    record {
      all = append_assoc at.yielded (one ∷ []) _ ∙ rw (← steps) at.invariant.all;
      count = (let was = at.invariant.count in let gone = c.in-Some.ensures.steps.1 in let short = ap length steps in omega arith);
      left = count_left one (into_iter_items at.one-iterator) rest at.left.now c.left_after-rest.result.now steps c.left_after-rest.ensures at.invariant.left;
      told = λ start events are.
          let so = at.invariant.told start events are in (
            looks_left start events one (into_iter_items at.one-iterator) rest at.left.now c.left_after-rest.result.now steps c.left_after-rest.ensures so.0,
            subst (λ (seen : List SeenUrl). AreTold start events (at.yielded ++ one ∷ []) seen) (sym c.in_ok-push.ensures.ok)
                (are_told_push start events at.yielded at.seen one told so.1 c.in_ok-seen_of.ensures.url
                (c.in_ok-seen_of.ensures.told start events (looks_of_first start events one (into_iter_items at.one-iterator) rest at.left.now steps so.0))),
          );
    }

pub returns : goal.returns
returns c start events are =
    let at = c.loop-one in
    let rest = into_iter_items at.one-iterator in
    let none : rest ≡ [] = nil_from_length rest (sym at.invariant.count ∙ c.in-None.ensures.steps.0) in
    subst (λ (urls : List LookUrl). AreTold start events urls at.seen) (sym (append-nil at.yielded) ∙ ap (λ (rest : List LookUrl). at.yielded ++ rest) (sym none) ∙ at.invariant.all)
    (at.invariant.told start events are).1
