use Rattle.std.proofs.Common.{◌≡◌, ◌<◌, Some, List, [], ◌++◌, drop, refl, sym, ap, subst, ◌∙◌, arith}
use Rattle.std.specs.Prelude.{slice_get, All}
use Rattle.std.proofs.lemmas.List.{take-append-drop}
use Rattle.sb_model.specs.Difference.{removed_places, added_members}
use Rattle.sb_model.specs.Prefixes.{concatenation}
use Rattle.list_versions.specs.declared.stretch.Stretch.{Stretch}
use Rattle.list_versions.specs.Stretches.{AreInOrder}
use Rattle.delta_server.specs.Sweeping.{shown_at}
use Rattle.delta_server.proofs.PassageFacts.{order_later, whole_next, below_next, passed_next, first_in, first_is, all_passed}
use Rattle.delta_server.proofs.passages.passage_between.Goals as goal

pub loop-first-init : goal.loop-first-init
loop-first-init c = record {
  done = [];
  whole = refl;
  below = λ s t h k. absurd h;
  passed = c.nothing-passage.ensures (shown_at c.args.stretches.now c.args.held) (shown_at c.args.stretches.now c.args.version) c.args.held c.args.version;
}

pub loop-first-preserved : goal.loop-first-preserved
loop-first-preserved c =
    let before = c.loop-first.invariant in
    let rest : List Stretch = c.loop-first.rest.now in
    let first : Stretch = c.in-Some.first.now in
    let run : List Stretch = c.split_at.result.0.now in
    let later : List Stretch = c.split_at.result.1.now in
    let at : slice_get rest 0 ≡ Some first = sym c.in-Some.ensures.value in
    let cut = first_is rest first at in
    let order = order_later before.done rest (subst AreInOrder before.whole c.requires.order) in
    let split : rest ≡ run ++ later = sym (take-append-drop c.run_len.result rest) ∙ ap (λ (xs : List Stretch). xs ++ drop c.run_len.result rest) (sym c.split_at.ensures.front)
    ∙ ap (λ (xs : List Stretch). run ++ xs) (sym c.split_at.ensures.back) in
    let own = subst (All (λ (s : Stretch). s.head ≡ first.head)) (sym c.split_at.ensures.front) c.run_len.ensures.own in
    let after = subst (All (λ (s : Stretch). first.head < s.head)) (sym c.split_at.ensures.back) (c.run_len.ensures.later order first cut.0 cut.1 refl) in
    let there = first_in rest first at in
    record {
      done = before.done ++ run;
      whole = whole_next c.args.stretches.now before.done rest run later first before.whole split before.below c.requires.heads there own after;
      below = below_next c.args.stretches.now before.done rest run later first before.whole split before.below c.requires.heads there own after;
      passed = passed_next c.args.stretches.now before.done rest run later first before.whole split before.below c.requires.heads there own after
          c.loop-first.passage c.take.new.self c.args.held c.args.version c.in_ok-take.ensures c.requires.few before.passed;
    }

pub loop-first-smaller : goal.loop-first-smaller
loop-first-smaller c =
    let first : Stretch = c.in-Some.first.now in
    let cut = first_is c.loop-first.rest.now first (sym c.in-Some.ensures.value) in
    let some = c.run_len.ensures.some first cut.0 cut.1 refl in
    omega (arith, some, c.split_at.ensures.back_len)

pub returns-clause-removals : goal.returns-clause-removals
returns-clause-removals c =
    let before = c.loop-first.invariant in
    let all : before.done ≡ c.args.stretches.now = all_passed c.args.stretches.now before.done c.loop-first.rest.now before.whole (sym c.in_default.ensures.value) in
    before.passed.removals ∙ ap (λ (xs : List Stretch). removed_places (shown_at xs c.args.held) (shown_at c.args.stretches.now c.args.version)) all

pub returns-clause-additions : goal.returns-clause-additions
returns-clause-additions c =
    let before = c.loop-first.invariant in
    let all : before.done ≡ c.args.stretches.now = all_passed c.args.stretches.now before.done c.loop-first.rest.now before.whole (sym c.in_default.ensures.value) in
    before.passed.additions ∙ ap (λ (xs : List Stretch). added_members (shown_at c.args.stretches.now c.args.held) (shown_at xs c.args.version)) all

pub returns-clause-bytes : goal.returns-clause-bytes
returns-clause-bytes c =
    let before = c.loop-first.invariant in
    let all : before.done ≡ c.args.stretches.now = all_passed c.args.stretches.now before.done c.loop-first.rest.now before.whole (sym c.in_default.ensures.value) in
    before.passed.bytes ∙ ap (λ (xs : List Stretch). concatenation (shown_at xs c.args.version)) all
