use Rattle.std.proofs.Common.{◌≡◌, ◌≢◌, Bool, List, length, sym, ap, ◌∙◌, subst, MatchBool}
use Rattle.snapshot_publish.specs.Publications.{Publications, Publication, IsLastOf}
use Rattle.snapshot_publish.specs.Publishing.{Publishing}
use Rattle.url_checker.specs.declared.findings.Checked.{Checked}
use Rattle.parallel_checks.specs.Checks.{of_seat}
use Rattle.parallel_checks.specs.Settled.{NameKeptPublications, MayStand}
use Rattle.parallel_checks.proofs.SettleFacts.{stand_settled, anew_settled, on_ok}
use Rattle.parallel_checks.proofs.settling.settle_seat.Goals as goal
use Rattle.parallel_checks.proofs.settling.settle_seat.Goals.{else-same-via-then-same+else-are_kept, else-same-via-else-same}

pub returns-then-are_kept-clause-settled : goal.returns-then-are_kept-clause-settled
returns-then-are_kept-clause-settled c =
    let all = c.args.publisher.now.list in let seat = c.catch_up.new.seat in let own = of_seat c.args.checks.now c.args.step c.args.place in
    let told = c.in_ok-same.ensures in
    let list = ap (λ (p : Publishing). p.list) told.publisher in
    let same = subst (λ (b : Bool). MatchBool b (length seat.list ≡ length all) (length seat.list ≢ length all)) c.if-same.true told.same in
    let kept = subst (λ (q : Publications × List Checked). NameKeptPublications q.0 (of_seat q.1 c.args.step c.args.place)) (λ i. (list i, c.as_slice.ensures i)) c.if-are_kept.ensures in
    stand_settled all c.args.seat.now seat (of_seat c.args.urls.now c.args.step c.args.place) own told.goes_on told.told (record { looked = told.looked; whole = same; kept = kept }) c.requires.are

pub returns-clause-settled : goal.returns-clause-settled
returns-clause-settled c =
    let all = c.args.publisher.now.list in let seat = c.catch_up.new.seat in let old = of_seat c.args.checks.now c.args.step c.args.place in
    let told = c.in_ok-same.ensures in
    let list = ap (λ (p : Publishing). p.list) told.publisher in
    let last : Publication = c.with_sizes-shown.result.last in
    let is_last : IsLastOf all last = subst (λ (q : Publications × Publication). IsLastOf q.0 q.1) (λ i. (list i, sym c.with_sizes-shown.ensures i)) c.in_ok-last_of.ensures in
    let settled = λ (not_so : MayStand all seat old → ⊥). on_ok c.check_anew.result
    (λ anew. anew_settled all last c.args.urls.now c.check_anew.new.checks c.args.step c.args.place is_last (c.check_anew.ensures.count ∙ c.requires.count) anew seat old not_so)
    c.check_anew.ensures.anew in
    elim c.else-same.branch [
      | else-same-via-then-same+else-are_kept w ↦
          settled (λ may. subst (λ (q : Publications × List Checked). NameKeptPublications q.0 (of_seat q.1 c.args.step c.args.place) → ⊥) (λ i. (list i, w.as_slice.ensures i)) w.if-are_kept.ensures may.kept)
      | else-same-via-else-same w ↦
          settled (λ may. subst (λ (b : Bool). MatchBool b (length seat.list ≡ length all) (length seat.list ≢ length all)) w.if-same.false told.same may.whole)
    ]
