use Rattle.std.proofs.Common.{◌≡◌, ℕ, suc, ◌-◌, length, ap, ◌∙◌, arith}
use Rattle.snapshot_publish.specs.Publications.{kept_end}
use Rattle.snapshot_publish.specs.Publishing.{Publishing, publications_at_first}
use Rattle.snapshot_publish.proofs.Newest.{too_old, is_kept, number_there, lists_there}
use Rattle.snapshot_publish.proofs.publisher.Publisher.published.Goals as goal

pub returns-then-later-count-clause-kept : goal.returns-then-later-count-clause-kept
returns-then-later-count-clause-kept c =
    let kept = c.self.inside.kept.items in
    let list_is : publications_at_first c.self.inside.ends ≡ c.args.self.now.list = ap (λ (p : Publishing). p.list) c.self.view_is in
    let count : suc c.self.inside.last ≡ length c.args.self.now.list = c.self.invariant.count ∙ ap length list_is in
    let is = c.self.invariant.kept_is ∙ ap kept_end list_is in
    let e = c.in_ok-later.ensures in let n : c.len-count.result ≡ length kept = c.len-count.ensures ∙ c.self.inside.kept.ok.0 in let long = c.self.inside.kept.ok.0 in let far = c.if-later-count.true in
    (λ no. absurd cc, λ k. absurd (too_old c.args.self.now.list kept c.self.inside.last c.args.number c.in_ok-later.later count is (omega (arith, e)) (omega (arith, n, far)) k))

pub returns-clause-kept : goal.returns-clause-kept
returns-clause-kept c =
    let kept = c.self.inside.kept.items in
    let list_is : publications_at_first c.self.inside.ends ≡ c.args.self.now.list = ap (λ (p : Publishing). p.list) c.self.view_is in
    let count : suc c.self.inside.last ≡ length c.args.self.now.list = c.self.invariant.count ∙ ap length list_is in
    let is = c.self.invariant.kept_is ∙ ap kept_end list_is in
    let e = c.in_ok-later.ensures in let n : c.len-count.result ≡ length kept = c.len-count.ensures ∙ c.self.inside.kept.ok.0 in let long = c.self.inside.kept.ok.0 in let near = c.if-later-count.false in
    (λ _. is_kept c.args.self.now.list kept c.self.inside.last c.args.number c.in_ok-later.later count is (omega (arith, e)) (omega (arith, n, near)), λ _. c.get.ensures.variant.1 (omega (arith, n, near, long)))

pub returns-clause-number : goal.returns-clause-number
returns-clause-number c =
    let kept = c.self.inside.kept.items in let later : ℕ = c.in_ok-later.later in
    let list_is : publications_at_first c.self.inside.ends ≡ c.args.self.now.list = ap (λ (p : Publishing). p.list) c.self.view_is in
    let count : suc c.self.inside.last ≡ length c.args.self.now.list = c.self.invariant.count ∙ ap length list_is in
    let is = c.self.invariant.kept_is ∙ ap kept_end list_is in
    let e = c.in_ok-later.ensures in let n : c.len-count.result ≡ length kept = c.len-count.ensures ∙ c.self.inside.kept.ok.0 in let long = c.self.inside.kept.ok.0 in let near = c.if-later-count.false in
    number_there c.args.self.now.list kept c.self.inside.last c.args.number later (c.len-count.result - 1 - later) count is (omega (arith, e)) (omega (arith, n, near)) (ap (λ (m : ℕ). m - 1 - later) n) c.get.result c.get.ensures.lookup

pub returns-clause-lists : goal.returns-clause-lists
returns-clause-lists c =
    let kept = c.self.inside.kept.items in let later : ℕ = c.in_ok-later.later in
    let list_is : publications_at_first c.self.inside.ends ≡ c.args.self.now.list = ap (λ (p : Publishing). p.list) c.self.view_is in
    let count : suc c.self.inside.last ≡ length c.args.self.now.list = c.self.invariant.count ∙ ap length list_is in
    let is = c.self.invariant.kept_is ∙ ap kept_end list_is in
    let e = c.in_ok-later.ensures in let n : c.len-count.result ≡ length kept = c.len-count.ensures ∙ c.self.inside.kept.ok.0 in let long = c.self.inside.kept.ok.0 in let near = c.if-later-count.false in
    lists_there c.args.self.now.list kept c.self.inside.last c.args.number later (c.len-count.result - 1 - later) count is (omega (arith, e)) (omega (arith, n, near)) (ap (λ (m : ℕ). m - 1 - later) n) c.get.result c.get.ensures.lookup
