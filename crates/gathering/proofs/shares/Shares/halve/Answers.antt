use Rattle.std.proofs.Common.{rules, ◌/◌, ◌^◌, nat_lt}
use Rattle.std.proofs.lemmas.Map.Made.{filter_same_pairs, map_same_pairs}
use Rattle.gathering.proofs.shares.Shares.halve.Goals as goal

pub returns : goal.returns
returns c =
    let mapped = map_same_pairs _ (λ v. v / 2 ^ c.min-times.result) _ (λ k v b w f' t. search rules) _ _ c.retain.ensures.filtered in
    let kept = filter_same_pairs _ (λ e. nat_lt 0 e.1) _ (λ k v b w f' t. search rules) _ _ c.retain-2.ensures.filtered in
    rw (kept, mapped) (search rules)
