use Rattle.std.proofs.Common.{◌≡◌, [], Some, None, IfOk, sym, ap, subst, ◌∙◌}
use Rattle.std.specs.Map.{lookup}
use Rattle.std.specs.Option.{option_copied, option_map_or}
use Rattle.full_hash_cache.specs.Cache.{Matches, kept_of_pair, latest, alive}
use Rattle.full_hash_cache.proofs.SamePairs.{pair_eq}
use Rattle.full_hash_cache.proofs.cache.FullHashCache.alive_matches.Goals as goal

pub returns-in-Some : goal.returns-in-Some
returns-in-Some c =
    let pair = c.args.pair.now in
    let kept : kept_of_pair c.args.self.now pair ≡ Some c.in-Some.kept.now
    = sym (λ i. lookup (pair_eq i pair) (c.self.view_is i)) ∙ sym c.peek.ensures ∙ ap option_copied c.in-Some.is in
    let matches = ap (λ k. k.matches) c.kept.view_is in
    let same = ap (λ m. latest (alive c.args.at m)) matches ∙ sym (ap (λ o. latest (alive c.args.at (option_map_or (λ k. k.matches) o []))) kept) in
    subst (λ (m : Matches). IfOk c.alive_of.result (λ r. r.entries ≡ m)) same c.alive_of.ensures

pub returns-in-None : goal.returns-in-None
returns-in-None c =
    let pair = c.args.pair.now in
    let kept : kept_of_pair c.args.self.now pair ≡ None
    = sym (λ i. lookup (pair_eq i pair) (c.self.view_is i)) ∙ sym c.peek.ensures ∙ ap option_copied c.in-None.is in
    c.new.ensures.empty ∙ sym (ap (λ o. latest (alive c.args.at (option_map_or (λ k. k.matches) o []))) kept)
