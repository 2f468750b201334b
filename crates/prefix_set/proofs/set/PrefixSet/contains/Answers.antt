use Rattle.std.proofs.Common.{◌≡◌, ℕ, List, drop, subst, sym, ◌∙◌}
use Rattle.std.specs.Prelude.{◌↔◌, IsTrue}
use Rattle.std.specs.List.{Contains}
use Rattle.prefix_set.specs.Search.{AreAfter}
use Rattle.prefix_set.proofs.LookupFacts.{not_before_from_after, found_at_place}
use Rattle.prefix_set.proofs.set.PrefixSet.contains.Goals as goal

pub place_between-requires-clause-above : goal.place_between-requires-clause-above
place_between-requires-clause-above c =
    not_before_from_after c.packed-members.result.now c.as_bytes-bytes.result.now c.span_of-span.result.end
    (subst (λ (members : List (List ℕ)). AreAfter (drop c.span_of-span.result.end members) c.as_bytes-bytes.result.now) (sym (c.packed-members.ensures.value ∙ c.self.view_is))
    (subst (AreAfter (drop c.span_of-span.result.end c.args.self.now)) (sym c.as_bytes-bytes.ensures) c.span_of-span.ensures.after))

pub returns : goal.returns
returns c =
    let same : c.packed-members.result.now ≡ c.args.self.now = c.packed-members.ensures.value ∙ c.self.view_is in
    let found : IsTrue c.is_found.result ↔ Contains c.packed-members.result.now c.as_bytes-bytes.result.now
    = found_at_place c.packed-members.result.now c.as_bytes-bytes.result.now c.place_between.result.index c.place_between.result.past c.is_found.result
    c.place_between.ensures.place c.is_found.ensures in
    subst (λ (members : List (List ℕ)). IsTrue c.is_found.result ↔ Contains members c.args.prefix.now) same
    (subst (λ (x : List ℕ). IsTrue c.is_found.result ↔ Contains c.packed-members.result.now x) c.as_bytes-bytes.ensures found)
